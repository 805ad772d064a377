use Rattle.std.proofs.Common.{◌≤◌, ◌-◌, length, take}
use Rattle.std.specs.Prelude.{flat_map}
use Rattle.line_writer.specs.Added.{AddsBytes}
use Rattle.script_steps.specs.Lines.{row_lines}
use Rattle.script_steps.proofs.lines.write_rows.Given as goal

-- the lines of the jobs up to this one were taken
abbrev pub invariant-loop-row : goal.invariant-loop-row
invariant-loop-row g l = record {
  within : l.job ≤ length l.queue.rows;
  added : AddsBytes (g.W.Sink.taken l.fn.sink) (g.W.Sink.taken l.sink) (flat_map row_lines (take l.job l.queue.rows));
  count : g.W.Sink.faults l.fn.sink ≤ g.W.Sink.faults l.sink;
}

abbrev pub decreases-loop-row : goal.decreases-loop-row
decreases-loop-row g l = length l.queue.rows - l.job
