use Rattle.std.proofs.Common.{take, ◌≤◌}
use Rattle.line_writer.specs.Added.{AddsBytes}
use Rattle.hog_json.specs.Lines.{trace_lines}
use Rattle.line_writer.proofs.output.write_trace.Given as goal

-- the lines up to this item were taken
abbrev pub invariant-loop-item : goal.invariant-loop-item
invariant-loop-item g l =
    AddsBytes (g.W.Sink.taken l.fn.sink) (g.W.Sink.taken l.sink) (trace_lines (take l.item-index l.items)) × (g.W.Sink.faults l.fn.sink ≤ g.W.Sink.faults l.sink)
