use Rattle.std.proofs.Common.{length, take, ◌-◌, ◌≤◌}
use Rattle.line_writer.specs.Added.{AddsBytes}
use Rattle.line_writer.proofs.output.write_whole.Given as goal

-- the bytes up to this place were taken
abbrev pub invariant-loop-at : goal.invariant-loop-at
invariant-loop-at g l =
    (l.at ≤ length l.piece) × AddsBytes (g.W.Sink.taken l.fn.sink) (g.W.Sink.taken l.sink) (take l.at l.piece) × (g.W.Sink.faults l.fn.sink ≤ g.W.Sink.faults l.sink)

abbrev pub decreases-loop-at : goal.decreases-loop-at
decreases-loop-at g l = length l.piece - l.at
