use Rattle.std.proofs.Common.{◌≡◌, ◌≤◌, List, length, take}
use Rattle.std.specs.Prelude.{sum_by}
use Rattle.line_writer.specs.Added.{AddsBytes}
use Rattle.script_steps.specs.Free.{AreFree}
use Rattle.script_steps.specs.Lines.{step_lines}
use Rattle.script_steps.specs.Play.{PlaysOn, RoseBy, faults_in, stage_of}
use Rattle.script_steps.specs.Plays.{empty_stage}
use Rattle.script_steps.specs.declared.said.Said.{Said}
use Rattle.script_steps.proofs.player.play.Given as goal

-- the steps up to this one were played, their lines were taken, and all jobs take any reply
abbrev pub invariant-loop-step : goal.invariant-loop-step
invariant-loop-step g l =
    (saids : List Said)
    × PlaysOn (take l.step-index l.step-items) empty_stage saids (stage_of l.queue l.hands.items)
    × RoseBy (sum_by faults_in saids) (g.K.Keeper.faults l.fn.keeper) (g.K.Keeper.faults l.queue.keeper)
    × AddsBytes (g.W.Sink.taken l.fn.sink) (g.W.Sink.taken l.sink) (step_lines (take l.step-index l.step-items) saids)
    × (g.W.Sink.faults l.fn.sink ≤ g.W.Sink.faults l.sink)
    × (length l.hands.items ≡ 16)
    × AreFree (stage_of l.queue l.hands.items)
