use Rattle.std.proofs.Common.{ap, ◌∙◌, arith}
use Rattle.vm_course.specs.States.{is_state}
use Rattle.vm_state.proofs.Built.{holds, same_run, modes, is_true}
use Rattle.vm_state.proofs.building.machine_of.Goals as goal

pub from_cells-heap-requires : goal.from_cells-heap-requires
from_cells-heap-requires c = (holds c.args.p c.requires.state c.requires.ranged).sound

pub upvalues_of-requires : goal.upvalues_of-requires
upvalues_of-requires c = is_true _ (holds c.args.p c.requires.state c.requires.ranged).differ

pub split-around-requires-clause-some : goal.split-around-requires-clause-some
split-around-requires-clause-some c = (holds c.args.p c.requires.state c.requires.ranged).some

pub split-around-requires-clause-few : goal.split-around-requires-clause-few
split-around-requires-clause-few c = (holds c.args.p c.requires.state c.requires.ranged).few

pub invariant_of-meter : goal.invariant_of-meter
invariant_of-meter c = let h = holds c.args.p c.requires.state c.requires.ranged in (h.turns, h.units, omega arith)

pub from_parts-requires : goal.from_parts-requires
from_parts-requires c =
    ap is_state (same_run c.args.p _ _ _ _ _ _ _ c.in_ok-stack.ensures c.split-around.ensures c.from_list.ensures c.in_ok-upvalues.ensures c.from_cells-heap.ensures c.new-trace.ensures (modes c.args.p.waiting c.args.p.end))
    ∙ c.requires.state
