use Rattle.std.proofs.Common.{[]}
use Rattle.vm_frames.proofs.Numbered.{found_number, found_some}
use Rattle.vm_frames.proofs.literals.number_of.Goals as goal

pub unreachable-requires : goal.unreachable-requires
unreachable-requires c = found_some c.args.literals.now c.args.text.now c.in-Err.field-0 c.requires.in_order c.requires.known c.in-Err.ensures.position

pub returns : goal.returns
returns c = found_number c.args.literals.now c.in-Ok.number record { ref_ptr = (0, 0); now = [] } c.args.text.now c.requires.in_order c.in-Ok.ensures.bound (c.in-Ok.ensures.ok _)
