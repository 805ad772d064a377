use Rattle.vm_state.proofs.MachinesGoOn.{runs_begin, slices_keep, replies_keep, saved_slices}
use Rattle.vm_state.proofs.laws.machines_go_on.Goals as goal

pub returns-clause-begun : goal.returns-clause-begun
returns-clause-begun c = runs_begin

pub returns-clause-slices : goal.returns-clause-slices
returns-clause-slices c = slices_keep

pub returns-clause-replies : goal.returns-clause-replies
returns-clause-replies c = replies_keep

pub returns-clause-saved : goal.returns-clause-saved
returns-clause-saved c = saved_slices
