use Rattle.vm_operations.specs.Parts.{run_of}
use Rattle.vm_operations.proofs.Passing.{fit_by, standing_by}
use Rattle.vm_operations.proofs.machine.Machine.from_parts.Goals as goal

pub invariant_of-state : goal.invariant_of-state
invariant_of-state c = fit_by (run_of c.args.p) c.requires

pub invariant_of-result : goal.invariant_of-result
invariant_of-result c = standing_by (run_of c.args.p) c.requires
