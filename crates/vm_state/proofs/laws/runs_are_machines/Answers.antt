use Rattle.vm_state.proofs.RunsStand as runs
use Rattle.vm_state.proofs.laws.runs_are_machines.Goals as goal

pub returns : goal.returns
returns c = runs.runs_are_machines
