use Rattle.vm_state.proofs.Exact.{loads_exactly, refuses_exactly}
use Rattle.vm_state.proofs.Formats.{loads_states}
use Rattle.vm_state.proofs.laws.loads_exactly.Goals as goal

pub returns-clause-loaded : goal.returns-clause-loaded
returns-clause-loaded c = loads_exactly

pub returns-clause-refused : goal.returns-clause-refused
returns-clause-refused c = refuses_exactly

pub returns-clause-states : goal.returns-clause-states
returns-clause-states c = loads_states
