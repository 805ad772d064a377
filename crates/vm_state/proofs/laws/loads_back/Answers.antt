use Rattle.vm_state.proofs.Loading.{loads_saved, loads_old, renews}
use Rattle.vm_state.proofs.Formats.{saves_loaded, has_format}
use Rattle.vm_state.proofs.laws.loads_back.Goals as goal

pub returns-clause-saved : goal.returns-clause-saved
returns-clause-saved c = loads_saved

pub returns-clause-old : goal.returns-clause-old
returns-clause-old c = loads_old

pub returns-clause-same : goal.returns-clause-same
returns-clause-same c = saves_loaded

pub returns-clause-format : goal.returns-clause-format
returns-clause-format c = has_format

pub returns-clause-renewed : goal.returns-clause-renewed
returns-clause-renewed c = renews
