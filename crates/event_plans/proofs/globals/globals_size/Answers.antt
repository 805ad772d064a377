use Rattle.event_plans.proofs.GlobalsLemmas.{globals_length, globals_count}
use Rattle.event_plans.proofs.globals.globals_size.Goals as goal

pub returns-clause-size : goal.returns-clause-size
returns-clause-size c = globals_length

pub returns-clause-nulled : goal.returns-clause-nulled
returns-clause-nulled c = globals_count
