use Rattle.made_plans.proofs.PlanLemmas.{made_checked, made_length}
use Rattle.made_plans.proofs.laws.made_is_checked.Goals as goal

pub returns-clause-events : goal.returns-clause-events
returns-clause-events c = made_length

pub returns-clause-checked : goal.returns-clause-checked
returns-clause-checked c = made_checked
