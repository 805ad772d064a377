use Rattle.event_plans.proofs.DraftLemmas.{one_refusal}
use Rattle.event_plans.proofs.laws.one_refusal.Goals as goal

pub returns : goal.returns
returns c = one_refusal
