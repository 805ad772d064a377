use Rattle.event_plans.proofs.DraftLemmas.{one_draft}
use Rattle.event_plans.proofs.laws.one_draft.Goals as goal

pub returns : goal.returns
returns c = one_draft
