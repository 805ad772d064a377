use Rattle.event_plans.proofs.DraftLemmas.{draft_or_none}
use Rattle.event_plans.proofs.laws.draft_or_none.Goals as goal

pub returns : goal.returns
returns c = draft_or_none
