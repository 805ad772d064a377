use Rattle.event_reader.proofs.One.{one_of_draft, one_of_text}
use Rattle.event_reader.proofs.laws.one_plan.Goals as goal

pub returns-clause-draft : goal.returns-clause-draft
returns-clause-draft c = one_of_draft c.one_whole.ensures

pub returns-clause-text : goal.returns-clause-text
returns-clause-text c = one_of_text c.one_whole.ensures c.one_draft.ensures
