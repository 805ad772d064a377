use Rattle.event_reader.proofs.Refusals.{plan_or_none, plan_or_none_of}
use Rattle.event_reader.proofs.laws.plan_or_none.Goals as goal

pub returns-clause-draft : goal.returns-clause-draft
returns-clause-draft c = plan_or_none_of c.one_whole.ensures c.all_or_first_stop.ensures

pub returns-clause-text : goal.returns-clause-text
returns-clause-text c = plan_or_none c.one_whole.ensures c.all_or_first_stop.ensures c.one_draft.ensures c.draft_or_none.ensures
