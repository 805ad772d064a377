use Rattle.event_reader.proofs.Refusals.{one_refusal, one_refusal_of}
use Rattle.event_reader.proofs.laws.one_refusal.Goals as goal

pub returns-clause-draft : goal.returns-clause-draft
returns-clause-draft c = one_refusal_of c.one_whole.ensures c.all_or_first_stop.ensures c.ready_or_stopped.ensures

pub returns-clause-text : goal.returns-clause-text
returns-clause-text c =
    one_refusal c.one_whole.ensures c.all_or_first_stop.ensures c.ready_or_stopped.ensures c.one_draft.ensures c.draft_or_none.ensures c.one_refusal.ensures
