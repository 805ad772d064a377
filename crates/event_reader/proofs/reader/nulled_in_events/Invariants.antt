use Rattle.std.proofs.Common.{◌≡◌, take}
use Rattle.std.specs.Prelude.{sum_by}
use Rattle.hog_json.specs.Nulled.{count_nulled}
use Rattle.event_plans.specs.Drafts.{data_of}
use Rattle.event_plans.specs.declared.event.Event.{Event}
use Rattle.event_reader.proofs.reader.nulled_in_events.Given as goal

-- so many are in the events up to this one
abbrev pub invariant-loop-event : goal.invariant-loop-event
invariant-loop-event l = l.count ≡ sum_by (λ (e : Event). count_nulled (data_of e)) (take l.event-index l.events)
