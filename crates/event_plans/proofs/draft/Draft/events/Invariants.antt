use Rattle.std.proofs.Common.{◌≡◌, None, take}
use Rattle.event_plans.specs.Drafts.{datas_of}
use Rattle.event_plans.specs.Event.{events_stop}
use Rattle.event_plans.specs.Members.{views}
use Rattle.event_plans.proofs.draft.Draft.events.Given as goal

-- the values up to this one are these events
abbrev pub invariant-loop-n : goal.invariant-loop-n
invariant-loop-n l = record {
  events : datas_of l.events.items ≡ views (take l.n l.values);
  are : events_stop 0 (views (take l.n l.values)) ≡ None;
}
