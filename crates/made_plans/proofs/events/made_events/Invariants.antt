use Rattle.std.proofs.Common.{◌≡◌, map}
use Rattle.std.specs.List.{range_with_len}
use Rattle.event_plans.specs.Drafts.{datas_of}
use Rattle.made_plans.specs.Made.{made_event}
use Rattle.made_plans.proofs.events.made_events.Given as goal

-- the events so far are those of the numbers so far
abbrev pub invariant-loop-i : goal.invariant-loop-i
invariant-loop-i l = datas_of l.events.items ≡ map (made_event l.n) (range_with_len 0 l.i)
