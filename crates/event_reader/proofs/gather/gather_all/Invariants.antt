use Rattle.std.proofs.Common.{take}
use Rattle.event_destinations.specs.Seen.{of_destinations}
use Rattle.event_plans.specs.Drafts.{datas_of}
use Rattle.event_reader.specs.Gathering.{GathersAll}
use Rattle.event_reader.proofs.gather.gather_all.Given as goal

-- what comes of the events up to this one was gathered
abbrev pub invariant-loop-e : goal.invariant-loop-e
invariant-loop-e l = GathersAll (take l.e (datas_of l.events)) (of_destinations l.destinations) l.gathered
