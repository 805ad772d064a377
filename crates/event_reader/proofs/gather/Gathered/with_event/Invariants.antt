use Rattle.std.proofs.Common.{take}
use Rattle.event_destinations.specs.Seen.{of_destinations}
use Rattle.event_plans.specs.Drafts.{data_of}
use Rattle.event_reader.specs.Gathering.{AddsRow}
use Rattle.event_reader.proofs.gather.Gathered.with_event.Given as goal

-- what comes of the destinations up to this one was added
abbrev pub invariant-loop-n : goal.invariant-loop-n
invariant-loop-n l = AddsRow l.place (data_of l.event) (take l.n (of_destinations l.destinations)) l.fn.self l.gathered
