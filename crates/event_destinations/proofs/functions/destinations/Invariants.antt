use Rattle.std.proofs.Common.{◌≡◌, ◌+◌, ◌≤◌, ◌++◌, length}
use Rattle.std.specs.List.{All}
use Rattle.std.specs.Vec.Iter.{into_iter_items, into_iter_len}
use Rattle.event_plans.specs.Draft.{most_functions}
use Rattle.event_plans.specs.Drafts.{functions_of}
use Rattle.event_destinations.specs.Destinations.{IsReady}
use Rattle.event_destinations.specs.Seen.{of_destinations}
use Rattle.event_destinations.proofs.functions.destinations.Given as goal

-- the functions so far are ready, and these are their destinations
abbrev pub invariant-loop-function : goal.invariant-loop-function
invariant-loop-function l = record {
  split : functions_of l.fn.functions.items ≡ of_destinations l.destinations.items ++ functions_of (into_iter_items l.function-iterator);
  ready : All IsReady (of_destinations l.destinations.items);
  place : l.n ≡ length l.destinations.items;
  left : length (into_iter_items l.function-iterator) ≡ into_iter_len l.function-iterator;
  few : length l.destinations.items + length (into_iter_items l.function-iterator) ≤ most_functions;
}
