use Rattle.std.proofs.Common.{◌≡◌, map, take, length, Ok}
use Rattle.std.specs.List.{filter_map}
use Rattle.hog_scope.specs.Events.{event_of, name_in}
use Rattle.hog_scope.specs.Scopes.{run, start}
use Rattle.hog_scope.proofs.scoped.resolve.Given as goal

abbrev pub invariant-loop-event : goal.invariant-loop-event
invariant-loop-event l = record {
  ran : run (map event_of (take l.event-index l.event-items)) start ≡ Ok l.resolver;
  item_count : length l.resolver.items ≡ length (filter_map name_in (take l.event-index l.event-items));
}
