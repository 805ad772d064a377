use Rattle.std.proofs.Common.{◌≡◌, ◌≤◌, map, take}
use Rattle.std.specs.Prelude.{sum_by}
use Rattle.hog_scope.specs.Events.{event_of}
use Rattle.hog_scope.specs.Literals.{item_count, texts_of, in_byte_order}
use Rattle.hog_scope.proofs.texts.literal_set.Given as goal

abbrev pub invariant-loop-event : goal.invariant-loop-event
invariant-loop-event l = record {
  few : l.next ≤ l.event-index;
  counted : l.next ≡ sum_by item_count (map event_of (take l.event-index l.event-items));
  collected : map (λ t. t.now) l.texts.keys ≡ in_byte_order (texts_of (map event_of (take l.event-index l.event-items)) l.items);
}
