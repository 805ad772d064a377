use Rattle.std.proofs.Common.{◌≡◌, ◌+◌, List, ◌++◌, take}
use Rattle.serde_json.specs.View.{items_view, members_view}
use Rattle.serde_json.proofs.Views.{Entry}
use Rattle.hog_json.specs.Nulled.{count_nulled_items, count_nulled_members}
use Rattle.hog_json.proofs.nulled.+count.Given as goal

abbrev pub invariant-add_nulled_items-loop-item : goal.invariant-add_nulled_items-loop-item
invariant-add_nulled_items-loop-item l = l.counted ≡ l.fn.count + count_nulled_items (items_view (take l.item-index l.item-items))

abbrev pub invariant-add_nulled_members-loop-member : goal.invariant-add_nulled_members-loop-member
invariant-add_nulled_members-loop-member l =
    (done : List Entry) × (l.members.entries ≡ done ++ l.member-iterator) × (l.counted ≡ l.fn.count + count_nulled_members (members_view done))
