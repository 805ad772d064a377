use Rattle.std.proofs.Common.{◌≡◌, ◌+◌, List, [], ◌∷◌, ◌++◌, take, sym, ap, ◌∙◌, arith, append_assoc}
use Rattle.std.proofs.lemmas.List.{take_more}
use Rattle.serde_json.specs.View.{view, items_view, members_view}
use Rattle.serde_json.specs.declared.value.Value.{Value}
use Rattle.serde_json.proofs.Views.{Entry}
use Rattle.hog_json.specs.Nulled.{count_nulled, count_nulled_items, count_nulled_members}
use Rattle.hog_json.proofs.nulled.+count.Goals as goal

item_more : (xs : List Value) (v : Value) → count_nulled_items (items_view (xs ++ v ∷ [])) ≡ count_nulled_items (items_view xs) + count_nulled (view v)
item_more [] v = omega arith
item_more (x ∷ xs) v = let rest = item_more xs v in omega arith

member_more : (es : List Entry) (e : Entry) → count_nulled_members (members_view (es ++ e ∷ [])) ≡ count_nulled_members (members_view es) + count_nulled (view e.1)
member_more [] e = omega arith
member_more (d ∷ es) e = let rest = member_more es e in omega arith

pub add_nulled_items-loop-item-preserved : goal.add_nulled_items-loop-item-preserved
add_nulled_items-loop-item-preserved t c =
    let items = c.deref-item-items.result.now in
    let i = c.loop-item.item-index in
    let next = take_more items i c.item-item.result c.loop-item-test.true ∙ ap (λ x. take i items ++ x ∷ []) (sym c.item-item.is) in
    let sum = ap (λ xs. count_nulled_items (items_view xs)) next ∙ item_more (take i items) c.item-item.result in
    omega (arith, sum, c.in_ok-counted.ensures)

pub add_nulled_members-loop-member-preserved : goal.add_nulled_members-loop-member-preserved
add_nulled_members-loop-member-preserved t c =
    let l = c.loop-member in
    let done = l.invariant.0 in
    let e : Entry = (c.in-Some.field-0-0.now, c.in-Some.member.now) in
    let left = c.next.new.self in
    let all = l.invariant.1 ∙ ap (λ es. done ++ es) c.in-Some.ensures.steps in
    (done ++ e ∷ [], all ∙ sym (append_assoc done (e ∷ []) left), omega (arith, l.invariant.2, member_more done e, c.in_ok-counted.ensures))
