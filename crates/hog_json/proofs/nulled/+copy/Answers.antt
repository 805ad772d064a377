use Rattle.std.proofs.Common.{◌≡◌, ℕ, List, [], ◌∷◌, ◌++◌, string_bytes, refl, sym, ap, ◌∙◌, subst, append_assoc, take}
use Rattle.std.specs.List.Sorted.{IsStrictlySortedBy}
use Rattle.std.specs.Map.{keys_of}
use Rattle.std.specs.String.{string_cmp}
use Rattle.serde_json.specs.Data.{Data, Items, no_items, item, Members, no_members, member, put}
use Rattle.serde_json.specs.View.{view, items_view, members_view}
use Rattle.serde_json.specs.declared.value.Value.{Value}
use Rattle.serde_json.proofs.Views.{Entry, members_view-insert_entry, put_last}
use Rattle.std.specs.Ordering.{match_ordering, nat_cmp}
use Rattle.std.specs.declared.cmp.Ordering.{Ordering}
use Rattle.std.specs.declared.cmp.Ordering.TheVariants.{Less, Equal, Greater}
use Rattle.std.specs.Cmp.Lexicographic.{slice_cmp}
use Rattle.std.proofs.lemmas.List.{take_more}
use Rattle.hog_json.specs.Nulled.{nulled, nulled_items, nulled_members}
use Rattle.hog_json.proofs.nulled.+copy.Goals as goal

abbrev push_item : Items → Data → Items
push_item no_items x = item x no_items
push_item (item d ds) x = item d (push_item ds x)

pushed_view : (xs : List Value) (v : Value) → items_view (xs ++ v ∷ []) ≡ push_item (items_view xs) (view v)
pushed_view [] v = refl
pushed_view (x ∷ xs) v = ap (item (view x)) (pushed_view xs v)

pushed_nulled : (ds : Items) (x : Data) → nulled_items (push_item ds x) ≡ push_item (nulled_items ds) (nulled x)
pushed_nulled no_items x = refl
pushed_nulled (item d ds) x = ap (item (nulled d)) (pushed_nulled ds x)

-- one more item on both sides
one_more : (xs ys : List Value) (v w : Value) → items_view xs ≡ nulled_items (items_view ys) → view v ≡ nulled (view w) → items_view (xs ++ v ∷ []) ≡ nulled_items (items_view (ys ++ w ∷ []))
one_more xs ys v w e h = pushed_view xs v ∙ rw (e, h) (sym (pushed_nulled (items_view ys) (view w))) ∙ ap nulled_items (sym (pushed_view ys w))

pub copy_items-loop-item-preserved : goal.copy_items-loop-item-preserved
copy_items-loop-item-preserved t c =
    let more = take_more c.deref-item-items.result.now c.loop-item.item-index c.item-item.result c.loop-item-test.true in
    ap items_view c.in_ok-push.ensures.items
    ∙ one_more c.loop-item.copies.items (take c.loop-item.item-index c.deref-item-items.result.now) c.in_ok-copy_nulled.field-0 c.item-item.result c.loop-item.invariant c.in_ok-copy_nulled.ensures
    ∙ ap (λ xs. nulled_items (items_view xs)) (sym (more ∙ ap (λ x. take c.loop-item.item-index c.deref-item-items.result.now ++ x ∷ []) (sym c.item-item.is)))

match_nulled : (o : Ordering) (a b c : Members) → nulled_members (match_ordering o a b c) ≡ match_ordering o (nulled_members a) (nulled_members b) (nulled_members c)
match_nulled Less a b c = refl
match_nulled Equal a b c = refl
match_nulled Greater a b c = refl

put_nulled : (k : List ℕ) (d : Data) (ms : Members) → nulled_members (put k d ms) ≡ put k (nulled d) (nulled_members ms)
put_nulled k d no_members = refl
put_nulled k d (member l e ms) = match_nulled (slice_cmp nat_cmp k l) _ _ _ ∙ ap (λ x. match_ordering (slice_cmp nat_cmp k l) (member k (nulled d) (member l (nulled e) (nulled_members ms))) (member l (nulled d) (nulled_members ms)) (member l (nulled e) x)) (put_nulled k d ms)

pub copy_members-loop-key-preserved : goal.copy_members-loop-key-preserved
copy_members-loop-key-preserved t c =
    let l = c.loop-key in
    let done = l.invariant.0 in
    let e : Entry = (c.in-Some.key.now, c.in-Some.member.now) in
    let left = c.next.new.self in
    let all : c.args.members.now.entries ≡ done ++ e ∷ left = l.invariant.1 ∙ ap (λ es. done ++ es) c.in-Some.ensures.steps in
    let last = put_last done e left (subst (λ es. IsStrictlySortedBy string_cmp (keys_of es)) all c.iter-key-items.ensures.ordered) in
    let named : string_bytes c.in_ok-name.name ≡ string_bytes e.0 = c.in_ok-name.ensures.cases in
    let added = ap members_view c.in_ok-insert.ensures.entries ∙ members_view-insert_entry l.copies.entries c.in_ok-name.name c.in_ok-copy_nulled.field-0 in
    (done ++ e ∷ [], all ∙ sym (append_assoc done (e ∷ []) left), added ∙ rw (named, c.in_ok-copy_nulled.ensures, l.invariant.2) (sym (put_nulled (string_bytes e.0) (view e.1) (members_view done))) ∙ ap nulled_members last)
