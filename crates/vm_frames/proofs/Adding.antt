-- An upvalue is added, and there is room for one less.
use Rattle.std.proofs.Common.{ℕ, ◌≡◌, ◌+◌, ◌<◌, ◌^◌, List, [], ◌∷◌, ◌++◌, length, map, Some, None, ap, sym, ◌∙◌, subst, arith}
use Rattle.std.proofs.lemmas.List.{length_push}
use Rattle.std.specs.Prelude.{vec_capacity}
use Rattle.index_lists.specs.Lists.{ListsOf}
use Rattle.vm_course.specs.State as s
use Rattle.vm_course.specs.Stack.{find_open}
use Rattle.vm_frames.specs.declared.listed.Listed.{Listed}
use Rattle.vm_frames.specs.declared.upvalues.Upvalue.{Upvalue}
use Rattle.vm_frames.specs.declared.upvalues.Upvalue.TheVariants.{Opened, Closed}
use Rattle.vm_frames.specs.OpenList.{IsOpenBelow, IsOpenList}
use Rattle.vm_frames.specs.Order.{open_in, open_at}
use Rattle.vm_frames.specs.Room.{IsRoomy}
use Rattle.vm_frames.specs.Views.{upvalue_of}
use Rattle.vm_frames.specs.Parts.{places_differ}
use Rattle.std.specs.Prelude.{true}
use Rattle.vm_frames.proofs.Listing.{none_open, one_number}
use Rattle.vm_frames.proofs.OpenLists.{IsOpenBelow-pushed, IsOpenList-all, apart-pushed}
use Rattle.vm_frames.proofs.Closing.{open_at-seen}

seen-Opened : (x : Upvalue) (p : ℕ) → open_in (Some x) ≡ Some p → upvalue_of x ≡ s.Opened p
seen-Opened (Opened q) p is = let same : q ≡ p = cc in ap s.Opened same
seen-Opened (Closed v) p is = absurd cc

-- the upvalues before it stand in the list
pub pushed-below : (us new shown : List Upvalue) (x : Upvalue) (lists : ListsOf) (n : ℕ) → IsOpenList us lists → n ≡ length us → new ≡ us ++ x ∷ [] → shown ≡ new → IsOpenBelow n shown lists
pushed-below us new shown x lists n is at pushed same =
    subst (λ (xs : List Upvalue). IsOpenBelow n xs lists) (sym (same ∙ pushed)) (subst (λ (m : ℕ). IsOpenBelow m (us ++ x ∷ []) lists) (sym at) (IsOpenBelow-pushed us x lists is))

-- then it stands there too
pub roomy-added : (old new : Listed) (x : Upvalue) (shown : List Upvalue) (n : ℕ) → n ≡ length old.list.items → new.list.items ≡ old.list.items ++ x ∷ [] → shown ≡ new.list.items → IsOpenBelow (n + 1) shown new.open_ones
    → ((p : ℕ) → upvalue_of x ≡ s.Opened p → find_open (map upvalue_of old.list.items) p ≡ None) → new.open_ones.reserved ≡ old.open_ones.reserved → vec_capacity new.list ≡ vec_capacity old.list
    → (k : ℕ) → IsRoomy (k + 1) old → IsRoomy k new
roomy-added old new x shown n at pushed same below none reserved capacity k room =
    let size : length new.list.items ≡ length old.list.items + 1 = ap length pushed ∙ length_push old.list.items x in
    record {
      kept = IsOpenList-all new.list.items new.open_ones (n + 1) (subst (λ (xs : List Upvalue). IsOpenBelow (n + 1) xs new.open_ones) same below) (omega (arith, size, at)) (omega (arith, size, room.numbers))
          (subst (λ (xs : List Upvalue). (j k p : ℕ) → open_at xs j ≡ Some p → open_at xs k ≡ Some p → j ≡ k) (sym pushed)
          (apart-pushed old.list.items x room.kept.apart (λ p j is_open at_j. none_open (map upvalue_of old.list.items) p j (none p (seen-Opened x p is_open)) (open_at-seen old.list.items j p at_j))));
      numbers = omega (arith, size, room.numbers);
      nodes = omega (arith, size, room.nodes, reserved);
      items = omega (arith, size, room.items, capacity);
    }

-- all upvalues of a list whose places differ
pub IsOpenList-listed : (us : List Upvalue) (lists : ListsOf) (n : ℕ) → IsOpenBelow n us lists → n ≡ length us → length us < 2 ^ 32 → places_differ (map upvalue_of us) ≡ true → IsOpenList us lists
IsOpenList-listed us lists n below all few differ =
    IsOpenList-all us lists n below all few (λ j k p at_j at_k. one_number (map upvalue_of us) differ p j k (open_at-seen us j p at_j) (open_at-seen us k p at_k))
