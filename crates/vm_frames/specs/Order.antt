-- The order of upvalues by the places at which they are open.
use Rattle.std.specs.Prelude.{ℕ, ◌≡◌, ◌<◌, Bool, true, false, refl, List, Option, Some, None, slice_get}
use Rattle.std.specs.Ordering.{nat_cmp, bool_cmp, is_lt, on, then_cmp, flip_args, ordering_then, ordering_reverse, MatchOrdering}
use Rattle.std.specs.declared.cmp.Ordering.{Ordering}
use Rattle.std.specs.declared.cmp.Ordering.TheVariants.{Less, Equal, Greater}
use Rattle.std.specs.Cmp.{IsTotalOrder, bool_cmp_total}
use Rattle.std.proofs.Common.{sym, ◌∙◌, ap, subst}
use Rattle.std.proofs.lemmas.Cmp.{on_total, then_total, back_total, nat_cmp_total, ranked}
use Rattle.vm_frames.specs.declared.upvalues.Upvalue.{Upvalue}
use Rattle.vm_frames.specs.declared.upvalues.Upvalue.TheVariants.{Opened, Closed}
use Rattle.vm_frames.specs.declared.order.Key.{Key}
use Rattle.index_lists.specs.Order.{IsStrictOrder}

abbrev pub open_in : Option Upvalue → Option ℕ
open_in None = None
open_in (Some (Opened place)) = Some place
open_in (Some (Closed v)) = None

-- where the upvalue with a number is open
abbrev pub open_at : List Upvalue → ℕ → Option ℕ
open_at list n = open_in (slice_get list n)

abbrev pub key_of : ℕ → Option ℕ → Key
key_of number None = record { shut = true; place = record { 0 = 0 }; number = number }
key_of number (Some place) = record { shut = false; place = record { 0 = place }; number = number }

abbrev pub key_cmp : Key → Key → Ordering
key_cmp = then_cmp (on (λ k. k.shut) bool_cmp) (then_cmp (on (λ k. k.place.0) (flip_args nat_cmp)) (on (λ k. k.number) nat_cmp))

abbrev pub by_place : List Upvalue → ℕ → ℕ → Bool
by_place list a b = is_lt (key_cmp (key_of a (open_at list a)) (key_of b (open_at list b)))

key_total : IsTotalOrder key_cmp
key_total = then_total (on_total (λ (k : Key). k.shut) bool_cmp_total) (then_total (on_total (λ (k : Key). k.place.0) (back_total nat_cmp_total)) (on_total (λ (k : Key). k.number) nat_cmp_total))

pub is_lt-Less : (o : Ordering) → is_lt o ≡ true → o ≡ Less
is_lt-Less Less e = refl
is_lt-Less Equal e = absurd cc
is_lt-Less Greater e = absurd cc

back : (o : Ordering) → o ≡ Less → is_lt (ordering_reverse o) ≡ false
back Less e = refl
back Equal e = absurd cc
back Greater e = absurd cc

other : (o : Ordering) → (o ≡ Equal → ⊥) → is_lt o ≡ false → is_lt (ordering_reverse o) ≡ true
other Less e n = absurd cc
other Equal e n = absurd (e refl)
other Greater e n = refl

then-equal : (o p : Ordering) → ordering_then o p ≡ Equal → p ≡ Equal
then-equal Less p e = absurd cc
then-equal Equal p e = e
then-equal Greater p e = absurd cc

nat_cmp-equal : (m n : ℕ) → nat_cmp m n ≡ Equal → m ≡ n
nat_cmp-equal m n e = subst (λ (o : Ordering). MatchOrdering o (m < n) (m ≡ n) (n < m)) e (ranked m n (nat_cmp m n) refl)

key_of-number : (k : ℕ) (o : Option ℕ) → (key_of k o).number ≡ k
key_of-number k None = refl
key_of-number k (Some place) = refl

-- it is strict over all numbers
pub by_place-strict : (list : List Upvalue) → IsStrictOrder (by_place list)
by_place-strict list =
    let key : ℕ → Key = λ k. key_of k (open_at list k) in
    let level : (a b : ℕ) → key_cmp (key a) (key b) ≡ Equal → nat_cmp (key a).number (key b).number ≡ Equal = λ a b same.
    then-equal (nat_cmp (key b).place.0 (key a).place.0) _ (then-equal (bool_cmp (key a).shut (key b).shut) _ same) in
    record {
      apart = λ a b e. ap is_lt (key_total.antisymm (key b) (key a)) ∙ back (key_cmp (key a) (key b)) (is_lt-Less (key_cmp (key a) (key b)) e);
      goes = λ a b c e f. ap is_lt (key_total.trans (key a) (key b) (key c) (is_lt-Less (key_cmp (key a) (key b)) e) (is_lt-Less (key_cmp (key b) (key c)) f));
      total = λ a b apart e. ap is_lt (key_total.antisymm (key b) (key a)) ∙ other (key_cmp (key a) (key b)) (λ (same : key_cmp (key a) (key b) ≡ Equal). apart (sym (key_of-number a (open_at list a)) ∙ (nat_cmp-equal _ _ (level a b same) ∙ key_of-number b (open_at list b)))) e;
    }
