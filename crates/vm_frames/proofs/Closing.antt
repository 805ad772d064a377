-- Upvalues that are closed.
use Rattle.std.proofs.Common.{◌≡◌, ◌<◌, ◌≤◌, ℕ, zero, suc, List, [], ◌∷◌, true, false, cond, map, set, Option, Some, None, arith, refl, ap, ap₂, sym, ◌∙◌}
use Rattle.std.proofs.lemmas.List.{map-set}
use Rattle.std.proofs.lemmas.Option.{none-some, slice_get-map}
use Rattle.std.proofs.lemmas.Bool.Decides.{nat_tests}
use Rattle.std.specs.Prelude.{slice_get, option_map, nat_lt}
use Rattle.hog_value.specs.Values.{Val}
use Rattle.vm_frames.specs.declared.upvalues.Upvalue as u
use Rattle.vm_frames.specs.declared.upvalues.Upvalue.TheVariants as up
use Rattle.vm_course.specs.State.{Upvalue, Opened, Closed}
use Rattle.vm_course.specs.Stack.{close, value_at, or_null}
use Rattle.vm_frames.specs.Order.{open_in, open_at}
use Rattle.vm_frames.specs.Views.{upvalue_of}

module _ (height : ℕ) (stack : List Val) where
  close_high : (p : ℕ) → height ≤ p → close height stack (Opened p) ≡ Closed (or_null (value_at stack p))
  close_high p high =
      let over : nat_lt p height ≡ false = grind (arith, nat_tests) in
      ap (λ b. cond b (Opened p) (Closed (or_null (value_at stack p)))) over

  close_low : (p : ℕ) → p < height → close height stack (Opened p) ≡ Opened p
  close_low p low =
      let under : nat_lt p height ≡ true = grind (arith, nat_tests) in
      ap (λ b. cond b (Opened p) (Closed (or_null (value_at stack p)))) under

  -- one that is closed already
  close_one : (us : List Upvalue) (n p : ℕ) → slice_get us n ≡ Some (Opened p) → height ≤ p
      → map (close height stack) (set us n (Closed (or_null (value_at stack p)))) ≡ map (close height stack) us
  close_one [] n p is high = refl
  close_one (x ∷ us) zero p is high =
      let first : x ≡ Opened p = cc in
      ap (λ y. y ∷ map (close height stack) us) (sym (ap (close height stack) first ∙ close_high p high))
  close_one (x ∷ us) (suc n) p is high = ap (λ ys. close height stack x ∷ ys) (close_one us n p is high)

  close_kept : (x : Upvalue) → ((p : ℕ) → x ≡ Opened p → p < height) → close height stack x ≡ x
  close_kept (Opened p) low = close_low p (low p refl)
  close_kept (Closed v) low = refl

  -- where none is open at the height or above it
  close_none : (us : List Upvalue) → ((n p : ℕ) → slice_get us n ≡ Some (Opened p) → p < height) → map (close height stack) us ≡ us
  close_none [] low = refl
  close_none (x ∷ us) low = ap₂ (λ y ys. y ∷ ys) (close_kept x (λ p is. low 0 p (ap Some is))) (close_none us (λ n p is. low (suc n) p is))

-- an open upvalue as contracts see it, and where it is open
seen_open : (x : u.Upvalue) (p : ℕ) → upvalue_of x ≡ Opened p → x ≡ up.Opened p
seen_open (up.Opened q) p is = let same : q ≡ p = cc in ap up.Opened same
seen_open (up.Closed v) p is = absurd cc

opened_of : (o : Option u.Upvalue) (p : ℕ) → option_map upvalue_of o ≡ Some (Opened p) → o ≡ Some (up.Opened p)
opened_of None p is = absurd (none-some _ is)
opened_of (Some x) p is = let same : upvalue_of x ≡ Opened p = cc in ap Some (seen_open x p same)

open_in-Opened : (o : Option u.Upvalue) (p : ℕ) → open_in o ≡ Some p → o ≡ Some (up.Opened p)
open_in-Opened None p is = absurd (none-some p is)
open_in-Opened (Some (up.Opened q)) p is = let same : q ≡ p = cc in ap (λ x. Some (up.Opened x)) same
open_in-Opened (Some (up.Closed v)) p is = absurd (none-some p is)

pub open_at-seen : (us : List u.Upvalue) (n p : ℕ) → open_at us n ≡ Some p → slice_get (map upvalue_of us) n ≡ Some (Opened p)
open_at-seen us n p is = slice_get-map upvalue_of us n ∙ ap (option_map upvalue_of) (open_in-Opened (slice_get us n) p is)

pub seen-open_at : (us : List u.Upvalue) (n p : ℕ) → slice_get (map upvalue_of us) n ≡ Some (Opened p) → open_at us n ≡ Some p
seen-open_at us n p is = ap open_in (opened_of (slice_get us n) p (sym (slice_get-map upvalue_of us n) ∙ is))

module _ (height : ℕ) (stack : List Val) where
  -- one more that is closed
  pub closed_next : (us new : List u.Upvalue) (n p : ℕ) (v : Val) → open_at us n ≡ Some p → height ≤ p → v ≡ or_null (value_at stack p) → new ≡ set us n (up.Closed v)
      → map (close height stack) (map upvalue_of new) ≡ map (close height stack) (map upvalue_of us)
  closed_next us new n p v is high same written =
      ap (map (close height stack)) (ap (map upvalue_of) written ∙ (map-set upvalue_of us n (up.Closed v) ∙ ap (λ x. set (map upvalue_of us) n (Closed x)) same))
      ∙ close_one height stack (map upvalue_of us) n p (open_at-seen us n p is) high

  -- where none is open at the height or above it, closing changes nothing
  pub none_left : (us : List u.Upvalue) → ((n p : ℕ) → open_at us n ≡ Some p → p < height) → map upvalue_of us ≡ map (close height stack) (map upvalue_of us)
  none_left us low = sym (close_none height stack (map upvalue_of us) (λ n p is. low n p (seen-open_at us n p is)))

-- a closed upvalue as contracts see it
seen_closed : (x : u.Upvalue) (v : Val) → upvalue_of x ≡ Closed v → x ≡ up.Closed v
seen_closed (up.Opened q) v is = absurd cc
seen_closed (up.Closed w) v is = let same : w ≡ v = cc in ap up.Closed same

closed_of : (o : Option u.Upvalue) (v : Val) → option_map upvalue_of o ≡ Some (Closed v) → o ≡ Some (up.Closed v)
closed_of None v is = absurd (none-some _ is)
closed_of (Some x) v is = let same : upvalue_of x ≡ Closed v = cc in ap Some (seen_closed x v same)

pub listed_closed : (us : List u.Upvalue) (n : ℕ) (v : Val) → slice_get (map upvalue_of us) n ≡ Some (Closed v) → slice_get us n ≡ Some (up.Closed v)
listed_closed us n v is = closed_of (slice_get us n) v (sym (slice_get-map upvalue_of us n) ∙ is)

pub set_seen : (us : List u.Upvalue) (n : ℕ) (v : Val) → map upvalue_of (set us n (up.Closed v)) ≡ set (map upvalue_of us) n (Closed v)
set_seen us n v = map-set upvalue_of us n (up.Closed v)
