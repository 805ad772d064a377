-- The layout of the stack: what stands at each place, as the meaning sees it.
use Rattle.std.proofs.Common.{◌≡◌, ◌≢◌, ℕ, suc, ◌+◌, ◌<◌, ◌≤◌, List, [], ◌∷◌, ◌++◌, length, map, Option, Some, None, true, false, cond, refl, sym, ap, ◌∙◌, subst, ◌⊎◌, inl, inr, ⊎_elim, arith, length-append}
use Rattle.std.specs.Prelude.{◌==◌, nat_lt, slice_get, unwrap_or}
use Rattle.std.proofs.lemmas.Bool.Decides.{eqb_tells, nat_tests}
use Rattle.hog_value.specs.Values.{Val}
use Rattle.hog_value.specs.declared.value.Value.TheVariants.{Null}
use Rattle.vm_course.specs.State.{Upvalue, Opened, Closed}
use Rattle.vm_course.specs.Stack.{value_at, close, one_on}

-- what stands at a place of the stack: a value of the run itself, or a variable of the meaning
pub data Seat : Type 0 where
  Temp : Val → Seat
  Var : ℕ → Seat

-- the value of a variable
abbrev pub read : List Val → ℕ → Val
read store x = unwrap_or (slice_get store x) Null

abbrev pub shown_seat : List Val → Seat → Val
shown_seat store (Temp v) = v
shown_seat store (Var x) = read store x

-- what stands at a place from the bottom
abbrev pub seat_at : List Seat → ℕ → Option Seat
seat_at [] n = None
seat_at (s ∷ L) n = cond (length L == n) (Some s) (seat_at L n)

-- the place of a variable
abbrev pub place_of : List Seat → ℕ → Option ℕ
place_of [] x = None
place_of (Temp v ∷ L) x = place_of L x
place_of (Var y ∷ L) x = cond (y == x) (Some (length L)) (place_of L x)

-- the upvalue of a variable: open where the variable stands on the stack
abbrev pub up_of_place : Option ℕ → Val → Upvalue
up_of_place None v = Closed v
up_of_place (Some p) v = Opened p

abbrev pub up_of : List Seat → List Val → ℕ → Upvalue
up_of L store x = up_of_place (place_of L x) (read store x)

abbrev pub stack_of : List Val → List Seat → List Val
stack_of store [] = []
stack_of store (s ∷ L) = shown_seat store s ∷ stack_of store L

-- the upvalues, each by the variable that owns it
abbrev pub ups_of : List Seat → List Val → List ℕ → List Upvalue
ups_of L store xs = map (λ x. up_of L store x) xs

-- the number of the upvalue that a variable owns
abbrev pub owner_of : List ℕ → ℕ → Option ℕ
owner_of [] x = None
owner_of (y ∷ ys) x = cond (y == x) (Some 0) (one_on (owner_of ys x))

-- each variable stands at one place, and has been made
abbrev pub Distinct : ℕ → List Seat → Type 0
Distinct n [] = Unit {0}
Distinct n (Temp v ∷ L) = Distinct n L
Distinct n (Var x ∷ L) = (x < n) × (place_of L x ≡ None) × Distinct n L

pub value_below : (v : Val) (xs : List Val) (p : ℕ) → p < length xs → value_at (v ∷ xs) p ≡ value_at xs p
value_below v xs p h = grind (arith, nat_tests)

pub value_top : (v : Val) (xs : List Val) → value_at (v ∷ xs) (length xs) ≡ Some v
value_top v xs = grind (arith, nat_tests)

pub seat_below : (s : Seat) (L : List Seat) (p : ℕ) → p < length L → seat_at (s ∷ L) p ≡ seat_at L p
seat_below s L p h = grind (arith, nat_tests)

pub seat_top : (s : Seat) (L : List Seat) → seat_at (s ∷ L) (length L) ≡ Some s
seat_top s L = grind (arith, nat_tests)

pub length-stack : (store : List Val) (L : List Seat) → length (stack_of store L) ≡ length L
length-stack store [] = refl
length-stack store (s ∷ L) = ap suc (length-stack store L)

-- a variable's place holds its value
pub placed : (store : List Val) (M : List Seat) (o p : ℕ) → place_of M o ≡ Some p → (p < length M) × (value_at (stack_of store M) p ≡ Some (read store o))
placed store [] o p e = absurd (cc)
placed store (Temp v ∷ M) o p e =
    let (lt, r) = placed store M o p e in
    let l = length-stack store M in
    let lt' : p < length (stack_of store M) = omega arith in
    (omega arith, value_below v (stack_of store M) p lt' ∙ r)
placed store (Var y ∷ M) o p e = grind (arith, nat_tests, length-stack store M, placed store M o p)

-- what is not in the whole is not in the lower part
pub none_below : (N L : List Seat) (o : ℕ) → place_of (N ++ L) o ≡ None → place_of L o ≡ None
none_below [] L o e = e
none_below (Temp v ∷ N) L o e = none_below N L o e
none_below (Var y ∷ N) L o e = grind (arith, nat_tests, none_below N L o)

-- a place below the cut is one of the lower part, and a variable above it isn't in the lower part
pub kept_below : (n : ℕ) (N L : List Seat) (o p : ℕ) → Distinct n (N ++ L) → place_of (N ++ L) o ≡ Some p → ((p < length L) × (place_of L o ≡ Some p)) ⊎ ((length L ≤ p) × (place_of L o ≡ None))
kept_below n [] L o p d e = inl ((placed [] L o p e).0, e)
kept_below n (Temp v ∷ N) L o p d e = kept_below n N L o p d e
kept_below n (Var y ∷ N) L o p d e =
    ⊎_elim
    (λ h. let none = none_below N L y d.1 in let l = length-append N L in inr (grind (arith, nat_tests), grind (arith, nat_tests)))
    (λ h. let e1 : place_of (N ++ L) o ≡ Some p = grind (arith, nat_tests) in kept_below n N L o p d.2 e1)
    (eqb_tells y o)

-- closing what lies above the cut leaves the picture of the lower part
close_cases : (store : List Val) (N L : List Seat) (o : ℕ) (q : Option ℕ) → Distinct (length store) (N ++ L) → place_of (N ++ L) o ≡ q → close (length (stack_of store L)) (stack_of store (N ++ L)) (up_of_place q (read store o)) ≡ up_of L store o
close_cases store N L o None d e = ap (λ r. up_of_place r (read store o)) (sym (none_below N L o e))
close_cases store N L o (Some p) d e =
    let l = length-stack store L in
    let at = placed store (N ++ L) o p e in
    ⊎_elim
    (λ h. let r : nat_lt p (length (stack_of store L)) ≡ true = grind (arith, nat_tests) in rw (r, h.1) refl)
    (λ h. let r : nat_lt p (length (stack_of store L)) ≡ false = grind (arith, nat_tests) in rw (r, h.1, at.1) refl)
    (kept_below (length store) N L o p d e)

pub close_ups : (store : List Val) (N L : List Seat) (owners : List ℕ) → Distinct (length store) (N ++ L) → map (close (length (stack_of store L)) (stack_of store (N ++ L))) (ups_of (N ++ L) store owners) ≡ ups_of L store owners
close_ups store N L [] d = refl
close_ups store N L (o ∷ os) d =
    let here = close_cases store N L o (place_of (N ++ L) o) d refl in
    let there = close_ups store N L os d in
    cc

-- what stands at a place is shown there
pub value_seat : (store : List Val) (L : List Seat) (p : ℕ) (s : Seat) → seat_at L p ≡ Some s → value_at (stack_of store L) p ≡ Some (shown_seat store s)
value_seat store [] p s e = absurd (cc)
value_seat store (t ∷ L) p s e = grind (arith, nat_tests, length-stack store L, value_seat store L p s)

pub seat_within : (L : List Seat) (p : ℕ) (s : Seat) → seat_at L p ≡ Some s → p < length L
seat_within [] p s e = absurd (cc)
seat_within (u ∷ L) p s e = grind (arith, nat_tests, seat_within L p s)

pub seat_push : (t : Seat) (L : List Seat) (p : ℕ) (s : Seat) → seat_at L p ≡ Some s → seat_at (t ∷ L) p ≡ Some s
seat_push t L p s e = seat_below t L p (seat_within L p s e) ∙ e

-- the lower part of a layout
pub lower : (n : ℕ) (N L : List Seat) → Distinct n (N ++ L) → Distinct n L
lower n [] L d = d
lower n (Temp v ∷ N) L d = lower n N L d
lower n (Var x ∷ N) L d = lower n N L d.2

-- a variable that stands at a place has this place
pub seat_place : (n : ℕ) (L : List Seat) (p x : ℕ) → Distinct n L → seat_at L p ≡ Some (Var x) → place_of L x ≡ Some p
seat_place n [] p x d e = absurd (cc)
seat_place n (Temp u ∷ L) p x d e =
    let ne : (length L == p) ≡ false = not_top in seat_place n L p x d (rw ne at e)
  where
    not_top : (length L == p) ≡ false
    not_top = ⊎_elim (λ h. let e1 : Some (Temp u) ≡ Some (Var x) = rw h.0 at e in absurd (cc)) (λ h. h.0) (eqb_tells (length L) p)
seat_place n (Var y ∷ L) p x d e =
    ⊎_elim
    (λ h. let e1 : Some (Var y) ≡ Some (Var x) = rw h.0 at e in let same : y ≡ x = cc in grind (arith, nat_tests))
    (λ h. let e1 : seat_at L p ≡ Some (Var x) = rw h.0 at e in
    let ih = seat_place n L p x d.2 e1 in
    let ne : y ≢ x = λ q. absurd (let none = d.1 in let none2 : place_of L x ≡ None = subst (λ z. place_of L z ≡ None) q none in cc) in
    grind (arith, nat_tests))
    (eqb_tells (length L) p)

-- the temporaries of a list of values, the first one deepest
abbrev pub temps : List Val → List Seat → List Seat
temps [] L = L
temps (v ∷ vs) L = temps vs (Temp v ∷ L)

pub distinct_temps : (n : ℕ) (vs : List Val) (L : List Seat) → Distinct n (temps vs L) → Distinct n L
distinct_temps n [] L h = h
distinct_temps n (v ∷ vs) L h = distinct_temps n vs (Temp v ∷ L) h

pub temps_distinct : (n : ℕ) (vs : List Val) (L : List Seat) → Distinct n L → Distinct n (temps vs L)
temps_distinct n [] L h = h
temps_distinct n (v ∷ vs) L h = temps_distinct n vs (Temp v ∷ L) h

pub length-temps : (vs : List Val) (L : List Seat) → length (temps vs L) ≡ length vs + length L
length-temps [] L = omega arith
length-temps (v ∷ vs) L = let e = length-temps vs (Temp v ∷ L) in omega arith

-- the same as a list that stands over the layout
pub seats_of : List Val → List Seat
seats_of vs = temps vs []

pub temps_over : (vs : List Val) (L : List Seat) → seats_of vs ++ L ≡ temps vs L
unfolding seats_of
temps_over vs L = go vs []
  where
    go : (vs : List Val) (M : List Seat) → temps vs M ++ L ≡ temps vs (M ++ L)
    go [] M = refl
    go (v ∷ vs) M = go vs (Temp v ∷ M)
