-- Stacks and upvalues: what matters of them is how many there are.
use Rattle.std.proofs.Common.{◌≡◌, ℕ, zero, suc, ◌+◌, ◌-◌, ◌<◌, ◌≤◌, List, [], ◌∷◌, ◌++◌, length, map, drop, Option, Some, None, Bool, true, false, cond, refl, ap, ap₂, arith, length-append, length-drop}
use Rattle.std.specs.Prelude.{◌&&◌, ◌||◌, ◌==◌, not, nat_lt, nat_le, slice_get, slice_set}
use Rattle.std.specs.List.{list_any}
use Rattle.std.proofs.lemmas.Bool.Decides.{nat_tests}
use Rattle.hog_ops.specs.declared.capture.Capture.{Capture}
use Rattle.hog_value.specs.Values.{Val}
use Rattle.hog_value.specs.declared.value.Value.TheVariants.{Null}
use Rattle.vm_course.specs.State.{Upvalue, Opened, Closed, Frame}
use Rattle.vm_course.specs.Stack.{value_at, with_value, or_null, close, keep, top_of, taken, one_on, find_open, or_opened, or_closed, capture_one, capture_all}
use Rattle.bytecode_safety.specs.Lacks.{is_none, lacks_capture}
use Rattle.bytecode_check.specs.Verify.{captures_past, captures_none}

pub neither : (a b : Bool) → (a || b) ≡ false → (a ≡ false) × (b ≡ false)
neither true b e = absurd cc
neither false b e = (refl, e)

-- ---- lengths

pub top_length : (floor : ℕ) (st : List Val) → floor + 1 ≤ length st → suc (length (top_of floor st).1) ≡ length st
top_length floor [] h = absurd (omega arith)
top_length floor (v ∷ vs) h = go (nat_lt (length vs) floor) refl
  where
    go : (b : Bool) → nat_lt (length vs) floor ≡ b → suc (length (cond {A = Val × List Val} b (Null, v ∷ vs) (v, vs)).1) ≡ suc (length vs)
    go true e = let lt : length vs < floor = grind (arith, nat_tests) in absurd (omega arith)
    go false e = refl

pub taken_length : (floor n : ℕ) (st : List Val) → floor + n ≤ length st → length (taken floor n st).1 + n ≡ length st
taken_length floor zero st h = omega arith
taken_length floor (suc n) st h =
    let one = top_length floor st (omega arith) in
    let ih = taken_length floor n (top_of floor st).1 (omega arith) in
    omega arith

pub keep_length : {A : Type 0} (n : ℕ) (xs : List A) → n ≤ length xs → length (keep n xs) ≡ n
keep_length n xs h = omega (arith, length-drop (length xs - n) xs)

pub keep_more : {A : Type 0} (n : ℕ) (x : A) (xs : List A) → n ≤ length xs → keep n (x ∷ xs) ≡ keep n xs
keep_more n x xs h = let e : suc (length xs) - n ≡ suc (length xs - n) = omega arith in ap (λ k. drop k (x ∷ xs)) e

pub keep_all : {A : Type 0} (xs : List A) → keep (length xs) xs ≡ xs
keep_all xs = let e : length xs - length xs ≡ 0 = omega arith in ap (λ k. drop k xs) e

pub with_value_length : (st : List Val) (n : ℕ) (v : Val) → length (with_value st n v) ≡ length st
with_value_length [] n v = refl
with_value_length (x ∷ st) n v = go (length st == n) (with_value_length st n v)
  where
    go : (b : Bool) → length (with_value st n v) ≡ length st → length (cond b (v ∷ st) (x ∷ with_value st n v)) ≡ suc (length st)
    go true e = refl
    go false e = ap suc e

pub with_upvalue_length : (us : List Upvalue) (n : ℕ) (u : Upvalue) → length (slice_set us n u) ≡ length us
with_upvalue_length [] n u = refl
with_upvalue_length (x ∷ us) zero u = refl
with_upvalue_length (x ∷ us) (suc n) u = ap suc (with_upvalue_length us n u)

pub closed_length : (n : ℕ) (st : List Val) (us : List Upvalue) → length (map (close n st) us) ≡ length us
closed_length n st [] = refl
closed_length n st (u ∷ us) = ap suc (closed_length n st us)

pub value_there : (st : List Val) (p : ℕ) → p < length st → is_none (value_at st p) ≡ false
value_there [] p h = absurd (omega arith)
value_there (v ∷ st) p h = go (length st == p) refl (value_there st p)
  where
    go : (b : Bool) → (length st == p) ≡ b → (p < length st → is_none (value_at st p) ≡ false) → is_none (cond b (Some v) (value_at st p)) ≡ false
    go true e f = refl
    go false e f = let lt : p < length st = grind (arith, nat_tests) in f lt

pub get_there : {A : Type 0} (xs : List A) (i : ℕ) → i < length xs → (x : A) × (slice_get xs i ≡ Some x)
get_there [] i h = absurd (omega arith)
get_there (x ∷ xs) zero h = (x, refl)
get_there (x ∷ xs) (suc i) h = get_there xs i (omega arith)

pub get_front : {A : Type 0} (xs ys : List A) (i : ℕ) (x : A) → slice_get xs i ≡ Some x → slice_get (xs ++ ys) i ≡ Some x
get_front [] ys i x e = absurd cc
get_front (y ∷ xs) ys zero x e = e
get_front (y ∷ xs) ys (suc i) x e = get_front xs ys i x e

-- ---- upvalues

-- each open upvalue's place is below this height
abbrev pub OpenBelow : ℕ → List Upvalue → Type 0
OpenBelow h [] = Unit {0}
OpenBelow h (Opened p ∷ us) = (p < h) × OpenBelow h us
OpenBelow h (Closed v ∷ us) = OpenBelow h us

pub open_more : (h k : ℕ) (us : List Upvalue) → h ≤ k → OpenBelow h us → OpenBelow k us
open_more h k [] le o = tt
open_more h k (Opened p ∷ us) le o = let lt = o.0 in (omega arith, open_more h k us le o.1)
open_more h k (Closed v ∷ us) le o = open_more h k us le o

-- whatever the stack is cut to, what stays open stands below
pub closed_below : (n : ℕ) (st : List Val) (us : List Upvalue) → OpenBelow n (map (close n st) us)
closed_below n st [] = tt
closed_below n st (Closed v ∷ us) = closed_below n st us
closed_below n st (Opened p ∷ us) = go (nat_lt p n) refl (closed_below n st us)
  where
    go : (b : Bool) → nat_lt p n ≡ b → OpenBelow n (map (close n st) us) → OpenBelow n (cond b (Opened p) (Closed (or_null (value_at st p))) ∷ map (close n st) us)
    go true e o = (grind (arith, nat_tests), o)
    go false e o = o

pub open_set : (h u : ℕ) (v : Val) (us : List Upvalue) → OpenBelow h us → OpenBelow h (slice_set us u (Closed v))
open_set h u v [] o = tt
open_set h zero v (Opened p ∷ us) o = o.1
open_set h zero v (Closed x ∷ us) o = o
open_set h (suc u) v (Opened p ∷ us) o = (o.0, open_set h u v us o.1)
open_set h (suc u) v (Closed x ∷ us) o = open_set h u v us o

pub open_append : (h : ℕ) (us ws : List Upvalue) → OpenBelow h us → OpenBelow h ws → OpenBelow h (us ++ ws)
open_append h [] ws o k = k
open_append h (Opened p ∷ us) ws o k = (o.0, open_append h us ws o.1 k)
open_append h (Closed v ∷ us) ws o k = open_append h us ws o k

pub open_get : (h : ℕ) (us : List Upvalue) (u p : ℕ) → OpenBelow h us → slice_get us u ≡ Some (Opened p) → p < h
open_get h [] u p o e = absurd cc
open_get h (Opened q ∷ us) zero p o e = let lt = o.0 in let same : q ≡ p = cc in omega arith
open_get h (Closed v ∷ us) zero p o e = absurd cc
open_get h (Opened q ∷ us) (suc u) p o e = open_get h us u p o.1 e
open_get h (Closed v ∷ us) (suc u) p o e = open_get h us u p o e

-- numbers of upvalues, each of which is there
abbrev pub Below : ℕ → List ℕ → Type 0
Below n [] = Unit {0}
Below n (x ∷ xs) = (x < n) × Below n xs

pub below_more : (n m : ℕ) (xs : List ℕ) → n ≤ m → Below n xs → Below m xs
below_more n m [] le b = tt
below_more n m (x ∷ xs) le b = let lt = b.0 in (omega arith, below_more n m xs le b.1)

pub below_get : (n : ℕ) (xs : List ℕ) (i u : ℕ) → Below n xs → slice_get xs i ≡ Some u → u < n
below_get n [] i u b e = absurd cc
below_get n (x ∷ xs) zero u b e = let lt = b.0 in let same : x ≡ u = cc in omega arith
below_get n (x ∷ xs) (suc i) u b e = below_get n xs i u b.1 e

-- ---- captures

pub record Took (h count : ℕ) (us : List Upvalue) (numbers : List ℕ) (us' : List Upvalue) : Type 0 where
  pub count' : length numbers ≡ count
  pub below : Below (length us') numbers
  pub opened : OpenBelow h us'
  pub more : length us ≤ length us'

found_below : (us : List Upvalue) (p u : ℕ) → find_open us p ≡ Some u → u < length us
found_below [] p u e = absurd cc
found_below (Closed v ∷ us) p u e = one_more (find_open us p) (found_below us p) e
  where
    one_more : (o : Option ℕ) → ((w : ℕ) → o ≡ Some w → w < length us) → one_on o ≡ Some u → u < suc (length us)
    one_more None f k = absurd cc
    one_more (Some w) f k = let lt = f w refl in let same : w + 1 ≡ u = cc in omega arith
found_below (Opened q ∷ us) p u e = go (q == p) e (found_below us p)
  where
    one_more : (o : Option ℕ) → ((w : ℕ) → o ≡ Some w → w < length us) → one_on o ≡ Some u → u < suc (length us)
    one_more None f k = absurd cc
    one_more (Some w) f k = let lt = f w refl in let same : w + 1 ≡ u = cc in omega arith

    go : (b : Bool) → cond b (Some 0) (one_on (find_open us p)) ≡ Some u → ((w : ℕ) → find_open us p ≡ Some w → w < length us) → u < suc (length us)
    go true k f = let same : 0 ≡ u = cc in omega arith
    go false k f = one_more (find_open us p) f k

record TookOne (h : ℕ) (us : List Upvalue) (r : ℕ × List Upvalue) : Type 0 where
  there : r.0 < length r.1
  opened : OpenBelow h r.1
  more : length us ≤ length r.1

opened_one : (h p : ℕ) (us : List Upvalue) (o : Option ℕ) → p < h → OpenBelow h us → ((w : ℕ) → o ≡ Some w → w < length us) → TookOne h us (or_opened p us o)
opened_one h p us None lt o f = record { there = omega (arith, length-append us (Opened p ∷ [])); opened = open_append h us (Opened p ∷ []) o (lt, tt); more = omega (arith, length-append us (Opened p ∷ [])) }
opened_one h p us (Some w) lt o f = record { there = f w refl; opened = o; more = omega arith }

closed_one : (h : ℕ) (us : List Upvalue) (o : Option ℕ) → OpenBelow h us → ((w : ℕ) → o ≡ Some w → w < length us) → TookOne h us (or_closed us o)
closed_one h us None o f = record { there = omega (arith, length-append us (Closed Null ∷ [])); opened = open_append h us (Closed Null ∷ []) o tt; more = omega (arith, length-append us (Closed Null ∷ [])) }
closed_one h us (Some w) o f = record { there = f w refl; opened = o; more = omega arith }

takes_one : (h : ℕ) (f : Frame) (captured : List ℕ) (c : Capture) (us : List Upvalue) → OpenBelow h us → Below (length us) captured → TookOne h us (capture_one h f captured c us)
takes_one h f captured c us o b = go c.local (nat_lt (f.base + c.index) h) refl
  where
    go : (l t : Bool) → nat_lt (f.base + c.index) h ≡ t → TookOne h us (cond l (cond t (or_opened (f.base + c.index) us (find_open us (f.base + c.index))) (or_closed us None)) (or_closed us (slice_get captured c.index)))
    go true true e = opened_one h (f.base + c.index) us (find_open us (f.base + c.index)) (grind (arith, nat_tests)) o (λ w k. found_below us (f.base + c.index) w k)
    go true false e = closed_one h us None o (λ w k. absurd cc)
    go false t e = closed_one h us (slice_get captured c.index) o (λ w k. below_get (length us) captured c.index w b k)

pub takes_all : (h : ℕ) (f : Frame) (captured : List ℕ) (cs : List Capture) (us : List Upvalue) → OpenBelow h us → Below (length us) captured
    → Took h (length cs) us (capture_all h f captured cs us).0 (capture_all h f captured cs us).1
takes_all h f captured [] us o b = record { count' = refl; below = tt; opened = o; more = omega arith }
takes_all h f captured (c ∷ cs) us o b =
    let one = takes_one h f captured c us o b in
    let us1 = (capture_one h f captured c us).1 in
    let more = takes_all h f captured cs us1 one.opened (below_more (length us) (length us1) captured one.more b) in
    let there = one.there in
    let grown = more.more in
    let less = one.more in
    record { count' = ap suc more.count'; below = (omega arith, more.below); opened = more.opened; more = omega arith }

-- a function's captures are there
pub captures_there : (f : Frame) (depth height there : ℕ) (captured : List ℕ) (cs : List Capture) → height ≡ f.base + depth → there ≡ length captured
    → list_any (captures_past depth) cs ≡ false → list_any (captures_none there) cs ≡ false → list_any (lacks_capture (suc height) f captured) cs ≡ false
captures_there f depth height there captured [] e k a b = refl
captures_there f depth height there captured (c ∷ cs) e k a b =
    let (a1, a2) = neither (captures_past depth c) (list_any (captures_past depth) cs) a in
    let (b1, b2) = neither (captures_none there c) (list_any (captures_none there) cs) b in
    ap₂ (λ x y. x || y) (one c.local a1 b1) (captures_there f depth height there captured cs e k a2 b2)
  where
    one : (l : Bool) → (l && nat_lt depth c.index) ≡ false → (not l && nat_le there c.index) ≡ false → cond l (not (nat_lt (f.base + c.index) (suc height))) (is_none (slice_get captured c.index)) ≡ false
    one true p q = let lt : nat_lt (f.base + c.index) (suc height) ≡ true = grind (arith, nat_tests) in ap not lt
    one false p q = let lt : c.index < length captured = grind (arith, nat_tests) in let (x, g) = get_there captured c.index lt in ap is_none g
