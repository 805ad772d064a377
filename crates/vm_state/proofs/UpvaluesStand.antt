-- Open upvalues have places of their own on the stack, and what closed ones have taken names cells.
use Rattle.std.proofs.Common.{◌≡◌, ℕ, zero, suc, ◌+◌, ◌<◌, ◌≤◌, List, [], ◌∷◌, ◌++◌, length, length-append, map, Option, Some, None, Bool, true, false, cond, refl, sym, ap, arith}
use Rattle.std.specs.Prelude.{nat_lt, ◌==◌, slice_get, slice_set, option_and_then}
use Rattle.std.specs.List.{AllByRecursion}
use Rattle.std.proofs.lemmas.Bool.{ltb-true, eqb-false}
use Rattle.hog_value.specs.declared.cell.FunCell.{FunCell}
use Rattle.hog_value.specs.declared.value.Value.TheVariants.{Null}
use Rattle.hog_value.specs.Values.{Val, NamesBelow}
use Rattle.hog_value.specs.Cells.{Text, Array, Dict, Fun, HeapOf}
use Rattle.hog_ops.specs.declared.capture.Capture.{Capture}
use Rattle.vm_course.specs.State.{Upvalue, Opened, Closed, Frame, State, function_at}
use Rattle.vm_course.specs.Stack.{value_at, with_value, or_null, close, one_on, find_open, captured_in, captured_by, upvalue_value, or_opened, or_closed, capture_one, capture_all}
use Rattle.vm_state.proofs.Alls.{all_last, all_at, all_set, all_if, all_map}
use Rattle.vm_state.proofs.HeapsStand.{CellStands, names_more}

-- values on the stack

pub value_named : (n : ℕ) (stack : List Val) (place : ℕ) → AllByRecursion (NamesBelow n) stack → NamesBelow n (or_null (value_at stack place))
value_named n [] place h = tt
value_named n (v ∷ vs) place h = go (value_named n vs place h.1) (length vs == place)
  where
    go : NamesBelow n (or_null (value_at vs place)) → (b : Bool) → NamesBelow n (or_null (cond b (Some v) (value_at vs place)))
    go rest true = h.0
    go rest false = rest

pub set_named : (n : ℕ) (stack : List Val) (place : ℕ) (x : Val) → AllByRecursion (NamesBelow n) stack → NamesBelow n x → AllByRecursion (NamesBelow n) (with_value stack place x)
set_named n [] place x h q = tt
set_named n (v ∷ vs) place x h q = go (set_named n vs place x h.1 q) (length vs == place)
  where
    go : AllByRecursion (NamesBelow n) (with_value vs place x) → (b : Bool) → AllByRecursion (NamesBelow n) (cond b (x ∷ vs) (v ∷ with_value vs place x))
    go rest true = (q, h.1)
    go rest false = (h.0, rest)

pub length-with_value : (stack : List Val) (place : ℕ) (x : Val) → length (with_value stack place x) ≡ length stack
length-with_value [] place x = refl
length-with_value (v ∷ vs) place x = go (length-with_value vs place x) (length vs == place)
  where
    go : length (with_value vs place x) ≡ length vs → (b : Bool) → length (cond b (x ∷ vs) (v ∷ with_value vs place x)) ≡ length (v ∷ vs)
    go rest true = refl
    go rest false = ap suc rest

-- upvalues

abbrev pub UpvalueStands : ℕ → ℕ → Upvalue → Type 0
UpvalueStands cells height (Opened p) = p < height
UpvalueStands cells height (Closed v) = NamesBelow cells v

abbrev pub NotAt : ℕ → Upvalue → Type 0
NotAt p (Opened q) = p ≡ q → ⊥
NotAt p (Closed v) = Unit {0}

abbrev pub Apart : List Upvalue → Type 0
Apart [] = Unit {0}
Apart (Opened p ∷ us) = AllByRecursion (NotAt p) us × Apart us
Apart (Closed v ∷ us) = Apart us

pub record UpvaluesStand (cells height : ℕ) (us : List Upvalue) : Type 0 where
  pub each : AllByRecursion (UpvalueStands cells height) us
  pub apart : Apart us

upvalue_more : (m n height top : ℕ) (u : Upvalue) → m ≤ n → height ≤ top → UpvalueStands m height u → UpvalueStands n top u
upvalue_more m n height top (Opened p) le up h = omega (arith, up, h)
upvalue_more m n height top (Closed v) le up h = names_more m n v le h

pub upvalues_up : (m n height top : ℕ) (us : List Upvalue) → m ≤ n → height ≤ top → UpvaluesStand m height us → UpvaluesStand n top us
upvalues_up m n height top us le up s = record { each = all_if (UpvalueStands m height) (UpvalueStands n top) (λ u h. upvalue_more m n height top u le up h) us s.each; apart = s.apart }

-- closing

module _ (cells height : ℕ) (stack : List Val) (named : AllByRecursion (NamesBelow cells) stack) where
  close_stands : (top : ℕ) (u : Upvalue) → UpvalueStands cells top u → UpvalueStands cells height (close height stack u)
  close_stands top (Closed v) h = h
  close_stands top (Opened p) h = go (nat_lt p height) refl
    where
      go : (b : Bool) → nat_lt p height ≡ b → UpvalueStands cells height (cond b (Opened p) (Closed (or_null (value_at stack p))))
      go true e = ltb-true p height e
      go false e = value_named cells stack p named

  close_apart : (p : ℕ) (u : Upvalue) → NotAt p u → NotAt p (close height stack u)
  close_apart p (Closed v) h = tt
  close_apart p (Opened q) h = go (nat_lt q height)
    where
      go : (b : Bool) → NotAt p (cond b (Opened q) (Closed (or_null (value_at stack q))))
      go true = h
      go false = tt

  closed_apart : (us : List Upvalue) → Apart us → Apart (map (close height stack) us)
  closed_apart [] h = tt
  closed_apart (Closed v ∷ us) h = closed_apart us h
  closed_apart (Opened p ∷ us) h = go (closed_apart us h.1) (nat_lt p height)
    where
      go : Apart (map (close height stack) us) → (b : Bool) → Apart (cond b (Opened p) (Closed (or_null (value_at stack p))) ∷ map (close height stack) us)
      go rest true = (all_map (close height stack) (NotAt p) (NotAt p) (close_apart p) us h.0, rest)
      go rest false = rest

  pub closed_stand : (top : ℕ) (us : List Upvalue) → UpvaluesStand cells top us → UpvaluesStand cells height (map (close height stack) us)
  closed_stand top us s = record {
    each = all_map (close height stack) (UpvalueStands cells top) (UpvalueStands cells height) (close_stands top) us s.each;
    apart = closed_apart us s.apart;
  }

-- what an upvalue has, and writing one that is closed

pub upvalue_named : (cells height : ℕ) (stack : List Val) (us : List Upvalue) (number : Option ℕ) → AllByRecursion (NamesBelow cells) stack → UpvaluesStand cells height us → NamesBelow cells (upvalue_value stack (option_and_then (slice_get us) number))
upvalue_named cells height stack us None named s = tt
upvalue_named cells height stack us (Some n) named s = go (slice_get us n) refl
  where
    go : (o : Option Upvalue) → slice_get us n ≡ o → NamesBelow cells (upvalue_value stack o)
    go None e = tt
    go (Some (Opened p)) e = value_named cells stack p named
    go (Some (Closed v)) e = all_at (UpvalueStands cells height) us n (Closed v) s.each e

set_apart : (us : List Upvalue) (n : ℕ) (v : Val) → Apart us → Apart (slice_set us n (Closed v))
set_apart [] n v h = tt
set_apart (Opened p ∷ us) zero v h = h.1
set_apart (Closed w ∷ us) zero v h = h
set_apart (Opened p ∷ us) (suc n) v h = (all_set (NotAt p) us n (Closed v) h.0 tt, set_apart us n v h.1)
set_apart (Closed w ∷ us) (suc n) v h = set_apart us n v h

pub upvalues_set : (cells height : ℕ) (us : List Upvalue) (n : ℕ) (v : Val) → NamesBelow cells v → UpvaluesStand cells height us → UpvaluesStand cells height (slice_set us n (Closed v))
upvalues_set cells height us n v q s = record { each = all_set (UpvalueStands cells height) us n (Closed v) s.each q; apart = set_apart us n v s.apart }

pub length-upvalues_set : (us : List Upvalue) (n : ℕ) (u : Upvalue) → length (slice_set us n u) ≡ length us
length-upvalues_set [] n u = refl
length-upvalues_set (x ∷ us) zero u = refl
length-upvalues_set (x ∷ us) (suc n) u = ap suc (length-upvalues_set us n u)

-- the numbers that a function has captured

captured_there : (cells u : ℕ) (h : HeapOf FunCell) (n : ℕ) → AllByRecursion (CellStands cells u) h → AllByRecursion (λ k. k < u) (captured_in (function_at h n))
captured_there cells u [] n s = tt
captured_there cells u (Text t ∷ h) zero s = tt
captured_there cells u (Array vs ∷ h) zero s = tt
captured_there cells u (Dict ps ∷ h) zero s = tt
captured_there cells u (Fun f ∷ h) zero s = s.0
captured_there cells u (c ∷ h) (suc n) s = captured_there cells u h n s.1

pub captured_below : (cells u : ℕ) (s : State) (f : Frame) → AllByRecursion (CellStands cells u) s.heap → AllByRecursion (λ k. k < u) (captured_by s f)
captured_below cells u s f all = go f.function
  where
    go : (o : Option ℕ) → AllByRecursion (λ k. k < u) (captured_in (option_and_then (function_at s.heap) o))
    go None = tt
    go (Some n) = captured_there cells u s.heap n all

-- captures

no_one : (o : Option ℕ) → one_on o ≡ None → o ≡ None
no_one None e = refl
no_one (Some n) e = absurd cc

not_found : (us : List Upvalue) (p : ℕ) → find_open us p ≡ None → AllByRecursion (NotAt p) us
not_found [] p e = tt
not_found (Closed v ∷ us) p e = (tt, not_found us p (no_one (find_open us p) e))
not_found (Opened q ∷ us) p e = go (not_found us p) (q == p) refl e
  where
    go : (find_open us p ≡ None → AllByRecursion (NotAt p) us) → (b : Bool) → (q == p) ≡ b → cond b (Some 0) (one_on (find_open us p)) ≡ None → (p ≡ q → ⊥) × AllByRecursion (NotAt p) us
    go rest true is e = absurd cc
    go rest false is e = (λ same. eqb-false q p is (sym same), rest (no_one (find_open us p) e))

one_found : (us : List Upvalue) (o : Option ℕ) (n : ℕ) → ((k : ℕ) → o ≡ Some k → k < length us) → one_on o ≡ Some n → n < suc (length us)
one_found us None n h e = absurd cc
one_found us (Some k) n h e =
    let lt = h k refl in
    let same : k + 1 ≡ n = cc in
    omega (arith, lt, same)

found : (us : List Upvalue) (p n : ℕ) → find_open us p ≡ Some n → n < length us
found [] p n e = absurd cc
found (Closed v ∷ us) p n e = one_found us (find_open us p) n (λ k. found us p k) e
found (Opened q ∷ us) p n e = go (λ k. found us p k) (q == p) e
  where
    go : ((k : ℕ) → find_open us p ≡ Some k → k < length us) → (b : Bool) → cond b (Some 0) (one_on (find_open us p)) ≡ Some n → n < suc (length us)
    go rest true e = let same : 0 ≡ n = cc in omega (arith, same)
    go rest false e = one_found us (find_open us p) n rest e

last_opened : (us : List Upvalue) (p : ℕ) → AllByRecursion (NotAt p) us → Apart us → Apart (us ++ Opened p ∷ [])
last_opened [] p n h = (tt, tt)
last_opened (Closed v ∷ us) p n h = last_opened us p n.1 h
last_opened (Opened q ∷ us) p n h = (all_last (NotAt q) us (Opened p) h.0 (λ e. n.0 (sym e)), last_opened us p n.1 h.1)

last_closed : (us : List Upvalue) (v : Val) → Apart us → Apart (us ++ Closed v ∷ [])
last_closed [] v h = tt
last_closed (Closed w ∷ us) v h = last_closed us v h
last_closed (Opened q ∷ us) v h = (all_last (NotAt q) us (Closed v) h.0 tt, last_closed us v h.1)

pub record Captures (cells height : ℕ) (us : List Upvalue) (number : ℕ) (after : List Upvalue) : Type 0 where
  pub below : number < length after
  pub grown : length us ≤ length after
  pub stand : UpvaluesStand cells height after

module _ (cells height : ℕ) where
  opened : (p : ℕ) (us : List Upvalue) → p < height → UpvaluesStand cells height us → (o : Option ℕ) → find_open us p ≡ o → Captures cells height us (or_opened p us o).0 (or_opened p us o).1
  opened p us lt s (Some n) e = record { below = found us p n e; grown = omega arith; stand = s }
  opened p us lt s None e =
      let long = length-append us (Opened p ∷ []) in
      record {
        below = omega (arith, long);
        grown = omega (arith, long);
        stand = record { each = all_last (UpvalueStands cells height) us (Opened p) s.each lt; apart = last_opened us p (not_found us p e) s.apart };
      }

  closed : (us : List Upvalue) → UpvaluesStand cells height us → (o : Option ℕ) → ((n : ℕ) → o ≡ Some n → n < length us) → Captures cells height us (or_closed us o).0 (or_closed us o).1
  closed us s (Some n) there = record { below = there n refl; grown = omega arith; stand = s }
  closed us s None there =
      let long = length-append us (Closed Null ∷ []) in
      record {
        below = omega (arith, long);
        grown = omega (arith, long);
        stand = record { each = all_last (UpvalueStands cells height) us (Closed Null) s.each tt; apart = last_closed us Null s.apart };
      }

  one_captured : (f : Frame) (captured : List ℕ) (c : Capture) (us : List Upvalue) → AllByRecursion (λ n. n < length us) captured → UpvaluesStand cells height us
      → Captures cells height us (capture_one height f captured c us).0 (capture_one height f captured c us).1
  one_captured f captured c us there s = go c.local
    where
      place : ℕ
      place = f.base + c.index

      local : (b : Bool) → nat_lt place height ≡ b
          → Captures cells height us (cond b (or_opened place us (find_open us place)) (or_closed us None)).0 (cond b (or_opened place us (find_open us place)) (or_closed us None)).1
      local true e = opened place us (ltb-true place height e) s (find_open us place) refl
      local false e = closed us s None (λ n e. absurd cc)

      go : (b : Bool) → let r = cond b (cond (nat_lt place height) (or_opened place us (find_open us place)) (or_closed us None)) (or_closed us (slice_get captured c.index)) in Captures cells height us r.0 r.1
      go true = local (nat_lt place height) refl
      go false = closed us s (slice_get captured c.index) (λ n e. all_at (λ n. n < length us) captured c.index n there e)

pub record AllCaptures (cells height : ℕ) (us : List Upvalue) (numbers : List ℕ) (after : List Upvalue) : Type 0 where
  pub below : AllByRecursion (λ n. n < length after) numbers
  pub grown : length us ≤ length after
  pub stand : UpvaluesStand cells height after

pub all_captured : (cells height : ℕ) (f : Frame) (captured : List ℕ) (cs : List Capture) (us : List Upvalue) → AllByRecursion (λ n. n < length us) captured → UpvaluesStand cells height us
    → AllCaptures cells height us (capture_all height f captured cs us).0 (capture_all height f captured cs us).1
all_captured cells height f captured [] us there s = record { below = tt; grown = omega arith; stand = s }
all_captured cells height f captured (c ∷ cs) us there s =
    let one = one_captured cells height f captured c us there s in
    let after = (capture_one height f captured c us).1 in
    let grown = one.grown in
    let below = one.below in
    let others = all_captured cells height f captured cs after (all_if (λ n. n < length us) (λ n. n < length after) (λ n lt. omega (arith, lt, grown)) captured there) one.stand in
    let more = others.grown in
    record { below = (omega (arith, below, more), others.below); grown = omega (arith, grown, more); stand = others.stand }
