-- Frames and throw frames in order, the innermost first.
use Rattle.std.proofs.Common.{◌≡◌, ℕ, suc, ◌-◌, ◌≤◌, max, List, [], ◌∷◌, length, drop, Option, Some, None, Bool, true, false, cond, refl, sym, ap, subst, arith}
use Rattle.std.specs.Prelude.{nat_lt, ◌==◌, is_some}
use Rattle.std.proofs.lemmas.Bool.{eqb-true, eq-eqb, ne_eqb, lt-ltb, le-ltb}
use Rattle.hog_value.specs.declared.cell.FunCell.{FunCell}
use Rattle.hog_value.specs.Cells.{HeapOf}
use Rattle.vm_course.specs.State.{Frame, ThrowFrame, function_at}
use Rattle.vm_course.specs.Stack.{keep, height_of}
use Rattle.vm_course.specs.Step.{throws_around, without_try}
use Rattle.vm_state.proofs.HeapsStand.{Keeps}

abbrev pub IsFunction : HeapOf FunCell → Option ℕ → Type 0
IsFunction h None = ⊥
IsFunction h (Some n) = is_some (function_at h n) ≡ true

abbrev pub Choice : Bool → Type 0 → Type 0 → Type 0
Choice true A B = A
Choice false A B = B

-- The throw frames of the last of n frames come first, each not above the height that the one before it leaves; then what holds below them.
abbrev pub Own : (ℕ → List ThrowFrame → Type 0) → ℕ → ℕ → List ThrowFrame → Type 0
Own below n height [] = below height []
Own below n height (t ∷ ts) = Choice (t.frames == n) ((t.height ≤ height) × Own below n t.height ts) (below height (t ∷ ts))

-- Below those of a frame with this base and function, under which these frames stand: the program's has base 0 and no function.
abbrev pub Below : HeapOf FunCell → ℕ → Option ℕ → List Frame → ℕ → List ThrowFrame → Type 0
Below h base function [] height ts = (base ≡ 0) × (function ≡ None) × (ts ≡ [])
Below h base function (g ∷ gs) height ts = IsFunction h function × (base ≤ height) × Own (Below h g.base g.function gs) (suc (length gs)) base ts

abbrev pub Calls : HeapOf FunCell → ℕ → Option ℕ → List Frame → ℕ → List ThrowFrame → Type 0
Calls h base function fs height ts = Own (Below h base function fs) (suc (length fs)) height ts

abbrev pub CallsStand : HeapOf FunCell → List Frame → ℕ → List ThrowFrame → Type 0
CallsStand h [] height ts = ⊥
CallsStand h (f ∷ fs) height ts = Calls h f.base f.function fs height ts

-- a frame's base is not above the height

below_base : (h : HeapOf FunCell) (base : ℕ) (function : Option ℕ) (fs : List Frame) (height : ℕ) (ts : List ThrowFrame) → Below h base function fs height ts → base ≤ height
below_base h base function [] height ts b = let none = b.0 in omega (arith, none)
below_base h base function (g ∷ gs) height ts b = b.1

below_at : (h : HeapOf FunCell) (base : ℕ) (function : Option ℕ) (fs : List Frame) (height other : ℕ) (ts : List ThrowFrame) → Below h base function fs height ts → base ≤ other → Below h base function fs other ts
below_at h base function [] height other ts b le = b
below_at h base function (g ∷ gs) height other ts b le = (b.0, le, b.2)

module _ (h : HeapOf FunCell) (base : ℕ) (function : Option ℕ) (fs : List Frame) where
  pub calls_base : (height : ℕ) (ts : List ThrowFrame) → Calls h base function fs height ts → base ≤ height
  calls_base height [] c = below_base h base function fs height [] c
  calls_base height (t ∷ ts) c = go (calls_base t.height ts) (t.frames == suc (length fs)) c
    where
      go : (Calls h base function fs t.height ts → base ≤ t.height) → (b : Bool) → Choice b ((t.height ≤ height) × Calls h base function fs t.height ts) (Below h base function fs height (t ∷ ts)) → base ≤ height
      go rest true c = let a = c.0 in let b = rest c.1 in omega (arith, a, b)
      go rest false c = below_base h base function fs height (t ∷ ts) c

  -- the floor is not above the height, and any height above it will do
  pub calls_floor : (height : ℕ) (ts : List ThrowFrame) → Calls h base function fs height ts → max base (height_of (suc (length fs)) ts) ≤ height
  calls_floor height [] c = let a = below_base h base function fs height [] c in omega (arith, a)
  calls_floor height (t ∷ ts) c = go (t.frames == suc (length fs)) c
    where
      go : (b : Bool) → Choice b ((t.height ≤ height) × Calls h base function fs t.height ts) (Below h base function fs height (t ∷ ts)) → max base (cond b t.height 0) ≤ height
      go true c = let a = c.0 in let b = calls_base t.height ts c.1 in omega (arith, a, b)
      go false c = let a = below_base h base function fs height (t ∷ ts) c in omega (arith, a)

  pub calls_at : (height other : ℕ) (ts : List ThrowFrame) → Calls h base function fs height ts → max base (height_of (suc (length fs)) ts) ≤ other → Calls h base function fs other ts
  calls_at height other [] c le = below_at h base function fs height other [] c (omega (arith, le))
  calls_at height other (t ∷ ts) c le = go (t.frames == suc (length fs)) c le
    where
      go : (b : Bool) → Choice b ((t.height ≤ height) × Calls h base function fs t.height ts) (Below h base function fs height (t ∷ ts)) → max base (cond b t.height 0) ≤ other
          → Choice b ((t.height ≤ other) × Calls h base function fs t.height ts) (Below h base function fs other (t ∷ ts))
      go true c le = (omega (arith, le), c.1)
      go false c le = below_at h base function fs height other (t ∷ ts) c (omega (arith, le))

  pub calls_up : (height other : ℕ) (ts : List ThrowFrame) → Calls h base function fs height ts → height ≤ other → Calls h base function fs other ts
  calls_up height other ts c le = let a = calls_floor height ts c in calls_at height other ts c (omega (arith, a, le))

  -- TRY and POP_TRY

  pub calls_tried : (height catch : ℕ) (ts : List ThrowFrame) → Calls h base function fs height ts → Calls h base function fs height (record { frames = suc (length fs); height = height; catch = catch } ∷ ts)
  calls_tried height catch ts c =
      subst (λ b. Choice b ((height ≤ height) × Calls h base function fs height ts) (Below h base function fs height (record { frames = suc (length fs); height = height; catch = catch } ∷ ts)))
      (sym (eq-eqb (suc (length fs)) (suc (length fs)) refl)) (omega arith, c)

  pub calls_without : (height : ℕ) (ts : List ThrowFrame) → Calls h base function fs height ts → Calls h base function fs height (without_try (suc (length fs)) ts)
  calls_without height [] c = c
  calls_without height (t ∷ ts) c = go (t.frames == suc (length fs)) refl c
    where
      go : (b : Bool) → (t.frames == suc (length fs)) ≡ b → Choice b ((t.height ≤ height) × Calls h base function fs t.height ts) (Below h base function fs height (t ∷ ts)) → Calls h base function fs height (cond b ts (t ∷ ts))
      go true e c = calls_up t.height height ts c.1 c.0
      go false e c = subst (λ b. Choice b ((t.height ≤ height) × Calls h base function fs t.height ts) (Below h base function fs height (t ∷ ts))) (sym e) c

-- where a throw lands

kept_one : (n : ℕ) (f : Frame) (fs : List Frame) → n ≤ length fs → keep n (f ∷ fs) ≡ keep n fs
kept_one n f fs le = let e : suc (length fs) - n ≡ suc (length fs - n) = omega (arith, le) in ap (λ k. drop k (f ∷ fs)) e

kept_all : (n : ℕ) (fs : List Frame) → n ≡ length fs → keep n fs ≡ fs
kept_all n fs e = let none : length fs - n ≡ 0 = omega (arith, e) in ap (λ k. drop k fs) none

pub record Lands (h : HeapOf FunCell) (t : ThrowFrame) (ts : List ThrowFrame) (fs : List Frame) (height : ℕ) : Type 0 where
  pub some : 1 ≤ t.frames
  pub framed : t.frames ≤ length fs
  pub within : t.height ≤ height
  pub calls : CallsStand h (keep t.frames fs) t.height ts

at_last : (h : HeapOf FunCell) (t : ThrowFrame) (ts : List ThrowFrame) (f : Frame) (fs : List Frame) (height : ℕ) → (t.frames == suc (length fs)) ≡ true → (t.height ≤ height) × Calls h f.base f.function fs t.height ts → Lands h t ts (f ∷ fs) height
at_last h t ts f fs height e c =
    let same = eqb-true t.frames (suc (length fs)) e in
    record {
      some = omega (arith, same);
      framed = omega (arith, same);
      within = c.0;
      calls = subst (λ ks. CallsStand h ks t.height ts) (sym (kept_all t.frames (f ∷ fs) same)) c.1;
    }

under_last : (h : HeapOf FunCell) (t : ThrowFrame) (ts : List ThrowFrame) (f : Frame) (fs : List Frame) (base height : ℕ) → base ≤ height → Lands h t ts fs base → Lands h t ts (f ∷ fs) height
under_last h t ts f fs base height le l =
    let within = l.within in
    let framed = l.framed in
    record {
      some = l.some;
      framed = omega (arith, framed);
      within = omega (arith, within, le);
      calls = subst (λ ks. CallsStand h ks t.height ts) (sym (kept_one t.frames f fs l.framed)) l.calls;
    }

pub lands : (h : HeapOf FunCell) (t : ThrowFrame) (ts : List ThrowFrame) (fs : List Frame) (height : ℕ) → CallsStand h fs height (t ∷ ts) → Lands h t ts fs height
lands h t ts [] height c = absurd c
lands h t ts (f ∷ []) height c = go (t.frames == 1) refl c
  where
    go : (b : Bool) → (t.frames == 1) ≡ b → Choice b ((t.height ≤ height) × Calls h f.base f.function [] t.height ts) (Below h f.base f.function [] height (t ∷ ts)) → Lands h t ts (f ∷ []) height
    go true e c = at_last h t ts f [] height e c
    go false e c = absurd (let none : t ∷ ts ≡ [] = c.2 in cc)
lands h t ts (f ∷ g ∷ gs) height c = go (lands h t ts (g ∷ gs) f.base) (t.frames == suc (suc (length gs))) refl c
  where
    go : (CallsStand h (g ∷ gs) f.base (t ∷ ts) → Lands h t ts (g ∷ gs) f.base) → (b : Bool) → (t.frames == suc (suc (length gs))) ≡ b
        → Choice b ((t.height ≤ height) × Calls h f.base f.function (g ∷ gs) t.height ts) (Below h f.base f.function (g ∷ gs) height (t ∷ ts)) → Lands h t ts (f ∷ g ∷ gs) height
    go under true e c = at_last h t ts f (g ∷ gs) height e c
    go under false e c = under_last h t ts f (g ∷ gs) f.base height c.1 (under c.2)

-- a return

pub calls_around : (h : HeapOf FunCell) (base : ℕ) (function : Option ℕ) (g : Frame) (gs : List Frame) (height : ℕ) (ts : List ThrowFrame) → Calls h base function (g ∷ gs) height ts
    → Calls h g.base g.function gs base (throws_around (suc (length (g ∷ gs))) ts)
calls_around h base function g gs height [] c = c.2
calls_around h base function g gs height (t ∷ ts) c = go (calls_around h base function g gs t.height ts) (t.frames == suc (suc (length gs))) refl c
  where
    n : ℕ
    n = suc (length (g ∷ gs))

    go : (Calls h base function (g ∷ gs) t.height ts → Calls h g.base g.function gs base (throws_around n ts)) → (b : Bool) → (t.frames == n) ≡ b
        → Choice b ((t.height ≤ height) × Calls h base function (g ∷ gs) t.height ts) (Below h base function (g ∷ gs) height (t ∷ ts))
        → Calls h g.base g.function gs base (cond (nat_lt t.frames n) (t ∷ ts) (throws_around n ts))
    go rest true e c =
        let same = eqb-true t.frames n e in
        subst (λ b. Calls h g.base g.function gs base (cond b (t ∷ ts) (throws_around n ts))) (sym (le-ltb t.frames n (omega (arith, same)))) (rest c.1)
    go rest false e c =
        let framed = (lands h t ts (g ∷ gs) base c.2).framed in
        subst (λ b. Calls h g.base g.function gs base (cond b (t ∷ ts) (throws_around n ts))) (sym (lt-ltb t.frames n (omega (arith, framed)))) c.2

-- a call

pub calls_entered : (h : HeapOf FunCell) (cell base : ℕ) (f : Frame) (fs : List Frame) (height top : ℕ) (ts : List ThrowFrame) → Calls h f.base f.function fs height ts → max f.base (height_of (suc (length fs)) ts) ≤ base → base ≤ top
    → is_some (function_at h cell) ≡ true → Calls h base (Some cell) (f ∷ fs) top ts
calls_entered h cell base f fs height top [] c floor le there = (there, le, calls_at h f.base f.function fs height base [] c floor)
calls_entered h cell base f fs height top (t ∷ ts) c floor le there =
    let framed = (lands h t ts (f ∷ fs) height c).framed in
    let other : (t.frames == suc (suc (length fs))) ≡ false = ne_eqb t.frames (suc (suc (length fs))) (λ e. omega (arith, e, framed)) in
    subst (λ b. Choice b ((t.height ≤ top) × Calls h base (Some cell) (f ∷ fs) t.height ts) (Below h base (Some cell) (f ∷ fs) top (t ∷ ts))) (sym other)
    (there, le, calls_at h f.base f.function fs height base (t ∷ ts) c floor)

-- another heap

function_kept : (h h1 : HeapOf FunCell) (function : Option ℕ) → Keeps h h1 → IsFunction h function → IsFunction h1 function
function_kept h h1 None k i = i
function_kept h h1 (Some n) k i = k.functions n i

own_kept : (below other : ℕ → List ThrowFrame → Type 0) (n height : ℕ) (ts : List ThrowFrame) → ((k : ℕ) (us : List ThrowFrame) → below k us → other k us) → Own below n height ts → Own other n height ts
own_kept below other n height [] go c = go height [] c
own_kept below other n height (t ∷ ts) go c = by_frame (own_kept below other n t.height ts go) (t.frames == n) c
  where
    by_frame : (Own below n t.height ts → Own other n t.height ts) → (b : Bool) → Choice b ((t.height ≤ height) × Own below n t.height ts) (below height (t ∷ ts)) → Choice b ((t.height ≤ height) × Own other n t.height ts) (other height (t ∷ ts))
    by_frame rest true c = (c.0, rest c.1)
    by_frame rest false c = go height (t ∷ ts) c

below_kept : (h h1 : HeapOf FunCell) → Keeps h h1 → (base : ℕ) (function : Option ℕ) (fs : List Frame) (height : ℕ) (ts : List ThrowFrame) → Below h base function fs height ts → Below h1 base function fs height ts
below_kept h h1 k base function [] height ts b = b
below_kept h h1 k base function (g ∷ gs) height ts b =
    (function_kept h h1 function k b.0, b.1, own_kept (Below h g.base g.function gs) (Below h1 g.base g.function gs) (suc (length gs)) base ts (below_kept h h1 k g.base g.function gs) b.2)

pub calls_kept : (h h1 : HeapOf FunCell) (fs : List Frame) (height : ℕ) (ts : List ThrowFrame) → Keeps h h1 → CallsStand h fs height ts → CallsStand h1 fs height ts
calls_kept h h1 [] height ts k c = c
calls_kept h h1 (f ∷ fs) height ts k c = own_kept (Below h f.base f.function fs) (Below h1 f.base f.function fs) (suc (length fs)) height ts (below_kept h h1 k f.base f.function fs) c
