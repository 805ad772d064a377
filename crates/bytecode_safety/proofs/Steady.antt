-- What holds of the machine's state between two operations of an accepted code, and what it has left to do.
use Rattle.std.proofs.Common.{◌≡◌, ℕ, zero, suc, ◌+◌, ◌-◌, ◌*◌, ◌<◌, ◌≤◌, List, [], ◌∷◌, ◌++◌, length, drop, Option, Some, None, Bool, true, false, cond, refl, sym, ap, ◌∙◌, subst, ◌⊎◌, inl, inr, ⊎_elim, arith}
use Rattle.std.specs.Prelude.{◌==◌, nat_lt, slice_get, option_and_then}
use Rattle.std.proofs.lemmas.Bool.Decides.{nat_tests}
use Rattle.hog_ops.specs.Plain.{Op}
use Rattle.hog_value.specs.declared.cell.FunCell.{FunCell}
use Rattle.hog_value.specs.Cells.{CellOf, HeapOf, Text, Array, Dict, Fun}
use Rattle.hog_value.specs.Meters.{max_turns}
use Rattle.vm_course.specs.State.{function_in, function_at, Slot, Begins, BodyEnds, Operand, Frame, ThrowFrame, Mode, Running, Waiting, Ended, State, params_at}
use Rattle.vm_course.specs.Stack.{height_of, captured_in}
use Rattle.vm_course.specs.Throws.{with_heap}
use Rattle.vm_course.specs.Step.{throws_around, without_try}
use Rattle.bytecode_check.specs.Shape.{OpenTry, Shape, shaped, floor, before_catches, Shapes, shape_at}
use Rattle.bytecode_safety.proofs.Places.{InBody}
use Rattle.bytecode_safety.proofs.Heaps.{AllFuns, fun_of, fun_at, Keeps}
use Rattle.bytecode_safety.proofs.Stacks.{OpenBelow, Below, below_more}

-- ---- throw frames are those that the shapes of the frames' places say

abbrev pub throw_frame : ℕ → ℕ → OpenTry → ThrowFrame
throw_frame frames base t = record { frames = frames; height = base + t.depth; catch = t.catch }

abbrev pub own_throws : ℕ → ℕ → List OpenTry → List ThrowFrame
own_throws frames base [] = []
own_throws frames base (t ∷ ts) = throw_frame frames base t ∷ own_throws frames base ts

abbrev pub tries_of : Option Shape → List OpenTry
tries_of None = []
tries_of (Some sh) = sh.tries

abbrev pub throws_of : Shapes → List Frame → List ThrowFrame
throws_of Y [] = []
throws_of Y (f ∷ fs) = own_throws (suc (length fs)) f.base (tries_of (shape_at Y f.place)) ++ throws_of Y fs

-- ---- frames

-- a throw to a try lands at a place of the same body, with the value on the stack
pub record Opens (code : List Slot) (Y : Shapes) (captures depth : ℕ) (t : OpenTry) (ts : List OpenTry) : Type 0 where
  pub low : t.depth ≤ depth
  pub shape : shape_at Y t.catch ≡ Some (shaped (suc t.depth) ts)
  pub before : before_catches t.catch ts ≡ true
  pub body : InBody code Y captures t.catch

abbrev pub AllOpen : List Slot → Shapes → ℕ → ℕ → List OpenTry → Type 0
AllOpen code Y captures depth [] = Unit {0}
AllOpen code Y captures depth (t ∷ ts) = Opens code Y captures depth t ts × AllOpen code Y captures t.depth ts

-- a frame's function, and the numbers of the upvalues that it has captured
abbrev pub Function : HeapOf FunCell → Option ℕ → List ℕ → Type 0
Function cells None numbers = numbers ≡ []
Function cells (Some c) numbers = (cell : FunCell) × (function_at cells c ≡ Some cell) × (cell.captured ≡ numbers)

-- A frame at a place of an accepted code. The stack has `height` values, and `k` more are to come before the frame goes on.
pub record Seat (code : List Slot) (Y : Shapes) (cells : HeapOf FunCell) (count k height : ℕ) (f : Frame) : Type 0 where
  pub shape : Shape
  pub captures : ℕ
  pub is : shape_at Y f.place ≡ Some shape
  pub body : InBody code Y captures f.place
  pub level : k + height ≡ f.base + shape.depth
  pub above : f.base + floor shape.tries ≤ height
  pub before : before_catches f.place shape.tries ≡ true
  pub tried : AllOpen code Y captures shape.depth shape.tries
  pub numbers : List ℕ
  pub function : Function cells f.function numbers
  pub captured : length numbers ≡ captures
  pub below : Below count numbers

-- the frames around wait for a value each
abbrev pub Lower : List Slot → Shapes → HeapOf FunCell → ℕ → ℕ → List Frame → Type 0
Lower code Y cells count height [] = Unit {0}
Lower code Y cells count height (f ∷ fs) = Seat code Y cells count 1 height f × Lower code Y cells count f.base fs

-- a function's body was checked, and its captures are there
pub record CellFits (code : List Slot) (Y : Shapes) (count : ℕ) (cell : FunCell) : Type 0 where
  pub params : ℕ
  pub takes : params_at code cell.place ≡ Some params
  pub shape : shape_at Y cell.place ≡ Some (shaped params [])
  pub body : InBody code Y (length cell.captured) cell.place
  pub below : Below count cell.captured

abbrev pub CellsFit : List Slot → Shapes → ℕ → HeapOf FunCell → Type 0
CellsFit code Y count h = AllFuns (CellFits code Y count) h

-- the invariant of a machine that runs accepted code
pub record Steady (code : List Slot) (Y : Shapes) (k : ℕ) (s : State) (f : Frame) (fs : List Frame) : Type 0 where
  pub frames : s.frames ≡ f ∷ fs
  pub count : ℕ
  pub counted : length s.upvalues ≡ count
  pub seat : Seat code Y s.heap count k (length s.stack) f
  pub lower : Lower code Y s.heap count f.base fs
  pub throws : s.throws ≡ throws_of Y (f ∷ fs)
  pub opened : OpenBelow (length s.stack) s.upvalues
  pub cells : CellsFit code Y count s.heap

pub record Stands (code : List Slot) (Y : Shapes) (k : ℕ) (s : State) : Type 0 where
  pub frame : Frame
  pub around : List Frame
  pub steady : Steady code Y k s frame around

-- a machine that waits has one value to come
abbrev pub SitsIn : Mode → List Slot → Shapes → State → Type 0
SitsIn Running code Y s = Stands code Y 0 s
SitsIn Waiting code Y s = Stands code Y 1 s
SitsIn (Ended e) code Y s = Unit {0}

-- ---- what is left to do

-- how many operations begin
abbrev pub begin_in : List Slot → ℕ
begin_in [] = 0
begin_in (Begins o ∷ xs) = suc (begin_in xs)
begin_in (BodyEnds ∷ xs) = begin_in xs
begin_in (Operand ∷ xs) = begin_in xs

-- how many begin at a place or behind it
abbrev pub left : List Slot → ℕ → ℕ
left code p = begin_in (drop p code)

abbrev pub phi : List Slot → List Frame → ℕ
phi code [] = 0
phi code (f ∷ fs) = left code f.place + phi code fs

-- all of the code for each turn that is left
unfoldable pub fuel : ℕ → ℕ → ℕ
fuel n turns = (max_turns - turns) * suc n

abbrev pub psi_in : Mode → ℕ → ℕ
psi_in Running n = n
psi_in Waiting n = suc n
psi_in (Ended e) n = n - 1

abbrev pub psi : List Slot → State → ℕ
psi code s = psi_in s.mode (phi code s.frames + fuel (left code 0) s.turns)

-- one operation keeps the invariant, and is paid
pub record Goes (code : List Slot) (Y : Shapes) (s s' : State) : Type 0 where
  pub sits : SitsIn s'.mode code Y s'
  pub paid : suc (psi code s') ≤ psi code s

spent : (m t n : ℕ) → t < m → (m - (t + 1)) * suc n + suc n ≡ (m - t) * suc n
spent m t n lt =
    let e : m - t ≡ (m - (t + 1)) + 1 = omega arith in
    let p = ap (λ x. x * suc n) e in
    let d : ((m - (t + 1)) + 1) * suc n ≡ (m - (t + 1)) * suc n + suc n = omega arith in
    omega (arith, p, d)

pub fuel_spent : (n t : ℕ) → t < max_turns → fuel n (t + 1) + suc n ≡ fuel n t
unfolding fuel
fuel_spent n t lt = spent max_turns t n lt

total : (m t n : ℕ) → m * suc n ≤ (m - t) * suc n + t * suc n
total m t n = ⊎_elim (λ le. let e : m ≡ (m - t) + t = omega arith in let p = ap (λ x. x * suc n) e in let d : ((m - t) + t) * suc n ≡ (m - t) * suc n + t * suc n = omega arith in omega (arith, p, d))
    (λ lt. let e : t ≡ m + (t - m) = omega arith in let p = ap (λ x. x * suc n) e in let d : (m + (t - m)) * suc n ≡ m * suc n + (t - m) * suc n = omega arith in omega (arith, p, d))
    (either t m)
  where
    either : (t m : ℕ) → (t ≤ m) ⊎ (m < t)
    either t m = go (nat_lt m t) refl
      where
        go : (b : Bool) → nat_lt m t ≡ b → (t ≤ m) ⊎ (m < t)
        go true e = inr (grind (arith, nat_tests))
        go false e = inl (grind (arith, nat_tests))

pub fuel_total : (n t : ℕ) → fuel n 0 ≤ fuel n t + t * suc n
unfolding fuel
fuel_total n t = total max_turns t n

pub fuel_less : (n t u : ℕ) → t ≤ u → fuel n u ≤ fuel n t
unfolding fuel
fuel_less n t u le = less max_turns t u n le
  where
    less : (m t u n : ℕ) → t ≤ u → (m - u) * suc n ≤ (m - t) * suc n
    less m t u n le =
        let e : m - t ≡ (m - u) + ((m - t) - (m - u)) = omega arith in
        let p = ap (λ x. x * suc n) e in
        let d : ((m - u) + ((m - t) - (m - u))) * suc n ≡ (m - u) * suc n + ((m - t) - (m - u)) * suc n = omega arith in
        omega (arith, p, d)

left_most : (code : List Slot) (q : ℕ) → left code q ≤ begin_in code
left_most [] zero = omega arith
left_most [] (suc q) = omega arith
left_most (x ∷ code) zero = omega arith
left_most (Begins o ∷ code) (suc q) = let h = left_most code q in omega arith
left_most (BodyEnds ∷ code) (suc q) = left_most code q
left_most (Operand ∷ code) (suc q) = left_most code q

pub left_less : (code : List Slot) (q : ℕ) → left code q ≤ left code 0
left_less code q = left_most code q

-- a place behind an operation has less left
pub left_ahead : (code : List Slot) (p q : ℕ) (o : Op) → slice_get code p ≡ Some (Begins o) → p < q → suc (left code q) ≤ left code p
left_ahead [] p q o e lt = absurd cc
left_ahead (x ∷ code) zero zero o e lt = absurd (omega arith)
left_ahead (Begins u ∷ code) zero (suc q) o e lt = let h = left_most code q in omega arith
left_ahead (BodyEnds ∷ code) zero (suc q) o e lt = absurd cc
left_ahead (Operand ∷ code) zero (suc q) o e lt = absurd cc
left_ahead (x ∷ code) (suc p) zero o e lt = absurd (omega arith)
left_ahead (x ∷ code) (suc p) (suc q) o e lt = left_ahead code p q o e (omega arith)

pub left_some : (code : List Slot) (p : ℕ) (o : Op) → slice_get code p ≡ Some (Begins o) → 1 ≤ left code p
left_some code p o e = let h = left_ahead code p (suc p) o e (omega arith) in omega arith

-- ---- throw frames

-- those of the frames around are of fewer frames
pub few_throws : (Y : Shapes) (fs : List Frame) (n : ℕ) → length fs < n → height_of n (throws_of Y fs) ≡ 0
few_throws Y [] n lt = refl
few_throws Y (f ∷ fs) n lt = go (tries_of (shape_at Y f.place)) (few_throws Y fs n (omega arith))
  where
    go : (ts : List OpenTry) → height_of n (throws_of Y fs) ≡ 0 → height_of n (own_throws (suc (length fs)) f.base ts ++ throws_of Y fs) ≡ 0
    go [] e = e
    go (t ∷ ts) e = let no : (suc (length fs) == n) ≡ false = grind (arith, nat_tests) in ap (λ b. cond b (f.base + t.depth) 0) no

pub around_same : (Y : Shapes) (fs : List Frame) (n : ℕ) → length fs < n → throws_around n (throws_of Y fs) ≡ throws_of Y fs
around_same Y [] n lt = refl
around_same Y (f ∷ fs) n lt = go (tries_of (shape_at Y f.place)) (around_same Y fs n (omega arith))
  where
    go : (ts : List OpenTry) → throws_around n (throws_of Y fs) ≡ throws_of Y fs → throws_around n (own_throws (suc (length fs)) f.base ts ++ throws_of Y fs) ≡ own_throws (suc (length fs)) f.base ts ++ throws_of Y fs
    go [] e = e
    go (t ∷ ts) e = let yes : nat_lt (suc (length fs)) n ≡ true = grind (arith, nat_tests) in
        let all = throw_frame (suc (length fs)) f.base t ∷ (own_throws (suc (length fs)) f.base ts ++ throws_of Y fs) in
        ap (λ b. cond b all (throws_around n (own_throws (suc (length fs)) f.base ts ++ throws_of Y fs))) yes

pub own_gone : (Y : Shapes) (fs : List Frame) (base : ℕ) (ts : List OpenTry) → throws_around (suc (length fs)) (own_throws (suc (length fs)) base ts ++ throws_of Y fs) ≡ throws_of Y fs
own_gone Y fs base [] = around_same Y fs (suc (length fs)) (omega arith)
own_gone Y fs base (t ∷ ts) =
    let no : nat_lt (suc (length fs)) (suc (length fs)) ≡ false = grind (arith, nat_tests) in
    let all = throw_frame (suc (length fs)) base t ∷ (own_throws (suc (length fs)) base ts ++ throws_of Y fs) in
    ap (λ b. cond b all (throws_around (suc (length fs)) (own_throws (suc (length fs)) base ts ++ throws_of Y fs))) no ∙ own_gone Y fs base ts

pub last_gone : (n base : ℕ) (t : OpenTry) (ts : List OpenTry) (more : List ThrowFrame) → without_try n (own_throws n base (t ∷ ts) ++ more) ≡ own_throws n base ts ++ more
last_gone n base t ts more =
    let yes : (n == n) ≡ true = grind (arith, nat_tests) in
    ap (λ b. cond b (own_throws n base ts ++ more) (throw_frame n base t ∷ (own_throws n base ts ++ more))) yes

-- ---- the parts of the invariant, when there is more

same_cell : (o : Option (CellOf FunCell)) → option_and_then function_in o ≡ option_and_then fun_of o
same_cell None = refl
same_cell (Some (Text t)) = refl
same_cell (Some (Array vs)) = refl
same_cell (Some (Dict ps)) = refl
same_cell (Some (Fun x)) = refl

same_function : (h : HeapOf FunCell) (n : ℕ) → function_at h n ≡ fun_at h n
same_function h n = same_cell (slice_get h n)

pub function_kept : (h h1 : HeapOf FunCell) → Keeps h h1 → (o : Option ℕ) (numbers : List ℕ) → Function h o numbers → Function h1 o numbers
function_kept h h1 k None numbers f = f
function_kept h h1 k (Some c) numbers f = (f.0, same_function h1 c ∙ k.funs c f.0 (sym (same_function h c) ∙ f.1), f.2)

abbrev pub seat_kept : {code : List Slot} {Y : Shapes} (h h1 : HeapOf FunCell) → Keeps h h1 → (n m k height : ℕ) (f : Frame) → n ≤ m → Seat code Y h n k height f → Seat code Y h1 m k height f
seat_kept h h1 keep n m k height f le t = record {
  shape = t.shape;
  captures = t.captures;
  is = t.is;
  body = t.body;
  level = t.level;
  above = t.above;
  before = t.before;
  tried = t.tried;
  numbers = t.numbers;
  function = function_kept h h1 keep f.function t.numbers t.function;
  captured = t.captured;
  below = below_more n m t.numbers le t.below;
}

pub lower_kept : (code : List Slot) (Y : Shapes) (h h1 : HeapOf FunCell) → Keeps h h1 → (n m height : ℕ) (fs : List Frame) → n ≤ m → Lower code Y h n height fs → Lower code Y h1 m height fs
lower_kept code Y h h1 keep n m height [] le l = tt
lower_kept code Y h h1 keep n m height (f ∷ fs) le l = (seat_kept h h1 keep n m 1 height f le l.0, lower_kept code Y h h1 keep n m f.base fs le l.1)

pub fit_more : {code : List Slot} {Y : Shapes} (n m : ℕ) (c : FunCell) → n ≤ m → CellFits code Y n c → CellFits code Y m c
fit_more n m c le t = record { params = t.params; takes = t.takes; shape = t.shape; body = t.body; below = below_more n m c.captured le t.below }

pub cells_more : (code : List Slot) (Y : Shapes) (h : HeapOf FunCell) (n m : ℕ) → n ≤ m → CellsFit code Y n h → CellsFit code Y m h
cells_more code Y [] n m le a = tt
cells_more code Y (Text t ∷ h) n m le a = (tt, cells_more code Y h n m le a.1)
cells_more code Y (Array vs ∷ h) n m le a = (tt, cells_more code Y h n m le a.1)
cells_more code Y (Dict ps ∷ h) n m le a = (tt, cells_more code Y h n m le a.1)
cells_more code Y (Fun c ∷ h) n m le a = (fit_more n m c le a.0, cells_more code Y h n m le a.1)

pub cell_get : {code : List Slot} {Y : Shapes} (h : HeapOf FunCell) (n i : ℕ) (c : FunCell) → CellsFit code Y n h → function_at h i ≡ Some c → CellFits code Y n c
cell_get [] n i c a e = absurd cc
cell_get (Text t ∷ h) n zero c a e = absurd cc
cell_get (Array vs ∷ h) n zero c a e = absurd cc
cell_get (Dict ps ∷ h) n zero c a e = absurd cc
cell_get {code} {Y} (Fun x ∷ h) n zero c a e = let same : x ≡ c = cc in subst (CellFits code Y n) same a.0
cell_get (Text t ∷ h) n (suc i) c a e = cell_get h n i c a.1 e
cell_get (Array vs ∷ h) n (suc i) c a e = cell_get h n i c a.1 e
cell_get (Dict ps ∷ h) n (suc i) c a e = cell_get h n i c a.1 e
cell_get (Fun x ∷ h) n (suc i) c a e = cell_get h n i c a.1 e

pub numbers_are : (h : HeapOf FunCell) (o : Option ℕ) (numbers : List ℕ) → Function h o numbers → captured_in (option_and_then (function_at h) o) ≡ numbers
numbers_are h None numbers f = sym f
numbers_are h (Some c) numbers f = ap captured_in f.1 ∙ f.2

-- another heap that keeps functions, and other units: the invariant holds there, and as much is left to do

abbrev pub steady_heap : (code : List Slot) (Y : Shapes) (k : ℕ) (s : State) (f : Frame) (fs : List Frame) (h : HeapOf FunCell) (units : ℕ) (t : Steady code Y k s f fs) → Keeps s.heap h → CellsFit code Y t.count h → Steady code Y k (with_heap h units s) f fs
steady_heap code Y k s f fs h units t keep fit = record {
  frames = t.frames;
  count = t.count;
  counted = t.counted;
  seat = seat_kept s.heap h keep t.count t.count k (length s.stack) f (omega arith) t.seat;
  lower = lower_kept code Y s.heap h keep t.count t.count f.base fs (omega arith) t.lower;
  throws = t.throws;
  opened = t.opened;
  cells = fit;
}

-- what goes from there goes from here
pub goes_before : (code : List Slot) (Y : Shapes) (s s' : State) (h : HeapOf FunCell) (units : ℕ) → Goes code Y (with_heap h units s) s' → Goes code Y s s'
goes_before code Y s s' h units g = record { sits = g.sits; paid = g.paid }
