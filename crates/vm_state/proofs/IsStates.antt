-- A state that stands passes the tests of a state.
use Rattle.std.proofs.Common.{◌≡◌, ℕ, zero, suc, ◌-◌, ◌*◌, ◌<◌, ◌≤◌, List, [], ◌∷◌, ◌++◌, length, reverse, append_assoc, Option, Some, None, Bool, true, false, refl, sym, ap, ◌∙◌, subst, arith}
use Rattle.std.specs.Prelude.{◌&&◌, not, ◌==◌, nat_lt, nat_eq, unwrap_or, is_some}
use Rattle.std.specs.List.{AllByRecursion, list_any}
use Rattle.std.proofs.lemmas.Bool.{le-leb, lt-ltb, eq-eqb, ne_eqb, eqb-true, and_from, or_from}
use Rattle.std.proofs.lemmas.List.{reverse-append, length-reverse}
use Rattle.hog_value.specs.declared.cell.FunCell.{FunCell}
use Rattle.hog_value.specs.declared.value.Value.TheVariants.{Null, Bool as Truth, Int, Ref}
use Rattle.hog_value.specs.Values.{Val, NamesBelow}
use Rattle.hog_value.specs.Meters.{max_turns, max_units, max_depth}
use Rattle.hog_value.specs.Cells.{CellOf, Text, Array, Dict, Fun, HeapOf}
use Rattle.hog_meaning.specs.Meaning.{most_requests}
use Rattle.hog_meaning.specs.World.{Fixed}
use Rattle.vm_course.specs.State.{Upvalue, Opened, Closed, Frame, ThrowFrame, State}
use Rattle.vm_course.specs.Stack.{keep}
use Rattle.vm_course.specs.Run.{RunState}
use Rattle.vm_course.specs.States.{requests_in, names, cell_stands, is_function, later_frames, frames_stand, base_at, reaches, lands, throws_stand, upvalues_stand, globals_stand, counts_stand, values_stand, is_state}
use Rattle.vm_state.proofs.Alls.{all_back, all_last, all_tested}
use Rattle.vm_state.proofs.HeapsStand.{CellStands}
use Rattle.vm_state.proofs.FramesStand.{IsFunction, Choice, Own, Below, Calls, CallsStand, calls_base}
use Rattle.vm_state.proofs.FramesStand as frames
use Rattle.vm_state.proofs.UpvaluesStand.{UpvalueStands, NotAt, Apart}
use Rattle.vm_state.proofs.StatesStand.{StateStands, length-keep}

infixl 35 ◌&◌
◌&◌ : {a b : Bool} → a ≡ true → b ≡ true → (a && b) ≡ true
e & f = and_from _ _ e f

-- values, cells and upvalues

value_passes : (n : ℕ) (v : Val) → NamesBelow n v → names n v ≡ true
value_passes n Null h = refl
value_passes n (Truth b) h = refl
value_passes n (Int z) h = refl
value_passes n (Ref r) h = lt-ltb r n h

cell_passes : (n u : ℕ) (c : CellOf FunCell) → CellStands n u c → cell_stands n u c ≡ true
cell_passes n u (Text t) h = refl
cell_passes n u (Array vs) h = all_tested (NamesBelow n) (names n) (value_passes n) vs h
cell_passes n u (Dict ps) h = all_tested (λ p. NamesBelow n p.1) (λ p. names n p.1) (λ p k. value_passes n p.1 k) ps h.0
cell_passes n u (Fun f) h = all_tested (λ k. k < u) (λ k. nat_lt k u) (λ k lt. lt-ltb k u lt) f.captured h

-- the places before are not those of these upvalues
abbrev Fresh : List ℕ → List Upvalue → Type 0
Fresh taken us = AllByRecursion (λ q. AllByRecursion (NotAt q) us) taken

other_place : (p : ℕ) (us : List Upvalue) (taken : List ℕ) → Fresh taken (Opened p ∷ us) → list_any (nat_eq p) taken ≡ false
other_place p us [] h = refl
other_place p us (q ∷ taken) h = or_from (nat_eq p q) _ (ne_eqb p q (λ e. h.0.0 (sym e))) (other_place p us taken h.1)

less_fresh : (u : Upvalue) (us : List Upvalue) (taken : List ℕ) → Fresh taken (u ∷ us) → Fresh taken us
less_fresh u us [] h = tt
less_fresh u us (q ∷ taken) h = (h.0.1, less_fresh u us taken h.1)

upvalues_pass : (cells height : ℕ) (taken : List ℕ) (us : List Upvalue) → Fresh taken us → AllByRecursion (UpvalueStands cells height) us → Apart us → upvalues_stand cells height taken us ≡ true
upvalues_pass cells height taken [] fresh each apart = refl
upvalues_pass cells height taken (Closed v ∷ us) fresh each apart =
    value_passes cells v each.0 & upvalues_pass cells height taken us (less_fresh (Closed v) us taken fresh) each.1 apart
upvalues_pass cells height taken (Opened p ∷ us) fresh each apart =
    (lt-ltb p height each.0 & ap not (other_place p us taken fresh))
    & upvalues_pass cells height (taken ++ p ∷ []) us (all_last (λ q. AllByRecursion (NotAt q) us) taken p (less_fresh (Opened p) us taken fresh) apart.0) each.1 apart.1

-- frames from the program's on

abbrev Later : HeapOf FunCell → ℕ → ℕ → List Frame → Type 0
Later h height low [] = Unit {0}
Later h height low (f ∷ fs) = IsFunction h f.function × (low ≤ f.base) × (f.base ≤ height) × Later h height f.base fs

abbrev pub last_base : ℕ → List Frame → ℕ
last_base low [] = low
last_base low (f ∷ fs) = last_base f.base fs

later_last : (h : HeapOf FunCell) (height low : ℕ) (fs : List Frame) (f : Frame) → Later h height low fs → IsFunction h f.function → last_base low fs ≤ f.base → f.base ≤ height → Later h height low (fs ++ f ∷ [])
later_last h height low [] f l is le up = (is, le, up, tt)
later_last h height low (g ∷ gs) f l is le up = (l.0, l.1, l.2, later_last h height g.base gs f l.3 is le up)

pub base_last : (low : ℕ) (fs : List Frame) (f : Frame) → last_base low (fs ++ f ∷ []) ≡ f.base
base_last low [] f = refl
base_last low (g ∷ gs) f = base_last g.base gs f

function_passes : (h : HeapOf FunCell) (function : Option ℕ) → IsFunction h function → is_function h function ≡ true
function_passes h None is = absurd is
function_passes h (Some n) is = is

later_pass : (h : HeapOf FunCell) (height low : ℕ) (fs : List Frame) → Later h height low fs → later_frames h height low fs ≡ true
later_pass h height low [] l = refl
later_pass h height low (f ∷ fs) l =
    (function_passes h f.function l.0 & le-leb low f.base l.1 & le-leb f.base height l.2) & later_pass h height f.base fs l.3

pub back_more : {A : Type 0} (x : A) (xs : List A) → reverse (x ∷ xs) ≡ reverse xs ++ x ∷ []
back_more x xs = reverse-append (x ∷ []) xs

-- the frames that were around the last, from the program's on
record FromFirst (h : HeapOf FunCell) (height : ℕ) (f : Frame) (fs : List Frame) : Type 0 where
  first : Frame
  others : List Frame
  is : reverse (f ∷ fs) ≡ first ∷ others
  function : first.function ≡ None
  base : first.base ≡ 0
  later : Later h height 0 others
  last : last_base 0 others ≡ f.base

record UnderCall (h : HeapOf FunCell) (f g : Frame) (gs : List Frame) (height : ℕ) : Type 0 where
  is : IsFunction h f.function
  within : f.base ≤ height
  ts : List ThrowFrame
  calls : Calls h g.base g.function gs f.base ts

under_call : (h : HeapOf FunCell) (f g : Frame) (gs : List Frame) (height : ℕ) (ts : List ThrowFrame) → Calls h f.base f.function (g ∷ gs) height ts → UnderCall h f g gs height
under_call h f g gs height [] c = record { is = c.0; within = c.1; ts = []; calls = c.2 }
under_call h f g gs height (t ∷ ts) c = go (under_call h f g gs t.height ts) (t.frames == suc (suc (length gs))) c
  where
    go : (Calls h f.base f.function (g ∷ gs) t.height ts → UnderCall h f g gs t.height) → (b : Bool) → Choice b ((t.height ≤ height) × Calls h f.base f.function (g ∷ gs) t.height ts) (Below h f.base f.function (g ∷ gs) height (t ∷ ts)) → UnderCall h f g gs height
    go rest true c =
        let r = rest c.1 in
        let le = c.0 in
        let within = r.within in
        record { is = r.is; within = omega (arith, le, within); ts = r.ts; calls = r.calls }
    go rest false c = record { is = c.0; within = c.1; ts = t ∷ ts; calls = c.2 }

program_is : (h : HeapOf FunCell) (f : Frame) (height : ℕ) (ts : List ThrowFrame) → Calls h f.base f.function [] height ts → (f.base ≡ 0) × (f.function ≡ None)
program_is h f height [] c = (c.0, c.1)
program_is h f height (t ∷ ts) c = go (program_is h f t.height ts) (t.frames == 1) c
  where
    go : (Calls h f.base f.function [] t.height ts → (f.base ≡ 0) × (f.function ≡ None)) → (b : Bool) → Choice b ((t.height ≤ height) × Calls h f.base f.function [] t.height ts) (Below h f.base f.function [] height (t ∷ ts)) → (f.base ≡ 0) × (f.function ≡ None)
    go rest true c = rest c.1
    go rest false c = (c.0, c.1)

from_first : (h : HeapOf FunCell) (top : ℕ) (f : Frame) (fs : List Frame) (height : ℕ) (ts : List ThrowFrame) → height ≤ top → Calls h f.base f.function fs height ts → FromFirst h top f fs
from_first h top f [] height ts le c =
    let p = program_is h f height ts c in
    record { first = f; others = []; is = refl; function = p.1; base = p.0; later = tt; last = sym p.0 }
from_first h top f (g ∷ gs) height ts le c =
    let u = under_call h f g gs height ts c in
    let within = u.within in
    let r = from_first h top g gs f.base u.ts (omega (arith, within, le)) u.calls in
    let low = calls_base h g.base g.function gs f.base u.ts u.calls in
    let last = r.last in
    record {
      first = r.first;
      others = r.others ++ f ∷ [];
      is = back_more f (g ∷ gs) ∙ ap (λ xs. xs ++ f ∷ []) r.is;
      function = r.function;
      base = r.base;
      later = later_last h top 0 r.others f r.later u.is (omega (arith, low, last)) (omega (arith, within, le));
      last = base_last 0 r.others f;
    }

frames_pass : (h : HeapOf FunCell) (f : Frame) (fs : List Frame) (height : ℕ) (ts : List ThrowFrame) → length fs ≤ max_depth → Calls h f.base f.function fs height ts → frames_stand h height (reverse (f ∷ fs)) ≡ true
frames_pass h f fs height ts deep c =
    let r = from_first h height f fs height ts (omega arith) c in
    let others = r.others in
    let long : suc (length others) ≡ suc (length fs) = sym (ap length r.is) ∙ length-reverse (f ∷ fs) in
    ap (frames_stand h height) r.is
    ∙ (ap (λ o. not (is_some o)) r.function & eq-eqb r.first.base 0 r.base & le-leb (length others) max_depth (omega (arith, long, deep)) & later_pass h height 0 others r.later)

-- throw frames

abbrev limit_over : List Frame → ℕ → ℕ
limit_over above top = unwrap_or (base_at above 0) top

pub record LandsIn (whole : List Frame) (top : ℕ) (t : ThrowFrame) : Type 0 where
  pub some : 1 ≤ t.frames
  pub base : ℕ
  pub at : base_at whole (t.frames - 1) ≡ Some base
  pub reached : base ≤ t.height
  pub within : t.height ≤ unwrap_or (base_at whole t.frames) top

pub at_middle : (xs : List Frame) (f : Frame) (above : List Frame) (n : ℕ) → n ≡ length xs → base_at (xs ++ f ∷ above) n ≡ Some f.base
at_middle [] f above zero e = refl
at_middle [] f above (suc n) e = absurd (omega (arith, e))
at_middle (x ∷ xs) f above zero e = absurd (omega (arith, e))
at_middle (x ∷ xs) f above (suc n) e = at_middle xs f above n (omega (arith, e))

at_above : (xs : List Frame) (f : Frame) (above : List Frame) (n : ℕ) → n ≡ suc (length xs) → base_at (xs ++ f ∷ above) n ≡ base_at above 0
at_above [] f above zero e = absurd (omega (arith, e))
at_above [] f above (suc zero) e = refl
at_above [] f above (suc (suc n)) e = absurd (omega (arith, e))
at_above (x ∷ xs) f above zero e = absurd (omega (arith, e))
at_above (x ∷ xs) f above (suc n) e = at_above xs f above n (omega (arith, e))

-- those of one frame, from those of the frames around
module _ (h : HeapOf FunCell) (top : ℕ) (whole : List Frame) (f : Frame) (fs above : List Frame) (is : whole ≡ reverse fs ++ f ∷ above) where
  one_lands : (t : ThrowFrame) → t.frames ≡ suc (length fs) → f.base ≤ t.height → t.height ≤ limit_over above top → LandsIn whole top t
  one_lands t e low le =
      let long = length-reverse fs in
      let over : base_at whole t.frames ≡ base_at above 0 = ap (λ ks. base_at ks t.frames) is ∙ at_above (reverse fs) f above t.frames (omega (arith, e, long)) in
      record {
        some = omega (arith, e);
        base = f.base;
        at = ap (λ ks. base_at ks (t.frames - 1)) is ∙ at_middle (reverse fs) f above (t.frames - 1) (omega (arith, e, long));
        reached = low;
        within = subst (λ o. t.height ≤ unwrap_or o top) (sym over) le;
      }

  own_land : (height : ℕ) (ts : List ThrowFrame) → height ≤ limit_over above top → ((k : ℕ) (us : List ThrowFrame) → Below h f.base f.function fs k us → AllByRecursion (LandsIn whole top) us) → Calls h f.base f.function fs height ts
      → AllByRecursion (LandsIn whole top) ts
  own_land height [] le under c = tt
  own_land height (t ∷ ts) le under c = go (own_land t.height ts) (t.frames == suc (length fs)) refl c
    where
      go : (t.height ≤ limit_over above top → ((k : ℕ) (us : List ThrowFrame) → Below h f.base f.function fs k us → AllByRecursion (LandsIn whole top) us) → Calls h f.base f.function fs t.height ts → AllByRecursion (LandsIn whole top) ts)
          → (b : Bool) → (t.frames == suc (length fs)) ≡ b → Choice b ((t.height ≤ height) × Calls h f.base f.function fs t.height ts) (Below h f.base f.function fs height (t ∷ ts)) → AllByRecursion (LandsIn whole top) (t ∷ ts)
      go rest true e c =
          let lower = c.0 in
          let within : t.height ≤ limit_over above top = omega (arith, lower, le) in
          (one_lands t (eqb-true t.frames (suc (length fs)) e) (calls_base h f.base f.function fs t.height ts c.1) within, rest within under c.1)
      go rest false e c = under height (t ∷ ts) c

all_land : (h : HeapOf FunCell) (top : ℕ) (whole : List Frame) (f : Frame) (fs above : List Frame) (height : ℕ) (ts : List ThrowFrame) → whole ≡ reverse fs ++ f ∷ above → height ≤ limit_over above top → Calls h f.base f.function fs height ts
    → AllByRecursion (LandsIn whole top) ts
all_land h top whole f [] above height ts is le c = own_land h top whole f [] above is height ts le (λ k us b. subst (AllByRecursion (LandsIn whole top)) (sym b.2) tt) c
all_land h top whole f (g ∷ gs) above height ts is le c =
    let around : whole ≡ reverse gs ++ g ∷ f ∷ above = is ∙ ap (λ xs. xs ++ f ∷ above) (back_more g gs) ∙ append_assoc (reverse gs) (g ∷ []) (f ∷ above) in
    own_land h top whole f (g ∷ gs) above is height ts le (λ k us b. all_land h top whole g gs (f ∷ above) f.base us around (omega arith) b.2) c

-- each is not below the one before it

abbrev pub Falling : ℕ → ℕ → List ThrowFrame → Type 0
Falling most highest [] = Unit {0}
Falling most highest (t ∷ ts) = (t.frames ≤ most) × (t.height ≤ highest) × Falling t.frames t.height ts

abbrev Rising : ℕ → ℕ → List ThrowFrame → Type 0
Rising fewest lowest [] = Unit {0}
Rising fewest lowest (t ∷ ts) = (fewest ≤ t.frames) × (lowest ≤ t.height) × Rising t.frames t.height ts

falls : (h : HeapOf FunCell) (fs : List Frame) (height : ℕ) (ts : List ThrowFrame) → CallsStand h fs height ts → Falling (length fs) height ts
falls h fs height [] c = tt
falls h fs height (t ∷ ts) c =
    let l = frames.lands h t ts fs height c in
    let n = length-keep t.frames fs l.framed in
    (l.framed, l.within, subst (λ k. Falling k t.height ts) n (falls h (keep t.frames fs) t.height ts l.calls))

abbrev pub last_frames : ℕ → List ThrowFrame → ℕ
last_frames n [] = n
last_frames n (t ∷ ts) = last_frames t.frames ts

abbrev pub last_height : ℕ → List ThrowFrame → ℕ
last_height n [] = n
last_height n (t ∷ ts) = last_height t.height ts

rises_more : (fewest lowest : ℕ) (ts : List ThrowFrame) (t : ThrowFrame) → Rising fewest lowest ts → last_frames fewest ts ≤ t.frames → last_height lowest ts ≤ t.height → Rising fewest lowest (ts ++ t ∷ [])
rises_more fewest lowest [] t r a b = (a, b, tt)
rises_more fewest lowest (u ∷ us) t r a b = (r.0, r.1, rises_more u.frames u.height us t r.2 a b)

pub frames_last : (n : ℕ) (ts : List ThrowFrame) (t : ThrowFrame) → last_frames n (ts ++ t ∷ []) ≡ t.frames
frames_last n [] t = refl
frames_last n (u ∷ us) t = frames_last u.frames us t

pub height_last : (n : ℕ) (ts : List ThrowFrame) (t : ThrowFrame) → last_height n (ts ++ t ∷ []) ≡ t.height
height_last n [] t = refl
height_last n (u ∷ us) t = height_last u.height us t

-- turned round, they rise, and the last is not above what they fell from
record Risen (most highest : ℕ) (ts : List ThrowFrame) : Type 0 where
  rising : Rising 0 0 (reverse ts)
  framed : last_frames 0 (reverse ts) ≤ most
  within : last_height 0 (reverse ts) ≤ highest

risen : (most highest : ℕ) (ts : List ThrowFrame) → Falling most highest ts → Risen most highest ts
risen most highest [] f = record { rising = tt; framed = omega arith; within = omega arith }
risen most highest (t ∷ ts) f =
    let r = risen t.frames t.height ts f.2 in
    let a = f.0 in
    let b = f.1 in
    let is = back_more t ts in
    let n = ap (last_frames 0) is ∙ frames_last 0 (reverse ts) t in
    let k = ap (last_height 0) is ∙ height_last 0 (reverse ts) t in
    record {
      rising = subst (Rising 0 0) (sym is) (rises_more 0 0 (reverse ts) t r.rising r.framed r.within);
      framed = omega (arith, n, a);
      within = omega (arith, k, b);
    }

lands_passes : (whole : List Frame) (top : ℕ) (t : ThrowFrame) → LandsIn whole top t → lands whole top t ≡ true
lands_passes whole top t l =
    le-leb 1 t.frames l.some & (ap (reaches t.height) l.at ∙ le-leb l.base t.height l.reached) & le-leb t.height _ l.within

throws_pass : (whole : List Frame) (top fewest lowest : ℕ) (ts : List ThrowFrame) → AllByRecursion (LandsIn whole top) ts → Rising fewest lowest ts → throws_stand whole top fewest lowest ts ≡ true
throws_pass whole top fewest lowest [] l r = refl
throws_pass whole top fewest lowest (t ∷ ts) l r =
    (lands_passes whole top t l.0 & le-leb fewest t.frames r.0 & le-leb lowest t.height r.1) & throws_pass whole top t.frames t.height ts l.1 r.2

-- the whole

calls_pass : (h : HeapOf FunCell) (fs : List Frame) (height : ℕ) (ts : List ThrowFrame) → length fs ≤ suc max_depth → CallsStand h fs height ts
    → (frames_stand h height (reverse fs) && throws_stand (reverse fs) height 0 0 (reverse ts)) ≡ true
calls_pass h [] height ts deep c = absurd c
calls_pass h (f ∷ fs) height ts deep c =
    let landing = all_land h height (reverse (f ∷ fs)) f fs [] height ts (back_more f fs) (omega arith) c in
    frames_pass h f fs height ts (omega (arith, deep)) c
    & throws_pass (reverse (f ∷ fs)) height 0 0 (reverse ts) (all_back (LandsIn (reverse (f ∷ fs)) height) ts landing) (risen (length (f ∷ fs)) height ts (falls h (f ∷ fs) height ts c)).rising

pub is_a_state : (fixed : Fixed) (m : RunState) → StateStands fixed m.state → m.globals ≡ Some fixed.globals → is_state m ≡ true
unfolding is_state
is_a_state fixed m st globals =
    let s : State = m.state in
    let counts : counts_stand s ≡ true =
    le-leb s.turns max_turns st.turns & le-leb s.units max_units st.heap.within & le-leb (8 * length s.heap) s.units st.heap.covered & le-leb (requests_in s.trace) most_requests st.asked in
    let values : values_stand s ≡ true =
    all_tested (NamesBelow (length s.heap)) (names (length s.heap)) (value_passes (length s.heap)) (reverse s.stack) (all_back (NamesBelow (length s.heap)) s.stack st.stack)
    & all_tested (CellStands (length s.heap) (length s.upvalues)) (cell_stands (length s.heap) (length s.upvalues)) (cell_passes (length s.heap) (length s.upvalues)) s.heap st.heap.cells
    & upvalues_pass (length s.heap) (length s.stack) [] s.upvalues tt st.upvalues.each st.upvalues.apart in
    counts & calls_pass s.heap s.frames (length s.stack) s.throws st.deep st.calls & values & (ap (globals_stand s.heap s.mode) globals ∙ st.globals) & st.waits
