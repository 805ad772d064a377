-- A machine of a code stands: what passes the tests of a state is what every state of a run is.
use Rattle.std.proofs.Common.{◌≡◌, ℕ, zero, suc, ◌-◌, ◌*◌, ◌<◌, ◌≤◌, List, [], ◌∷◌, ◌++◌, length, length-append, reverse, Option, Some, None, Bool, true, false, refl, sym, ap, ◌∙◌, subst, arith}
use Rattle.std.specs.Prelude.{not, ◌==◌, nat_lt, nat_eq, unwrap_or, is_some}
use Rattle.std.specs.List.{AllByRecursion, list_all, list_any}
use Rattle.std.proofs.lemmas.Bool.{leb-true, ltb-true, le-leb, eqb-true, and_from}
use Rattle.std.proofs.lemmas.Bool.Decides.{nat_tests}
use Rattle.std.proofs.lemmas.List.{length-reverse}
use Rattle.hog_value.specs.declared.cell.FunCell.{FunCell}
use Rattle.hog_value.specs.Values.{NamesBelow}
use Rattle.hog_value.specs.Meters.{max_turns, max_units, max_depth}
use Rattle.hog_value.specs.Cells.{CellOf, Text, Array, Dict, Fun, HeapOf, pairs_at}
use Rattle.hog_ops.specs.Plain.{Ops}
use Rattle.state_forms.specs.Values.{CellFits}
use Rattle.vm_course.specs.State.{Upvalue, Opened, Closed, Frame, ThrowFrame, State}
use Rattle.vm_course.specs.Course.{literals_of_code}
use Rattle.vm_course.specs.Run.{RunState}
use Rattle.vm_course.specs.Belongs.{begins_with, literals_belong, belongs}
use Rattle.vm_course.specs.States.{names, cell_stands, is_function, frame_stands, later_frames, frames_stand, base_at, reaches, lands, throw_stands, throws_stand, upvalues_stand, globals_stand, is_state}
use Rattle.vm_state.specs.Laws.{IsMachineOf}
use Rattle.vm_state.proofs.Alls.{all_back, all_if}
use Rattle.vm_operations.proofs.Passing.{both, all_from, list_all-reverse, names_below}
use Rattle.vm_state.proofs.Facts.{at_end, before_end, other}
use Rattle.vm_state.proofs.HeapsStand.{CellStands}
use Rattle.vm_state.proofs.FramesStand.{IsFunction, Choice, Below, Calls, CallsStand}
use Rattle.vm_state.proofs.UpvaluesStand.{UpvalueStands, NotAt, Apart}
use Rattle.vm_state.proofs.StatesStand.{StateStands}
use Rattle.vm_state.proofs.IsStates.{back_more, last_base, base_last, LandsIn, at_middle, last_frames, last_height, frames_last, height_last, Falling}

-- cells

cell_stand : (n u : ℕ) (c : CellOf FunCell) → cell_stands n u c ≡ true → CellFits c → CellStands n u c
cell_stand n u (Text t) e k = tt
cell_stand n u (Array vs) e k = all_from (names n) (NamesBelow n) (names_below n) vs e
cell_stand n u (Dict ps) e k = (all_from (λ p. names n p.1) (λ p. NamesBelow n p.1) (λ p h. names_below n p.1 h) ps e, k.1)
cell_stand n u (Fun f) e k = all_from (λ i. nat_lt i u) (λ i. i < u) (λ i h. ltb-true i u h) f.captured e

cells_stand : (n u : ℕ) (h : HeapOf FunCell) → list_all (cell_stands n u) h ≡ true → AllByRecursion CellFits h → AllByRecursion (CellStands n u) h
cells_stand n u [] e k = tt
cells_stand n u (c ∷ h) e k = let b = both _ _ e in (cell_stand n u c b.0 k.0, cells_stand n u h b.1 k.1)

-- upvalues, behind those whose places are taken

record StandBehind (cells height : ℕ) (taken : List ℕ) (us : List Upvalue) : Type 0 where
  each : AllByRecursion (UpvalueStands cells height) us
  apart : Apart us
  fresh : (q : ℕ) → list_any (nat_eq q) taken ≡ true → AllByRecursion (NotAt q) us

stand_behind : (cells height : ℕ) (taken : List ℕ) (us : List Upvalue) → upvalues_stand cells height taken us ≡ true → StandBehind cells height taken us
stand_behind cells height taken [] e = record { each = tt; apart = tt; fresh = λ q f. tt }
stand_behind cells height taken (Closed v ∷ us) e =
    let b = both _ _ e in
    let r = stand_behind cells height taken us b.1 in
    record { each = (names_below cells v b.0, r.each); apart = r.apart; fresh = λ q f. (tt, r.fresh q f) }
stand_behind cells height taken (Opened p ∷ us) e =
    let b = both _ _ e in
    let c = both (nat_lt p height) (not (list_any (nat_eq p) taken)) b.0 in
    let r = stand_behind cells height (taken ++ p ∷ []) us b.1 in
    record {
      each = (ltb-true p height c.0, r.each);
      apart = (r.fresh p (at_end taken p), r.apart);
      fresh = λ q f. ((λ same. other (list_any (nat_eq p) taken) c.1 (ap (λ x. list_any (nat_eq x) taken) (sym same) ∙ f)), r.fresh q (before_end taken q p f));
    }

-- frames, the innermost first

abbrev Down : HeapOf FunCell → Frame → List Frame → Type 0
Down h f [] = (f.base ≡ 0) × (f.function ≡ None)
Down h f (g ∷ gs) = IsFunction h f.function × (g.base ≤ f.base) × Down h g gs

function_is : (h : HeapOf FunCell) (function : Option ℕ) → is_function h function ≡ true → IsFunction h function
function_is h None e = absurd cc
function_is h (Some n) e = e

no_function : (function : Option ℕ) → not (is_some function) ≡ true → function ≡ None
no_function None e = refl
no_function (Some n) e = absurd cc

later_split : (h : HeapOf FunCell) (height low : ℕ) (xs : List Frame) (f : Frame) → later_frames h height low (xs ++ f ∷ []) ≡ true
    → (later_frames h height low xs ≡ true) × (frame_stands h height (last_base low xs) f ≡ true)
later_split h height low [] f e = (refl, (both _ _ e).0)
later_split h height low (x ∷ xs) f e =
    let b = both _ _ e in
    let r = later_split h height x.base xs f b.1 in
    (and_from _ _ b.0 r.0, r.1)

frames_split : (h : HeapOf FunCell) (height : ℕ) (x : Frame) (xs : List Frame) (f : Frame) → frames_stand h height (x ∷ (xs ++ f ∷ [])) ≡ true
    → (frames_stand h height (x ∷ xs) ≡ true) × (x.base ≡ 0) × (frame_stands h height (last_base 0 xs) f ≡ true)
frames_split h height x xs f e =
    let a = both _ _ e in
    let b = both _ _ a.0 in
    let c = both _ _ b.0 in
    let l = later_split h height 0 xs f a.1 in
    let long = length-append xs (f ∷ []) in
    let few = leb-true (length (xs ++ f ∷ [])) max_depth b.1 in
    (and_from _ _ (and_from _ _ b.0 (le-leb (length xs) max_depth (omega (arith, long, few)))) l.0, eqb-true x.base 0 c.1, l.1)

frames_few : (h : HeapOf FunCell) (height : ℕ) (fs : List Frame) → frames_stand h height fs ≡ true → length fs ≤ suc max_depth
frames_few h height [] e = absurd cc
frames_few h height (f ∷ fs) e =
    let a = both _ _ e in
    let b = both _ _ a.0 in
    let few = leb-true (length fs) max_depth b.1 in
    omega (arith, few)

frames_down : (h : HeapOf FunCell) (height : ℕ) (f : Frame) (fs : List Frame) → frames_stand h height (reverse (f ∷ fs)) ≡ true → Down h f fs × (f.base ≤ height)
frames_down h height f [] e =
    let a = both _ _ e in
    let b = both _ _ a.0 in
    let c = both _ _ b.0 in
    let none = eqb-true f.base 0 c.1 in
    ((none, no_function f.function c.0), omega (arith, none))
frames_down h height f (g ∷ gs) e = go (reverse (g ∷ gs)) refl (frames_down h height g gs)
  where
    go : (ys : List Frame) → reverse (g ∷ gs) ≡ ys → (frames_stand h height (reverse (g ∷ gs)) ≡ true → Down h g gs × (g.base ≤ height)) → Down h f (g ∷ gs) × (f.base ≤ height)
    go [] is rest = let none = ap length is in let long = length-reverse (g ∷ gs) in absurd (omega (arith, none, long))
    go (x ∷ xs) is rest =
        let whole : reverse (f ∷ g ∷ gs) ≡ x ∷ (xs ++ f ∷ []) = back_more f (g ∷ gs) ∙ ap (λ ys. ys ++ f ∷ []) is in
        let s = frames_split h height x xs f (sym (ap (frames_stand h height) whole) ∙ e) in
        let under = rest (ap (frames_stand h height) is ∙ s.0) in
        let last : last_base x.base xs ≡ g.base = sym (ap (last_base 0) is) ∙ ap (last_base 0) (back_more g gs) ∙ base_last 0 (reverse gs) g in
        let low : last_base 0 xs ≡ g.base = sym (ap (λ n. last_base n xs) s.1) ∙ last in
        let a = both _ _ s.2 in
        let b = both _ _ a.0 in
        let over = leb-true (last_base 0 xs) f.base b.1 in
        ((function_is h f.function b.0, omega (arith, low, over), under.0), leb-true f.base height a.1)

bases_below : (h : HeapOf FunCell) (f : Frame) (fs : List Frame) (top : ℕ) → Down h f fs → f.base ≤ top → AllByRecursion (λ (g : Frame). g.base ≤ top) (f ∷ fs)
bases_below h f [] top d le = (le, tt)
bases_below h f (g ∷ gs) top d le = let low = d.1 in (le, bases_below h g gs top d.2 (omega (arith, low, le)))

base_within : (fs : List Frame) (n top : ℕ) → AllByRecursion (λ (g : Frame). g.base ≤ top) fs → unwrap_or (base_at fs n) top ≤ top
base_within [] n top all = omega arith
base_within (f ∷ fs) zero top all = all.0
base_within (f ∷ fs) (suc n) top all = base_within fs n top all.1

base_there : (fs : List Frame) (n base : ℕ) → base_at fs n ≡ Some base → n < length fs
base_there [] n base e = absurd cc
base_there (f ∷ fs) zero base e = omega arith
base_there (f ∷ fs) (suc n) base e = let lt = base_there fs n base e in omega (arith, lt)

base_before : (xs : List Frame) (f : Frame) (n : ℕ) → n < length xs → base_at (xs ++ f ∷ []) n ≡ base_at xs n
base_before [] f n lt = absurd (omega (arith, lt))
base_before (x ∷ xs) f zero lt = refl
base_before (x ∷ xs) f (suc n) lt = base_before xs f n (omega (arith, lt))

base_seam : (xs : List Frame) (f : Frame) (n top : ℕ) → n ≤ length xs → unwrap_or (base_at (xs ++ f ∷ []) n) top ≡ unwrap_or (base_at xs n) f.base
base_seam [] f zero top le = refl
base_seam [] f (suc n) top le = absurd (omega (arith, le))
base_seam (x ∷ xs) f zero top le = refl
base_seam (x ∷ xs) f (suc n) top le = base_seam xs f n top (omega (arith, le))

-- throw frames, the last first

fewer : (a b : ℕ) → a ≤ suc b → (a == suc b) ≡ false → a ≤ b
fewer a b le e = grind (arith, nat_tests)

throws_split : (whole : List Frame) (top fewest lowest : ℕ) (us : List ThrowFrame) (t : ThrowFrame) → throws_stand whole top fewest lowest (us ++ t ∷ []) ≡ true
    → (throws_stand whole top fewest lowest us ≡ true) × (throw_stands whole top (last_frames fewest us) (last_height lowest us) t ≡ true)
throws_split whole top fewest lowest [] t e = (refl, (both _ _ e).0)
throws_split whole top fewest lowest (u ∷ us) t e =
    let b = both _ _ e in
    let r = throws_split whole top u.frames u.height us t b.1 in
    (and_from _ _ b.0 r.0, r.1)

lands_in : (whole : List Frame) (top : ℕ) (t : ThrowFrame) → lands whole top t ≡ true → LandsIn whole top t
lands_in whole top t e = go (base_at whole (t.frames - 1)) refl (both _ _ (both _ _ e).0).1
  where
    go : (o : Option ℕ) → base_at whole (t.frames - 1) ≡ o → reaches t.height o ≡ true → LandsIn whole top t
    go None is r = absurd cc
    go (Some base) is r = record {
      some = leb-true 1 t.frames (both _ _ (both _ _ e).0).0;
      base = base;
      at = is;
      reached = leb-true base t.height r;
      within = leb-true _ _ (both _ _ e).1;
    }

throws_fall : (whole : List Frame) (top most highest : ℕ) (ts : List ThrowFrame) → throws_stand whole top 0 0 (reverse ts) ≡ true → last_frames 0 (reverse ts) ≤ most → last_height 0 (reverse ts) ≤ highest
    → AllByRecursion (LandsIn whole top) ts × Falling most highest ts
throws_fall whole top most highest [] e m k = (tt, tt)
throws_fall whole top most highest (t ∷ ts) e m k =
    let is = back_more t ts in
    let s = throws_split whole top 0 0 (reverse ts) t (sym (ap (throws_stand whole top 0 0) is) ∙ e) in
    let a = both _ _ s.1 in
    let b = both _ _ a.0 in
    let r = throws_fall whole top t.frames t.height ts s.0 (leb-true _ _ b.1) (leb-true _ _ a.1) in
    let frames = ap (last_frames 0) is ∙ frames_last 0 (reverse ts) t in
    let height = ap (last_height 0) is ∙ height_last 0 (reverse ts) t in
    ((lands_in whole top t b.0, r.0), (omega (arith, frames, m), omega (arith, height, k), r.1))

-- a throw frame that lands has its frame, and stands no higher than the stack
landing_within : (fs : List Frame) (top : ℕ) (t : ThrowFrame) → AllByRecursion (λ (g : Frame). g.base ≤ top) fs → LandsIn (reverse fs) top t → (t.frames ≤ length fs) × (t.height ≤ top)
landing_within fs top t all l =
    let there = base_there (reverse fs) (t.frames - 1) l.base l.at in
    let long = length-reverse fs in
    let some = l.some in
    let within = l.within in
    let below = base_within (reverse fs) t.frames top (all_back (λ (g : Frame). g.base ≤ top) fs all) in
    (omega (arith, there, long, some), omega (arith, within, below))

falling_from : (fs : List Frame) (top most highest : ℕ) (ts : List ThrowFrame) → AllByRecursion (λ (g : Frame). g.base ≤ top) fs → AllByRecursion (LandsIn (reverse fs) top) ts → Falling most highest ts → Falling (length fs) top ts
falling_from fs top most highest [] all land fall = tt
falling_from fs top most highest (t ∷ ts) all land fall = let w = landing_within fs top t all land.0 in (w.0, w.1, fall.2)

all_few : (most highest : ℕ) (ts : List ThrowFrame) → Falling most highest ts → AllByRecursion (λ (t : ThrowFrame). t.frames ≤ most) ts
all_few most highest [] fall = tt
all_few most highest (t ∷ ts) fall =
    let le = fall.0 in
    (fall.0, all_if (λ (u : ThrowFrame). u.frames ≤ t.frames) (λ (u : ThrowFrame). u.frames ≤ most) (λ u few. omega (arith, few, le)) ts (all_few t.frames t.height ts fall.2))

-- those that land below a frame do so where it isn't there
module _ (f : Frame) (gs : List Frame) (top : ℕ) where
  land_under : (u : ThrowFrame) → u.frames ≤ length gs → LandsIn (reverse (f ∷ gs)) top u → LandsIn (reverse gs) f.base u
  land_under u few l =
      let some = l.some in
      let long = length-reverse gs in
      let is = back_more f gs in
      record {
        some = l.some;
        base = l.base;
        at = sym (ap (λ ks. base_at ks (u.frames - 1)) is ∙ base_before (reverse gs) f (u.frames - 1) (omega (arith, some, few, long))) ∙ l.at;
        reached = l.reached;
        within = subst (λ n. u.height ≤ n) (ap (λ ks. unwrap_or (base_at ks u.frames) top) is ∙ base_seam (reverse gs) f u.frames top (omega (arith, few, long))) l.within;
      }

  all_under : (us : List ThrowFrame) → AllByRecursion (λ (u : ThrowFrame). u.frames ≤ length gs) us → AllByRecursion (LandsIn (reverse (f ∷ gs)) top) us → AllByRecursion (LandsIn (reverse gs) f.base) us
  all_under [] few l = tt
  all_under (u ∷ us) few l = (land_under u few.0 l.0, all_under us few.1 l.1)

-- those of one frame, from those of the frames around
module _ (h : HeapOf FunCell) (top : ℕ) (f : Frame) (fs : List Frame) where
  abbrev Under : Type 0
  Under = (k : ℕ) (us : List ThrowFrame) → f.base ≤ k → Falling (length fs) k us → AllByRecursion (LandsIn (reverse (f ∷ fs)) top) us → Below h f.base f.function fs k us

  own_base : (t : ThrowFrame) → t.frames ≡ suc (length fs) → LandsIn (reverse (f ∷ fs)) top t → f.base ≤ t.height
  own_base t e l =
      let long = length-reverse fs in
      let here : Some f.base ≡ Some l.base = sym (ap (λ ks. base_at ks (t.frames - 1)) (back_more f fs) ∙ at_middle (reverse fs) f [] (t.frames - 1) (omega (arith, e, long))) ∙ l.at in
      let same : f.base ≡ l.base = cc in
      let reached = l.reached in
      omega (arith, same, reached)

  own_calls : (height : ℕ) (ts : List ThrowFrame) → f.base ≤ height → Falling (suc (length fs)) height ts → AllByRecursion (LandsIn (reverse (f ∷ fs)) top) ts → Under → Calls h f.base f.function fs height ts
  own_calls height [] le fall land under = under height [] le tt tt
  own_calls height (t ∷ ts) le fall land under = go (own_calls t.height ts) (t.frames == suc (length fs)) refl
    where
      go : (f.base ≤ t.height → Falling (suc (length fs)) t.height ts → AllByRecursion (LandsIn (reverse (f ∷ fs)) top) ts → Under → Calls h f.base f.function fs t.height ts)
          → (b : Bool) → (t.frames == suc (length fs)) ≡ b → Choice b ((t.height ≤ height) × Calls h f.base f.function fs t.height ts) (Below h f.base f.function fs height (t ∷ ts))
      go rest true e =
          let same = eqb-true t.frames (suc (length fs)) e in
          (fall.1, rest (own_base t same land.0) (subst (λ n. Falling n t.height ts) same fall.2) land.1 under)
      go rest false e =
          under height (t ∷ ts) le (fewer t.frames (length fs) fall.0 e, fall.1, fall.2) land

no_throws : (f : Frame) (top k : ℕ) (us : List ThrowFrame) → Falling 0 k us → AllByRecursion (LandsIn (reverse (f ∷ [])) top) us → us ≡ []
no_throws f top k [] fall land = refl
no_throws f top k (u ∷ us) fall land = let none = fall.0 in let some = land.0.some in absurd (omega (arith, none, some))

all_calls : (h : HeapOf FunCell) (f : Frame) (fs : List Frame) (top : ℕ) (ts : List ThrowFrame) → Down h f fs → f.base ≤ top → Falling (suc (length fs)) top ts → AllByRecursion (LandsIn (reverse (f ∷ fs)) top) ts
    → Calls h f.base f.function fs top ts
all_calls h f [] top ts d le fall land = own_calls h top f [] top ts le fall land (λ k us lk fl ld. (d.0, d.1, no_throws f top k us fl ld))
all_calls h f (g ∷ gs) top ts d le fall land = own_calls h top f (g ∷ gs) top ts le fall land (λ k us lk fl ld.
    let under = all_under f (g ∷ gs) top us (all_few (length (g ∷ gs)) k us fl) ld in
    (d.0, lk, all_calls h g gs f.base us d.2 d.1 (falling_from (g ∷ gs) f.base (length (g ∷ gs)) k us (bases_below h g gs f.base d.2 d.1) under fl) under))

calls_stand : (h : HeapOf FunCell) (fs : List Frame) (height : ℕ) (ts : List ThrowFrame) → frames_stand h height (reverse fs) ≡ true → throws_stand (reverse fs) height 0 0 (reverse ts) ≡ true → CallsStand h fs height ts
calls_stand h [] height ts e t = absurd cc
calls_stand h (f ∷ fs) height ts e t =
    let d = frames_down h height f fs e in
    let r = throws_fall (reverse (f ∷ fs)) height (last_frames 0 (reverse ts)) (last_height 0 (reverse ts)) ts t (omega arith) (omega arith) in
    all_calls h f fs height ts d.0 d.1 (falling_from (f ∷ fs) height _ _ ts (bases_below h f fs height d.0 d.1) r.0 r.1) r.0

-- the cell of the globals stands behind the literals

literals_before : (ts : List (List ℕ)) (h : HeapOf FunCell) (n : ℕ) → begins_with ts h ≡ true → is_some (pairs_at h n) ≡ true → length ts < length h
literals_before [] [] n e p = absurd cc
literals_before [] (c ∷ h) n e p = omega arith
literals_before (t ∷ ts) [] n e p = absurd cc
literals_before (t ∷ ts) (Text x ∷ h) zero e p = absurd cc
literals_before (t ∷ ts) (Array vs ∷ h) zero e p = absurd cc
literals_before (t ∷ ts) (Dict ps ∷ h) zero e p = absurd cc
literals_before (t ∷ ts) (Fun f ∷ h) zero e p = absurd cc
literals_before (t ∷ ts) (c ∷ h) (suc n) e p = let r = literals_before ts h n (both _ _ e).1 p in omega (arith, r)

-- the whole

pub machine_stands : (code : Ops) (m : RunState) (n : ℕ) → m.globals ≡ Some n → IsMachineOf code m → StateStands (record { literals = literals_of_code code; globals = n }) m.state
unfolding is_state belongs
machine_stands code m n globals is =
    let s : State = m.state in
    let a = both _ _ is.state in
    let b = both _ _ a.0 in
    let c = both _ _ b.0 in
    let d = both _ _ c.0 in
    let counts = d.0 in
    let calls = d.1 in
    let values = c.1 in
    let k = both _ _ counts in
    let l = both _ _ k.0 in
    let m1 = both _ _ l.0 in
    let v = both _ _ values in
    let w = both _ _ v.0 in
    let q = both _ _ calls in
    let up = stand_behind (length s.heap) (length s.stack) [] s.upvalues v.1 in
    let there : is_some (pairs_at s.heap n) ≡ true = sym (ap (globals_stand s.heap s.mode) globals) ∙ b.1 in
    let first : begins_with (literals_of_code code) s.heap ≡ true = sym (ap (λ (o : Option ℕ). literals_belong (literals_of_code code) o s.heap) globals) ∙ (both _ _ is.belongs).1 in
    let few = frames_few s.heap (length s.stack) (reverse s.frames) q.0 in
    let long = length-reverse s.frames in
    record {
      heap = record {
        cells = cells_stand (length s.heap) (length s.upvalues) s.heap w.1 is.fits.heap;
        covered = leb-true (8 * length s.heap) s.units l.1;
        within = leb-true s.units max_units m1.1;
      };
      turns = leb-true s.turns max_turns m1.0;
      stack = all_from (names (length s.heap)) (NamesBelow (length s.heap)) (names_below (length s.heap)) s.stack (sym (list_all-reverse (names (length s.heap)) s.stack) ∙ w.0);
      upvalues = record { each = up.each; apart = up.apart };
      calls = calls_stand s.heap s.frames (length s.stack) s.throws q.0 q.1;
      deep = omega (arith, few, long);
      asked = leb-true _ _ k.1;
      waits = a.1;
      globals = there;
      literals = literals_before (literals_of_code code) s.heap n first there;
    }
