-- Single operations on the picture: what is popped, where a throw lands, and how the run ends.
use Rattle.std.proofs.Common.{◌≡◌, ℕ, suc, ◌+◌, ◌-◌, ◌≤◌, List, [], ◌∷◌, ◌++◌, length, drop, Option, Some, None, Bool, true, false, cond, refl, sym, ap, ◌∙◌, subst, inl, inr, arith, length-append, append_assoc, append-nil}
use Rattle.std.specs.Prelude.{◌*◌, ◌==◌, max, reverse, nat_lt, nat_le, slice_get}
use Rattle.std.proofs.Math.Seq.{drop-append_seam}
use Rattle.std.proofs.lemmas.List.{length-reverse, reverse-append}
use Rattle.std.proofs.lemmas.Bool.Decides.{nat_tests}
use Rattle.hog_value.specs.declared.trace.End.{End}
use Rattle.hog_value.specs.declared.trace.End.TheVariants as end
use Rattle.hog_value.specs.Values.{Val}
use Rattle.hog_value.specs.Meters.{max_turns, max_units}
use Rattle.hog_value.specs.Cells.{HeapOf, heap_map}
use Rattle.hog_json.specs.Texts.{shown}
use Rattle.hog_json.proofs.Naturality.{shown-heap_map}
use Rattle.hog_tree.specs.Plain.{Word}
use Rattle.hog_captures.specs.Frames as names
use Rattle.hog_captures.specs.Frames.{find_local, find_up}
use Rattle.hog_meaning.specs.World.{Env, World, find_var}
use Rattle.hog_meaning.specs.World as m
use Rattle.hog_meaning.specs.Program.{charged_end}
use Rattle.hog_ops.specs.Plain.{Op}
use Rattle.hog_ops.specs.Table.{size}
use Rattle.vm_course.specs.State.{Slot, Begins, Frame, ThrowFrame, Ended, State}
use Rattle.vm_course.specs.Stack.{cut_to, push, keep, height_of, top_of, taken}
use Rattle.vm_course.specs.Throws.{ends, ends_shown, goto, caught, throw_to}
use Rattle.vm_course.specs.Step as vm
use Rattle.vm_course.specs.Step.{step, at_slot, act, on_with}
use Rattle.hog_bridge.proofs.Places.{Seat, Temp, Var, shown_seat, stack_of, Distinct, length-stack, close_ups, lower, temps, seat_push}
use Rattle.hog_bridge.proofs.Ahead.{left, left_later, left_past, left_some}
use Rattle.hog_bridge.proofs.Heaps.{Keeps}
use Rattle.hog_bridge.proofs.Picture.{Given, Ghost, Twin, meant, built, Landing, throws_of, frame, pic, phi, psi, one_step, stops, SeesWord, Sees, FrameIn, Lands, Under, Ctx, landings, at, OwnLands, OuterLands, Framed, Kept, Fits, Halts, caught_at, ThrowEnds}

-- where an operation of a frame stands
abbrev pub floor_in : Ctx → ℕ
floor_in c = max c.base (height_of (suc (length c.frames)) (throws_of (landings c)))

abbrev pub spot : Ctx → ℕ → ℕ → vm.Here
spot c place behind = record { frame = frame place c.base c.function; around = c.frames; behind = behind; floor = floor_in c }

pub pop_pic : (fs : List Frame) (ls : List Landing) (N L : List Seat) (G : Ghost) (w : World) → Distinct (length w.store) (N ++ L) → cut_to (stack_of w.store L) (pic fs ls (N ++ L) G w) ≡ pic fs ls L G w
pop_pic fs ls N L G w d = ap (λ us. record (pic fs ls L G w) { upvalues = us }) (close_ups w.store N L G.owners d)

-- on to the next operation, with what is left of the stack
pub on_pic : (c : Ctx) (place behind : ℕ) (N L : List Seat) (G : Ghost) (w : World) → Distinct (length w.store) (N ++ L) → on_with (spot c place behind) (stack_of w.store L) (at c place (N ++ L) G w) ≡ at c behind L G w
on_pic c place behind N L G w d =
    ap (λ z. goto behind (frame place c.base c.function) c.frames z) (pop_pic (frame place c.base c.function ∷ c.frames) (landings c) N L G w d)

pub keep_app : {A : Type 0} (xs ys : List A) → keep (length ys) (xs ++ ys) ≡ ys
keep_app xs ys =
    let e : length (xs ++ ys) - length ys ≡ length xs = omega (arith, length-append xs ys) in
    ap (λ n. drop n (xs ++ ys)) e ∙ drop-append_seam xs ys

pub stack-append : (store : List Val) (N L : List Seat) → stack_of store (N ++ L) ≡ stack_of store N ++ stack_of store L
stack-append store [] L = refl
stack-append store (s ∷ N) L = ap (λ xs. shown_seat store s ∷ xs) (stack-append store N L)

pub keep_stack : (store : List Val) (N L : List Seat) → keep (length L) (stack_of store (N ++ L)) ≡ stack_of store L
keep_stack store N L =
    ap (λ n. keep n (stack_of store (N ++ L))) (sym (length-stack store L))
    ∙ ap (keep (length (stack_of store L))) (stack-append store N L)
    ∙ keep_app (stack_of store N) (stack_of store L)

pub sees_push : (ws : List Word) (fr : names.Frame) (ρ : Env) (base : ℕ) (captured : List ℕ) (t : Seat) (L : List Seat) (owners : List ℕ) → Sees ws fr ρ base captured L owners → Sees ws fr ρ base captured (t ∷ L) owners
sees_push ws fr ρ base captured t L owners h x i = go (find_local fr.locals x) (find_up fr.ups x) (find_var ρ x) (h x i)
  where
    go : (l u v : Option ℕ) → SeesWord l u v base captured L owners → SeesWord l u v base captured (t ∷ L) owners
    go (Some i) u (Some y) e = seat_push t L (base + i) (Var y) e
    go (Some i) u None e = e
    go None u v e = e

pub lands_push : (base : ℕ) (fn : Option ℕ) (fs : List Frame) (t : Seat) (L : List Seat) (ls : List Landing) → Lands base fn fs L ls → Lands base fn fs (t ∷ L) ls
lands_push base fn fs t L [] h = h
lands_push base fn fs t L (l ∷ ls) h = (h.0, (t ∷ h.1.0, ap (λ xs. t ∷ xs) h.1.1), h.2)

pub framed_push : {d : ℕ} (c : Ctx) (t : Seat) (L : List Seat) → Framed d c L → Framed d c (t ∷ L)
framed_push c t L f = record {
  lands = lands_push c.base c.function c.frames t L (landings c) f.lands;
  floor = (t ∷ f.floor.0, ap (λ xs. t ∷ xs) f.floor.1);
  base = f.base;
  own = f.own;
  outer = f.outer;
  depth = f.depth;
}

pub framed_temps : {d : ℕ} (c : Ctx) (vs : List Val) (L : List Seat) → Framed d c L → Framed d c (temps vs L)
framed_temps c [] L f = f
framed_temps c (v ∷ vs) L f = framed_temps c vs (Temp v ∷ L) (framed_push c (Temp v) L f)

-- where only the layout changes
pub kept_on : {g : Given} {n : ℕ} {L : List Seat} (M : List Seat) {G : Ghost} {w : World} → Kept g n L G w → Distinct (length w.store) M → Kept g n M G w
kept_on M k d = record { layout = d; owners = k.owners; heap = k.heap; funs = k.funs; texts = k.texts; turns = k.turns }

pub kept_push : {g : Given} {n : ℕ} {L : List Seat} {G : Ghost} {w : World} (v : Val) → Kept g n L G w → Kept g n (Temp v ∷ L) G w
kept_push v k = record { layout = k.layout; owners = k.owners; heap = k.heap; funs = k.funs; texts = k.texts; turns = k.turns }

pub fits_push : {g : Given} {n d : ℕ} {c : Ctx} {ρ : Env} {L : List Seat} {G : Ghost} {w : World} (v : Val) → Fits g n d c ρ L G w → Fits g n d c ρ (Temp v ∷ L) G w
fits_push {c = c} {ρ = ρ} {L = L} {G = G} v h = record {
  kept = kept_push v h.kept;
  framed = framed_push c (Temp v) L h.framed;
  sees = sees_push c.words c.scope ρ c.base c.captured (Temp v) L G.owners h.sees;
  captured = h.captured;
  sight = h.sight;
}

pub fits_temps : {g : Given} {n d : ℕ} {c : Ctx} {ρ : Env} {G : Ghost} {w : World} (vs : List Val) (L : List Seat) → Fits g n d c ρ L G w → Fits g n d c ρ (temps vs L) G w
fits_temps [] L h = h
fits_temps (v ∷ vs) L h = fits_temps vs (Temp v ∷ L) (fits_push v h)

-- operands

max_within : (a b n : ℕ) → a ≤ n → b ≤ n → max a b ≤ n
max_within a b n p q = omega arith

-- no operand is missing: all that a frame's code has put on the stack stands above its floor
pub floor_below : {d : ℕ} (c : Ctx) (L : List Seat) → Framed d c L → floor_in c ≤ length L
floor_below c L f =
    let fl = f.floor in
    let e = ap (length {A = Seat}) fl.1 ∙ length-append fl.0 c.below in
    let b = f.base in
    max_within c.base (height_of (suc (length c.frames)) (throws_of (landings c))) (length L) (omega arith) (go c.own c.outer f.lands f.own f.outer)
  where
    within : (l : Landing) (ls : List Landing) → Lands c.base c.function c.frames L (l ∷ ls) → length l.layout ≤ length L
    within l ls h = let e = ap (length {A = Seat}) h.1.1 ∙ length-append h.1.0 l.layout in omega arith

    either : (b : Bool) (n k : ℕ) → n ≤ k → cond b n 0 ≤ k
    either true n k le = le
    either false n k le = omega arith

    go : (own outer : List Landing) → Lands c.base c.function c.frames L (own ++ outer) → OwnLands (length c.frames) own → OuterLands (length c.frames) outer → height_of (suc (length c.frames)) (throws_of (own ++ outer)) ≤ length L
    go [] [] h o u = omega arith
    go [] (l ∷ ls) h o u = either (suc (length l.frames) == suc (length c.frames)) (length l.layout) (length L) (within l ls h)
    go (l ∷ own) outer h o u = either (suc (length l.frames) == suc (length c.frames)) (length l.layout) (length L) (within l (own ++ outer) h)

pub top_is : (floor : ℕ) (v : Val) (xs : List Val) → floor ≤ length xs → top_of floor (v ∷ xs) ≡ (v, xs)
top_is floor v xs le = let t : nat_lt (length xs) floor ≡ false = grind (arith, nat_tests) in rw t refl

-- the topmost operand on the picture
pub top_pic : {d : ℕ} (c : Ctx) (s : Seat) (L : List Seat) (w : World) → Framed d c L → top_of (floor_in c) (stack_of w.store (s ∷ L)) ≡ (shown_seat w.store s, stack_of w.store L)
top_pic c s L w f =
    let b = floor_below c L f in let l = length-stack w.store L in
    top_is (floor_in c) (shown_seat w.store s) (stack_of w.store L) (omega arith)

taken_app : (floor : ℕ) (xs st : List Val) → floor ≤ length st → taken floor (length xs) (xs ++ st) ≡ (xs, st)
taken_app floor [] st le = refl
taken_app floor (x ∷ xs) st le =
    let l = length-append xs st in
    let one = top_is floor x (xs ++ st) (omega arith) in
    let more = taken_app floor xs st le in
    rw (one, more) refl

pub reversed : (store : List Val) (vs : List Val) (L : List Seat) → stack_of store (temps vs L) ≡ reverse vs ++ stack_of store L
reversed store [] L = refl
reversed store (v ∷ vs) L =
    reversed store vs (Temp v ∷ L) ∙ sym (append_assoc (reverse vs) (v ∷ []) (stack_of store L))
    ∙ ap (λ xs. xs ++ stack_of store L) (sym (reverse-append (v ∷ []) vs))

-- the operands of an operation that takes as many as these
pub taken_pic : {d : ℕ} (c : Ctx) (vs : List Val) (L : List Seat) (w : World) → Framed d c L → taken (floor_in c) (length vs) (stack_of w.store (temps vs L)) ≡ (reverse vs, stack_of w.store L)
taken_pic c vs L w f =
    let b = floor_below c L f in let l = length-stack w.store L in
    ap (taken (floor_in c) (length vs)) (reversed w.store vs L)
    ∙ ap (λ n. taken (floor_in c) n (reverse vs ++ stack_of w.store L)) (sym (length-reverse vs))
    ∙ taken_app (floor_in c) (reverse vs) (stack_of w.store L) (omega arith)

-- throws

keep_frames : (place : ℕ) (l : Landing) (base : ℕ) (fn : Option ℕ) (fs : List Frame) → FrameIn l base fn fs → (q : ℕ) × (keep (suc (length l.frames)) (frame place base fn ∷ fs) ≡ frame q l.base l.function ∷ l.frames)
keep_frames place l base fn fs (inl h) = (
  place,
  ap (λ xs. keep (suc (length l.frames)) (frame place base fn ∷ xs)) (sym h.2) ∙ keep_app [] (frame place base fn ∷ l.frames)
      ∙ ap (λ b. frame place b fn ∷ l.frames) (sym h.0) ∙ ap (λ k. frame place l.base k ∷ l.frames) (sym h.1),
)
keep_frames place l base fn fs (inr h) = (
  h.1,
  ap (λ xs. keep (suc (length l.frames)) (frame place base fn ∷ xs)) h.2
      ∙ keep_app (frame place base fn ∷ h.0) (frame h.1 l.base l.function ∷ l.frames),
)

phi-append : (code : List Slot) (xs ys : List Frame) → phi code (xs ++ ys) ≡ phi code xs + phi code ys
phi-append code [] ys = omega arith
phi-append code (f ∷ xs) ys = let ih = phi-append code xs ys in omega arith

-- a landing lies ahead
land_falls : (code : List Slot) (place : ℕ) (l : Landing) (base : ℕ) (fn : Option ℕ) (fs : List Frame) {o : Op} → slice_get code place ≡ Some (Begins o) → (l.frames ≡ fs → suc place ≤ l.target) → FrameIn l base fn fs → suc (phi code (frame l.target l.base l.function ∷ l.frames)) ≤ phi code (frame place base fn ∷ fs)
land_falls code place l base fn fs {o} is under (inl h) =
    let e = ap (phi code) h.2 in let u = under h.2 in let p = left_past code place l.target o is (omega arith) in omega arith
land_falls code place l base fn fs {o} is under (inr h) =
    let e = ap (phi code) h.2 ∙ phi-append code h.0 (frame h.1 l.base l.function ∷ l.frames) in
    let p = left_later code h.1 l.target h.3 in let s = left_some code place o is in omega arith

-- an end with a shown text
pub shown_same : (h : HeapOf Twin) (v : Val) → shown (heap_map built h) v ≡ shown (heap_map meant h) v
shown_same h v = shown-heap_map built h v ∙ sym (shown-heap_map meant h v)

pub shown_halts : (g : Given) (make : List ℕ → End) (v : Val) (S0 before s : State) (w : World) (h : HeapOf Twin) → step g.fixed g.code S0 ≡ ends_shown make v before s → s.heap ≡ heap_map built h → w.heap ≡ heap_map meant h → s.units ≡ w.units → s.trace ≡ w.trace → before.trace ≡ w.trace → s.frames ≡ S0.frames → before.frames ≡ S0.frames → s.turns ≡ S0.turns → before.turns ≡ S0.turns → suc ((phi g.code S0.frames + (max_turns - S0.turns) * suc (left g.code 0)) - 1) ≤ psi g S0 → Halts g S0 (charged_end make w v) w
shown_halts g make v S0 before s w h is sh wh su st bt sf bf sn bn falls =
    let same : shown s.heap v ≡ shown w.heap v = ap (λ x. shown x v) sh ∙ shown_same h v ∙ ap (λ x. shown x v) (sym wh) in
    let units : (nat_le (s.units + length (shown s.heap v)) max_units) ≡ (nat_le (w.units + length (shown w.heap v)) max_units) =
    ap (λ k. nat_le (k + length (shown s.heap v)) max_units) su ∙ ap (λ t. nat_le (w.units + length t) max_units) same in
    go (shown s.heap v) (shown w.heap v) same (nat_le (s.units + length (shown s.heap v)) max_units) (nat_le (w.units + length (shown w.heap v)) max_units) units is
  where
    go : (t t2 : List ℕ) → t ≡ t2 → (b b2 : Bool) → b ≡ b2 → step g.fixed g.code S0 ≡ cond b (ends (make t) (record s { units = s.units + length t })) (ends end.MemorySpent before) → Halts g S0 (cond b2 (make t2) end.MemorySpent) w
    go t t2 e true true q is =
        let f : phi g.code s.frames + (max_turns - s.turns) * suc (left g.code 0) ≡ phi g.code S0.frames + (max_turns - S0.turns) * suc (left g.code 0) =
        ap (λ fs. phi g.code fs + (max_turns - s.turns) * suc (left g.code 0)) sf ∙ ap (λ k. phi g.code S0.frames + (max_turns - k) * suc (left g.code 0)) sn in
        record { last = ends (make t) (record s { units = s.units + length t }); comes = one_step g S0 _ is (omega (arith, f, falls)); mode = ap (λ x. Ended (make x)) e; trace = st }
    go t t2 e false false q is =
        let f : phi g.code before.frames + (max_turns - before.turns) * suc (left g.code 0) ≡ phi g.code S0.frames + (max_turns - S0.turns) * suc (left g.code 0) =
        ap (λ fs. phi g.code fs + (max_turns - before.turns) * suc (left g.code 0)) bf ∙ ap (λ k. phi g.code S0.frames + (max_turns - k) * suc (left g.code 0)) bn in
        record { last = ends end.MemorySpent before; comes = one_step g S0 _ is (omega (arith, f, falls)); mode = refl; trace = bt }
    go t t2 e true false q is = absurd (cc)
    go t t2 e false true q is = absurd (cc)

module _ (g : Given) (n : ℕ) (c : Ctx) (place : ℕ) (L : List Seat) (G : Ghost) (w : World) (v : Val) (h1 : HeapOf Twin) (units : ℕ) where
  abbrev fs : List Frame
  fs = frame place c.base c.function ∷ c.frames

  abbrev G1 : Ghost
  G1 = record G { heap = h1 }

  abbrev w1 : World
  w1 = m.with_heap w (heap_map meant h1) units

  land : (l : Landing) (ls : List Landing) → Kept g n L G1 w1 → Lands c.base c.function c.frames L (l ∷ ls) → throw_to (throws_of (l ∷ ls)) v (pic fs (l ∷ ls) L G w) (pic fs (l ∷ ls) L G1 w1) ≡ caught_at l ls v w1 G1
  land l ls k h =
      let f = keep_frames place l c.base c.function c.frames h.0 in
      let S : List Seat → State = λ M. pic fs (l ∷ ls) M G1 w1 in
      let t : ThrowFrame = record { frames = suc (length l.frames); height = length l.layout; catch = l.target } in
      let whole = h.1.0 ++ l.layout in
      let dist' : Distinct (length w.store) whole = subst (Distinct (length w.store)) h.1.1 k.layout in
      ap (λ M. throw_to (throws_of (l ∷ ls)) v (pic fs (l ∷ ls) L G w) (S M)) h.1.1
      ∙ ap (λ gs. caught v t (throws_of ls) gs (S whole)) f.1
      ∙ ap (λ st. push v (goto l.target (frame f.0 l.base l.function) l.frames (record (cut_to st (S whole)) { throws = throws_of ls }))) (keep_stack w.store h.1.0 l.layout)
      ∙ ap (λ (s : State). push v (goto l.target (frame f.0 l.base l.function) l.frames (record s { throws = throws_of ls }))) (pop_pic fs (l ∷ ls) h.1.0 l.layout G1 w1 dist')

  caught_end : {o : Op} (l : Landing) (ls : List Landing) → slice_get g.code place ≡ Some (Begins o) → Keeps G.heap h1 → Kept g n L G1 w1 → Lands c.base c.function c.frames L (l ∷ ls) → (l.frames ≡ c.frames → suc place ≤ l.target) → step g.fixed g.code (pic fs (l ∷ ls) L G w) ≡ throw_to (throws_of (l ∷ ls)) v (pic fs (l ∷ ls) L G w) (pic fs (l ∷ ls) L G1 w1) → ThrowEnds g n (l ∷ ls) (pic fs (l ∷ ls) L G w) G v w1
  caught_end l ls at_op keeps k h u e =
      let f = land_falls g.code place l c.base c.function c.frames at_op u h.0 in
      record {
        last = caught_at l ls v w1 G1;
        ghost' = G1;
        comes = one_step g _ (caught_at l ls v w1 G1) (e ∙ land l ls k h) (omega (arith, f));
        extends = record { owners = ([], sym (append-nil G.owners)); heap = keeps };
        holds = record {
          is = refl;
          kept = kept_on l.layout k (lower (length w.store) h.1.0 l.layout (subst (Distinct (length w.store)) h.1.1 k.layout));
        };
      }

  any_end : {o : Op} (own outer : List Landing) → slice_get g.code place ≡ Some (Begins o) → Keeps G.heap h1 → Kept g n L G1 w1 → Lands c.base c.function c.frames L (own ++ outer) → Under (suc place) own → OuterLands (length c.frames) outer → step g.fixed g.code (pic fs (own ++ outer) L G w) ≡ throw_to (throws_of (own ++ outer)) v (pic fs (own ++ outer) L G w) (pic fs (own ++ outer) L G1 w1) → ThrowEnds g n (own ++ outer) (pic fs (own ++ outer) L G w) G v w1
  any_end [] [] at_op keeps k h u o e = shown_halts g end.Threw v (pic fs [] L G w) (pic fs [] L G w) (pic fs [] L G1 w1) w1 h1 e refl refl refl refl refl refl refl refl refl (stops g place c.base c.function c.frames (max_turns - w.turns) at_op)
  any_end [] (l ∷ ls) at_op keeps k h u o e = caught_end l ls at_op keeps k h (λ same. let q = ap (length {A = Frame}) same in let o2 = o in absurd (omega arith)) e
  any_end (l ∷ own) outer at_op keeps k h u o e = caught_end l (own ++ outer) at_op keeps k h (λ same. u) e

  -- a throw lands, or ends the run. The heap may be another one by then, as the thrown value is made.
  pub raised : {d : ℕ} {o : Op} → slice_get g.code place ≡ Some (Begins o) → Under (suc place) c.own → Framed d c L → Keeps G.heap h1 → Kept g n L G1 w1 → step g.fixed g.code (at c place L G w) ≡ throw_to (throws_of (landings c)) v (at c place L G w) (at c place L G1 w1) → ThrowEnds g n (landings c) (at c place L G w) G v w1
  raised at_op under framed keeps k is = any_end c.own c.outer at_op keeps k framed.lands under framed.outer is

module _ (g : Given) where
  -- one operation on the picture
  pub op_is : (op : Op) (c : Ctx) (place : ℕ) (L : List Seat) (G : Ghost) (w : World) → slice_get g.code place ≡ Some (Begins op) → step g.fixed g.code (at c place L G w) ≡ act g.fixed g.code op (spot c place (place + size op)) (at c place L G w)
  op_is op c place L G w h = ap (λ o. at_slot g.fixed g.code o (frame place c.base c.function) c.frames (at c place L G w)) h
