-- The machine's state as a picture of the meaning's world.
use Rattle.std.proofs.Common.{◌≡◌, ℕ, zero, suc, ◌+◌, ◌-◌, ◌<◌, ◌≤◌, List, [], ◌∷◌, ◌++◌, length, Option, Some, None, refl, sym, ap, ◌∙◌, subst, ◌⊎◌, ⊎_elim, arith, append_assoc, append-nil}
use Rattle.std.specs.Prelude.{◌*◌, slice_get}
use Rattle.std.proofs.lemmas.Bool.{cases_lt}
use Rattle.hog_value.specs.declared.cell.FunCell.{FunCell}
use Rattle.hog_value.specs.declared.trace.End.{End}
use Rattle.hog_value.specs.declared.trace.End.TheVariants as end
use Rattle.hog_value.specs.Values.{Val}
use Rattle.hog_value.specs.Meters.{max_turns}
use Rattle.hog_value.specs.Cells.{HeapOf, heap_map, text_at}
use Rattle.hog_tree.specs.Plain.{Word}
use Rattle.hog_captures.specs.Frees.{without_all, body_frees}
use Rattle.hog_captures.specs.Frames as names
use Rattle.hog_captures.specs.Frames.{find_local, find_up, inner_frame}
use Rattle.hog_compiler.specs.Code.{body_code}
use Rattle.hog_meaning.specs.Meaning.{place_in}
use Rattle.hog_meaning.specs.World.{Env, Closure, World, Fixed, Got, Gives, Throws, Waits, Spends, and_then, find_var}
use Rattle.hog_meaning.specs.Program.{end_of, charged_end}
use Rattle.hog_ops.specs.Plain.{Op, Str}
use Rattle.vm_course.specs.State.{Slot, Begins, Frame, ThrowFrame, Running, Waiting, Ended, Mode, State, params_at}
use Rattle.vm_course.specs.Step.{step}
use Rattle.vm_course.specs.Course.{steps}
use Rattle.hog_bridge.proofs.Words.{In, onto}
use Rattle.hog_bridge.proofs.Resolved.{BodyOk, sight_of}
use Rattle.hog_bridge.proofs.Places.{Seat, Temp, Var, seat_at, stack_of, ups_of, owner_of, Distinct}
use Rattle.hog_bridge.proofs.Ahead.{HasAt, left, left_past, left_some}
use Rattle.hog_bridge.proofs.Heaps.{AllFuns, Keeps, keeps_same, keeps_then, fun_at}

-- what runs: what a run never changes, and its code
pub record Given : Type 0 where
  pub fixed : Fixed
  pub code : List Slot

-- a function as the meaning has it, and as the machine has it
abbrev pub Twin : Type 0
Twin = Closure × FunCell

abbrev pub meant : Twin → Closure
meant t = t.0

abbrev pub built : Twin → FunCell
built t = t.1

-- what is left of a function where its content is of no account
abbrev pub nothing : Unit {0}
nothing = tt

-- what the world of the meaning doesn't tell: which variable each upvalue holds, in order of number, and the heap of both sides
pub record Ghost : Type 0 where
  pub owners : List ℕ
  pub heap : HeapOf Twin

-- where a throw lands
pub record Landing : Type 0 where
  pub target : ℕ
  pub base : ℕ
  pub function : Option ℕ
  pub frames : List Frame
  pub layout : List Seat

abbrev pub throws_of : List Landing → List ThrowFrame
throws_of [] = []
throws_of (l ∷ ls) = record { frames = suc (length l.frames); height = length l.layout; catch = l.target } ∷ throws_of ls

abbrev pub frame : ℕ → ℕ → Option ℕ → Frame
frame place base function = record { place = place; base = base; function = function }

-- the machine's state, computed from the layout of its stack, the ghost and the world
abbrev pub pic : List Frame → List Landing → List Seat → Ghost → World → State
pic fs ls L G w =
    record {
      stack = stack_of w.store L;
      frames = fs;
      throws = throws_of ls;
      upvalues = ups_of L w.store G.owners;
      heap = heap_map built G.heap;
      turns = w.turns;
      units = w.units;
      trace = w.trace;
      replies = w.replies;
      mode = Running;
    }

-- how many operations the frames have before them
abbrev pub phi : List Slot → List Frame → ℕ
phi code [] = 0
phi code (f ∷ fs) = left code f.place + phi code fs

abbrev pub psi_in : Mode → ℕ → ℕ
psi_in Running n = n
psi_in Waiting n = n
psi_in (Ended e) n = n - 1

-- what is left to do: the operations before the frames, and all of the code for each turn that is left
abbrev pub psi : Given → State → ℕ
psi g s = psi_in s.mode (phi g.code s.frames + (max_turns - s.turns) * suc (left g.code 0))

-- the machine comes from one state to another, and each operation on the way takes from what is left
pub record Comes (g : Given) (s s' : State) : Type 0 where
  pub count : ℕ
  pub by : steps g.fixed g.code count s ≡ s'
  pub paid : (j : ℕ) → j ≤ count → j + psi g (steps g.fixed g.code j s) ≤ psi g s

module _ (g : Given) where
  abbrev go_on : ℕ → State → State
  go_on k s = steps g.fixed g.code k s

  pub steps-add : (m n : ℕ) (s : State) → steps g.fixed g.code (m + n) s ≡ steps g.fixed g.code n (steps g.fixed g.code m s)
  steps-add zero n s = let e : zero + n ≡ n = omega arith in ap (λ k. go_on k s) e
  steps-add (suc m) n s =
      let e : suc m + n ≡ suc (m + n) = omega arith in
      ap (λ k. go_on k s) e ∙ steps-add m n (step g.fixed g.code s)

  paid_then : (m j : ℕ) (s s1 : State) → go_on m s ≡ s1 → m ≤ j → m + psi g s1 ≤ psi g s → (j - m) + psi g (go_on (j - m) s1) ≤ psi g s1 → j + psi g (go_on j s) ≤ psi g s
  paid_then m j s s1 e le p q =
      let n : m + (j - m) ≡ j = omega arith in
      let same : go_on j s ≡ go_on (j - m) s1 = ap (λ k. go_on k s) (sym n) ∙ steps-add m (j - m) s ∙ ap (go_on (j - m)) e in
      let same' = ap (psi g) same in
      omega (arith, same', p, q)

  pub comes_then : {s s1 s2 : State} → Comes g s s1 → Comes g s1 s2 → Comes g s s2
  comes_then {s} {s1} {s2} a b = record {
    count = a.count + b.count;
    by = steps-add a.count b.count s ∙ ap (go_on b.count) a.by ∙ b.by;
    paid = λ j le. ⊎_elim (λ lt. a.paid j (omega arith))
        (λ ge. let all = subst (λ z. a.count + psi g z ≤ psi g s) a.by (a.paid a.count (omega arith)) in
        paid_then a.count j s s1 a.by ge all (b.paid (j - a.count) (omega arith)))
        (cases_lt j a.count);
  }

  pub at_once : {s s1 : State} → s ≡ s1 → Comes g s s1
  at_once {s} e = record { count = 0; by = e; paid = none s }
    where
      none : (s : State) (j : ℕ) → j ≤ 0 → j + psi g (go_on j s) ≤ psi g s
      none s zero le = omega arith
      none s (suc j) le = absurd (omega arith)

  pub stays : (s : State) → Comes g s s
  stays s = at_once refl

  pub comes_to : {s s1 s2 : State} → Comes g s s1 → s1 ≡ s2 → Comes g s s2
  comes_to k e = record { count = k.count; by = k.by ∙ e; paid = k.paid }

  pub one_step : (s s' : State) → step g.fixed g.code s ≡ s' → suc (psi g s') ≤ psi g s → Comes g s s'
  one_step s s' e p = record { count = 1; by = e; paid = one }
    where
      one : (j : ℕ) → j ≤ 1 → j + psi g (go_on j s) ≤ psi g s
      one zero le = omega arith
      one (suc zero) le = let q = ap (psi g) e in omega (arith, p, q)
      one (suc (suc j)) le = absurd (omega arith)

  -- the second of two operations may take nothing
  pub two_steps : (s s1 s2 : State) → step g.fixed g.code s ≡ s1 → step g.fixed g.code s1 ≡ s2 → suc (psi g s1) ≤ psi g s → suc (suc (psi g s2)) ≤ psi g s → Comes g s s2
  two_steps s s1 s2 e f p q = record { count = 2; by = ap (step g.fixed g.code) e ∙ f; paid = two }
    where
      two : (j : ℕ) → j ≤ 2 → j + psi g (go_on j s) ≤ psi g s
      two zero le = omega arith
      two (suc zero) le = let x = ap (psi g) e in omega (arith, p, x)
      two (suc (suc zero)) le = let x = ap (psi g) (ap (step g.fixed g.code) e ∙ f) in omega (arith, q, x)
      two (suc (suc (suc j))) le = absurd (omega arith)

  -- a place ahead, where no turn comes back
  pub ahead : (p q base base2 : ℕ) (fn fn2 : Option ℕ) (fs : List Frame) (t t2 : ℕ) {o : Op} → slice_get g.code p ≡ Some (Begins o) → p < q → t2 ≤ t → suc (phi g.code (frame q base fn ∷ fs) + t2 * suc (left g.code 0)) ≤ phi g.code (frame p base2 fn2 ∷ fs) + t * suc (left g.code 0)
  ahead p q base base2 fn fn2 fs t t2 {o} is lt le =
      let h = left_past g.code p q o is lt in
      let m : (t - t2) + t2 ≡ t = omega arith in
      let d = ap (λ x. x * suc (left g.code 0)) m in
      let e : ((t - t2) + t2) * suc (left g.code 0) ≡ (t - t2) * suc (left g.code 0) + t2 * suc (left g.code 0) = omega arith in
      omega (arith, h, d, e)

  -- an operation that ends the run
  pub stops : (p base : ℕ) (fn : Option ℕ) (fs : List Frame) (t : ℕ) {o : Op} → slice_get g.code p ≡ Some (Begins o) → suc ((phi g.code (frame p base fn ∷ fs) + t * suc (left g.code 0)) - 1) ≤ phi g.code (frame p base fn ∷ fs) + t * suc (left g.code 0)
  stops p base fn fs t {o} is = let h = left_some g.code p o is in omega (arith, h)

-- more owners, and a heap that keeps its texts and functions
pub record Extends (G G' : Ghost) : Type 0 where
  pub owners : (more : List ℕ) × (G'.owners ≡ G.owners ++ more)
  pub heap : Keeps G.heap G'.heap

pub extends_same : (G : Ghost) → Extends G G
extends_same G = record { owners = ([], sym (append-nil G.owners)); heap = keeps_same G.heap }

pub extends_then : {G G1 G2 : Ghost} → Extends G G1 → Extends G1 G2 → Extends G G2
extends_then {G} {G1} {G2} a b = record {
  owners = (a.owners.0 ++ b.owners.0, b.owners.1 ∙ ap (λ xs. xs ++ b.owners.0) a.owners.1 ∙ append_assoc G.owners a.owners.0 b.owners.0);
  heap = keeps_then a.heap b.heap;
}

-- a word, by where the code finds it and by where the names in sight find it
abbrev pub UpSees : Option ℕ → Option ℕ → List ℕ → List ℕ → Type 0
UpSees None None captured owners = Unit {0}
UpSees (Some j) (Some x) captured owners = (u : ℕ) × (slice_get captured j ≡ Some u) × (slice_get owners u ≡ Some x)
UpSees None (Some x) captured owners = ⊥
UpSees (Some j) None captured owners = ⊥

abbrev pub SeesWord : Option ℕ → Option ℕ → Option ℕ → ℕ → List ℕ → List Seat → List ℕ → Type 0
SeesWord (Some i) up (Some x) base captured L owners = seat_at L (base + i) ≡ Some (Var x)
SeesWord (Some i) up None base captured L owners = ⊥
SeesWord None up v base captured L owners = UpSees up v captured owners

-- each word that may be looked up is found on both sides, and is the same variable
abbrev pub Sees : List Word → names.Frame → Env → ℕ → List ℕ → List Seat → List ℕ → Type 0
Sees ws fr ρ base captured L owners =
    (x : Word) → In x ws → SeesWord (find_local fr.locals x) (find_up fr.ups x) (find_var ρ x) base captured L owners

-- a function of the machine runs the code of its tree, and its captured variables are those of its names in sight
pub record FunOk (code : List Slot) (owners : List ℕ) (t : Twin) : Type 0 where
  pub ups : List Word
  pub code_at : HasAt code t.1.place (body_code (inner_frame t.0.params ups) t.0.body)
  pub params : params_at code t.1.place ≡ Some (length t.0.params)
  pub calls : BodyOk (onto t.0.params (sight_of t.0.env)) t.0.body
  pub sees : (x : Word) → In x (without_all t.0.params (body_frees t.0.body)) → UpSees (find_up ups x) (find_var t.0.env x) t.1.captured owners

-- each variable owns one upvalue at most, and has been made
abbrev pub Owned : ℕ → List ℕ → Type 0
Owned n [] = Unit {0}
Owned n (x ∷ xs) = (x < n) × (owner_of xs x ≡ None) × Owned n xs

-- the texts that the code pushes lie in their cells
abbrev pub TextsLie : Given → HeapOf Twin → Type 0
TextsLie g h = (p : ℕ) (t : List ℕ) → slice_get g.code p ≡ Some (Begins (Str t)) → text_at h (place_in g.fixed.literals t) ≡ Some t

-- what a frame's function has captured
abbrev pub CapturedIs : Option ℕ → List ℕ → HeapOf Twin → Type 0
CapturedIs None captured h = captured ≡ []
CapturedIs (Some n) captured h = (t : Twin) × (fun_at h n ≡ Some t) × (t.1.captured ≡ captured)

-- a construct that ends at q lies under the nearest throw frame
abbrev pub Under : ℕ → List Landing → Type 0
Under q [] = Unit {0}
Under q (l ∷ ls) = q ≤ l.target

pub under_less : {q p : ℕ} (own : List Landing) → q ≤ p → Under p own → Under q own
under_less [] le u = u
under_less (l ∷ own) le u = let v = u in omega (arith, v)

-- the landing's frame is this one, or one further out, whose next place lies before the landing
abbrev pub FrameIn : Landing → ℕ → Option ℕ → List Frame → Type 0
FrameIn l base fn fs =
    ((l.base ≡ base) × (l.function ≡ fn) × (l.frames ≡ fs))
    ⊎ ((M : List Frame) × (q : ℕ) × (fs ≡ M ++ (frame q l.base l.function ∷ l.frames)) × (q ≤ l.target))

abbrev pub Lands : ℕ → Option ℕ → List Frame → List Seat → List Landing → Type 0
Lands base fn fs L [] = Unit {0}
Lands base fn fs L (l ∷ ls) =
    FrameIn l base fn fs × ((N : List Seat) × (L ≡ N ++ l.layout)) × Lands l.base l.function l.frames l.layout ls

-- What stays the same while a part of a frame's code runs: `own` are the landings of this frame, `outer` those of its callers,
-- `below` is the stack under the frame, `words` are those that may be
-- looked up, and `sight` are the names in sight.
pub record Ctx : Type 0 where
  pub base : ℕ
  pub function : Option ℕ
  pub captured : List ℕ
  pub frames : List Frame
  pub own : List Landing
  pub outer : List Landing
  pub below : List Seat
  pub scope : names.Frame
  pub words : List Word
  pub sight : List Word

abbrev pub landings : Ctx → List Landing
landings c = c.own ++ c.outer

abbrev pub at : Ctx → ℕ → List Seat → Ghost → World → State
at c place L G w = pic (frame place c.base c.function ∷ c.frames) (landings c) L G w

abbrev pub OwnLands : ℕ → List Landing → Type 0
OwnLands n [] = Unit {0}
OwnLands n (l ∷ ls) = (length l.frames ≡ n) × OwnLands n ls

abbrev pub OuterLands : ℕ → List Landing → Type 0
OuterLands n [] = Unit {0}
OuterLands n (l ∷ ls) = length l.frames < n

-- the frame's part of what holds, which no operation of the frame changes
pub record Framed (d : ℕ) (c : Ctx) (L : List Seat) : Type 0 where
  pub lands : Lands c.base c.function c.frames L (landings c)
  pub floor : (N : List Seat) × (L ≡ N ++ c.below)
  pub base : c.base ≡ length c.below
  pub own : OwnLands (length c.frames) c.own
  pub outer : OuterLands (length c.frames) c.outer
  pub depth : d ≡ length c.frames

-- the world's part, where n turns at most are left
pub record Kept (g : Given) (n : ℕ) (L : List Seat) (G : Ghost) (w : World) : Type 0 where
  pub layout : Distinct (length w.store) L
  pub owners : Owned (length w.store) G.owners
  pub heap : w.heap ≡ heap_map meant G.heap
  pub funs : AllFuns (FunOk g.code G.owners) G.heap
  pub texts : TextsLie g G.heap
  pub turns : max_turns ≤ w.turns + n

-- world, ghost and layout belong together, and so do the names in sight and the frame that the code was made with
pub record Fits (g : Given) (n depth : ℕ) (c : Ctx) (ρ : Env) (L : List Seat) (G : Ghost) (w : World) : Type 0 where
  pub kept : Kept g n L G w
  pub framed : Framed depth c L
  pub sees : Sees c.words c.scope ρ c.base c.captured L G.owners
  pub captured : CapturedIs c.function c.captured G.heap
  pub sight : sight_of ρ ≡ c.sight

-- the machine comes to this end
pub record Halts (g : Given) (s : State) (e : End) (w : World) : Type 0 where
  pub last : State
  pub comes : Comes g s last
  pub mode : last.mode ≡ Ended e
  pub trace : last.trace ≡ w.trace

-- the machine waits with all replies used; what it holds is the world's, but for what its functions are
pub record Idles (g : Given) (s : State) (w : World) : Type 0 where
  pub last : State
  pub comes : Comes g s last
  pub mode : last.mode ≡ Waiting
  pub none : last.replies ≡ []
  pub trace : last.trace ≡ w.trace
  pub turns : last.turns ≡ w.turns
  pub units : last.units ≡ w.units
  pub heap : heap_map (λ x. nothing) last.heap ≡ heap_map (λ x. nothing) w.heap

-- the machine comes to such a state, with some ghost
pub record Reaches (g : Given) (s : State) (G : Ghost) (P : Ghost → State → Type 0) : Type 0 where
  pub last : State
  pub ghost' : Ghost
  pub comes : Comes g s last
  pub extends : Extends G ghost'
  pub holds : P ghost' last

abbrev pub caught_at : Landing → List Landing → Val → World → Ghost → State
caught_at l ls v w G = pic (frame l.target l.base l.function ∷ l.frames) ls (Temp v ∷ l.layout) G w

pub record Caught (g : Given) (n : ℕ) (l : Landing) (ls : List Landing) (v : Val) (w : World) (G : Ghost) (s : State) : Type 0 where
  pub is : s ≡ caught_at l ls v w G
  pub kept : Kept g n l.layout G w

abbrev pub ThrowEnds : Given → ℕ → List Landing → State → Ghost → Val → World → Type 0
ThrowEnds g n [] s G v w = Halts g s (charged_end end.Threw w v) w
ThrowEnds g n (l ∷ ls) s G v w = Reaches g s G (Caught g n l ls v w)

-- how the machine ends where the meaning is this
abbrev pub Ends : {A : Type 0} → Given → ℕ → List Landing → State → Ghost → (A → World → Ghost → State → Type 0) → Got A → Type 0
Ends g n ls s G P (Gives a w) = Reaches g s G (P a w)
Ends g n ls s G P (Throws v w) = ThrowEnds g n ls s G v w
Ends g n ls s G P (Waits w) = Idles g s w
Ends g n ls s G P (Spends limit w) = Halts g s (end_of limit) w

-- the same as a record, so that its arguments can be left out
pub record Run {A : Type 0} (g : Given) (n : ℕ) (ls : List Landing) (s : State) (G : Ghost) (P : A → World → Ghost → State → Type 0) (o : Got A) : Type 0 where
  pub ends : Ends g n ls s G P o

module _ (g : Given) (n : ℕ) where
  pub halts_after : {s s1 : State} {e : End} {w : World} → Comes g s s1 → Halts g s1 e w → Halts g s e w
  halts_after k h = record { last = h.last; comes = comes_then g k h.comes; mode = h.mode; trace = h.trace }

  pub idles_after : {s s1 : State} {w : World} → Comes g s s1 → Idles g s1 w → Idles g s w
  idles_after k h = record { last = h.last; comes = comes_then g k h.comes; mode = h.mode; none = h.none; trace = h.trace; turns = h.turns; units = h.units; heap = h.heap }

  pub reaches_after : {s s1 : State} {G G1 : Ghost} {P : Ghost → State → Type 0} → Comes g s s1 → Extends G G1 → Reaches g s1 G1 P → Reaches g s G P
  reaches_after k x r = record { last = r.last; ghost' = r.ghost'; comes = comes_then g k r.comes; extends = extends_then x r.extends; holds = r.holds }

  pub throws_after : (ls : List Landing) {s s1 : State} {G G1 : Ghost} (v : Val) (w : World) → Comes g s s1 → Extends G G1 → ThrowEnds g n ls s1 G1 v w → ThrowEnds g n ls s G v w
  throws_after [] v w k x r = halts_after k r
  throws_after (l ∷ ls) v w k x r = reaches_after k x r

  ends_after : {A : Type 0} (ls : List Landing) {s s1 : State} {G G1 : Ghost} (P : A → World → Ghost → State → Type 0) (o : Got A) → Comes g s s1 → Extends G G1 → Ends g n ls s1 G1 P o → Ends g n ls s G P o
  ends_after ls P (Gives a w) k x r = reaches_after k x r
  ends_after ls P (Throws v w) k x r = throws_after ls v w k x r
  ends_after ls P (Waits w) k x r = idles_after k r
  ends_after ls P (Spends limit w) k x r = halts_after k r

  -- a run that comes to a state, and goes on from there
  pub run_after : {A : Type 0} {ls : List Landing} {s s1 : State} {G G1 : Ghost} {P : A → World → Ghost → State → Type 0} {o : Got A} → Comes g s s1 → Extends G G1 → Run g n ls s1 G1 P o → Run g n ls s G P o
  run_after {A} {ls} {s} {s1} {G} {G1} {P} {o} k x r = record { ends = ends_after ls P o k x r.ends }

  then_ends : {A B : Type 0} (ls : List Landing) (s : State) (G : Ghost) (P : A → World → Ghost → State → Type 0) (P2 : B → World → Ghost → State → Type 0) (o : Got A) (go : A → World → Got B) → Ends g n ls s G P o → ((a : A) (w : World) (G1 : Ghost) (s1 : State) → Extends G G1 → P a w G1 s1 → Run g n ls s1 G1 P2 (go a w)) → Ends g n ls s G P2 (and_then o go)
  then_ends ls s G P P2 (Gives a w) go r k =
      ends_after ls P2 (go a w) r.comes r.extends (k a w r.ghost' r.last r.extends r.holds).ends
  then_ends ls s G P P2 (Throws v w) go r k = r
  then_ends ls s G P P2 (Waits w) go r k = r
  then_ends ls s G P P2 (Spends limit w) go r k = r

  -- one part after another
  pub run_then : {A B : Type 0} {ls : List Landing} {s : State} {G : Ghost} {P : A → World → Ghost → State → Type 0} {P2 : B → World → Ghost → State → Type 0} {o : Got A} {go : A → World → Got B} → Run g n ls s G P o → ((a : A) (w : World) (G1 : Ghost) (s1 : State) → Extends G G1 → P a w G1 s1 → Run g n ls s1 G1 P2 (go a w)) → Run g n ls s G P2 (and_then o go)
  run_then {A} {B} {ls} {s} {G} {P} {P2} {o} {go} r k =
      record { ends = then_ends ls s G P P2 o go r.ends k }

  -- a value after these steps
  pub gives : {A : Type 0} {ls : List Landing} {s s1 : State} {G : Ghost} {P : A → World → Ghost → State → Type 0} {a : A} {w : World} → Comes g s s1 → P a w G s1 → Run g n ls s G P (Gives a w)
  gives {A} {ls} {s} {s1} {G} k p = record { ends = record { last = s1; ghost' = G; comes = k; extends = extends_same G; holds = p } }

  -- a value after these steps, with another ghost
  pub gives_with : {A : Type 0} {ls : List Landing} {s s1 : State} {G G1 : Ghost} {P : A → World → Ghost → State → Type 0} {a : A} {w : World} → Comes g s s1 → Extends G G1 → P a w G1 s1 → Run g n ls s G P (Gives a w)
  gives_with {A} {ls} {s} {s1} {G} {G1} k x p = record { ends = record { last = s1; ghost' = G1; comes = k; extends = x; holds = p } }
