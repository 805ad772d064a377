-- Kinds, results, outcomes and natives on the picture.
use Rattle.std.proofs.Common.{◌≡◌, ℕ, suc, ◌+◌, ◌-◌, ◌<◌, ◌≤◌, List, [], ◌∷◌, ◌++◌, length, Some, Result, Ok, Err, refl, sym, ap, ◌∙◌, subst, arith, append-nil}
use Rattle.std.specs.Prelude.{◌*◌, slice_get}
use Rattle.hog_value.specs.declared.value.Kind.{Kind}
use Rattle.hog_value.specs.declared.trace.TraceItem.TheVariants.{Printed, Asked}
use Rattle.hog_value.specs.declared.trace.End.TheVariants as end
use Rattle.hog_value.specs.declared.trace.Request.{Request}
use Rattle.hog_value.specs.Values.{Val}
use Rattle.hog_value.specs.declared.value.Value.TheVariants.{Null}
use Rattle.hog_value.specs.Meters.{Spent, max_turns}
use Rattle.hog_value.specs.Cells.{CellOf, Text, Array, Dict, Fun, HeapOf, cell_map, heap_map}
use Rattle.hog_value.specs.Operations as op
use Rattle.hog_value.specs.Operations.{Outcome, outcome_map}
use Rattle.hog_library.specs.Called as native
use Rattle.hog_library.specs.Called.{called}
use Rattle.hog_library.specs.Cells.{thrown, response}
use Rattle.hog_library.proofs.Naturality.{thrown-heap_map, response-heap_map}
use Rattle.hog_meaning.specs.World.{Env, World, Reply, Got, Gives, and_then}
use Rattle.hog_meaning.specs.World as m
use Rattle.hog_meaning.specs.Meaning as e
use Rattle.hog_meaning.specs.Meaning.{most_requests, is_request, is_fetch, call_native}
use Rattle.hog_meaning.specs.Program.{end_of}
use Rattle.hog_ops.specs.Plain.{Op}
use Rattle.vm_course.specs.State.{Begins, Running, Waiting, State}
use Rattle.vm_course.specs.Stack.{push}
use Rattle.vm_course.specs.Throws.{ends, throw_kind, throw_made, on_result, on_outcome}
use Rattle.vm_course.specs.Step as vm
use Rattle.vm_course.specs.Step.{step, act, on_with, on_and_push, of_native, take_reply}
use Rattle.hog_bridge.proofs.Places.{Seat, Temp, stack_of, lower}
use Rattle.hog_bridge.proofs.Ahead.{left, left_past}
use Rattle.hog_bridge.proofs.Heaps.{AllFuns, Keeps, Fair, FunsKept, thrown_fair, response_fair}
use Rattle.hog_bridge.proofs.Turns.{TurnsGo, Calm, response_calm}
use Rattle.hog_bridge.proofs.Picture.{Given, nothing, Ghost, Twin, meant, built, frame, phi, psi, one_step, two_steps, ahead, stops, FunOk, Under, Ctx, landings, at, Framed, Kept, Run, gives, gives_with}
use Rattle.hog_bridge.proofs.Steps.{spot, on_pic, raised}

-- an operation stands at this place, and what must hold there does
pub record Ready (g : Given) (n d : ℕ) (c : Ctx) (place : ℕ) (L : List Seat) (G : Ghost) (w : World) : Type 0 where
  pub op : Op
  pub at_op : slice_get g.code place ≡ Some (Begins op)
  pub under : Under (suc place) c.own
  pub framed : Framed d c L
  pub kept : Kept g n L G w

-- the value of an expression stands on the stack
pub record ExpAt (g : Given) (n : ℕ) (c : Ctx) (place : ℕ) (L : List Seat) (v : Val) (w : World) (G : Ghost) (s : State) : Type 0 where
  pub is : s ≡ at c place (Temp v ∷ L) G w
  pub kept : Kept g n L G w

-- another heap, in which texts and functions are as before
pub kept_heap : {g : Given} {n : ℕ} {L : List Seat} {G : Ghost} {w : World} (h1 : HeapOf Twin) (units : ℕ) → Kept g n L G w → Keeps G.heap h1 → AllFuns (FunOk g.code G.owners) h1 → Kept g n L (record G { heap = h1 }) (m.with_heap w (heap_map meant h1) units)
kept_heap h1 units k keeps funs = record {
  layout = k.layout;
  owners = k.owners;
  heap = refl;
  funs = funs;
  texts = λ p t e. keeps.texts _ t (k.texts p t e);
  turns = k.turns;
}

-- the place is passed, and no turn comes back
pub passes : (g : Given) (c : Ctx) (p q : ℕ) (L M : List Seat) (G G1 : Ghost) (w w1 : World) {o : Op} → slice_get g.code p ≡ Some (Begins o) → p < q → w.turns ≤ w1.turns → suc (psi g (at c q M G1 w1)) ≤ psi g (at c p L G w)
passes g c p q L M G G1 w w1 is lt le = ahead g p q c.base c.base c.function c.function c.frames (max_turns - w.turns) (max_turns - w1.turns) is lt (omega arith)

module _ (g : Given) (n d : ℕ) (c : Ctx) (place : ℕ) (L : List Seat) (G : Ghost) (w : World) (r : Ready g n d c place L G w) where
  abbrev S : State
  S = at c place L G w

  stop : suc ((phi g.code (frame place c.base c.function ∷ c.frames) + (max_turns - w.turns) * suc (left g.code 0)) - 1) ≤ psi g S
  stop = stops g place c.base c.function c.frames (max_turns - w.turns) r.at_op

  -- the end where a limit is met
  pub spends : {A : Type 0} {P : A → World → Ghost → State → Type 0} (limit : m.Limit) → step g.fixed g.code S ≡ ends (end_of limit) S → Run g n (landings c) S G P (m.Spends limit w)
  spends limit is = record { ends = record { last = ends (end_of limit) S; comes = one_step g S _ is stop; mode = refl; trace = refl } }

  -- a kind is thrown
  pub kind_runs : {A : Type 0} {P : A → World → Ghost → State → Type 0} (kind : Kind) → step g.fixed g.code S ≡ throw_kind kind S → Run g n (landings c) S G P (m.throws kind w)
  unfolding throw_kind m.throws
  kind_runs {A} {P} kind is =
      subst (λ z. Run g n (landings c) S G P (m.thrown_as (m.throw_made w z))) (sym (ap (λ x. thrown kind x w.units) r.kept.heap ∙ thrown-heap_map meant kind G.heap w.units))
      (go (thrown kind G.heap w.units) (thrown_fair (FunOk g.code G.owners) kind G.heap w.units r.kept.funs) (is ∙ ap (throw_made S) (thrown-heap_map built kind G.heap w.units)))
    where
      go : (o : Outcome Twin Val) → Fair (FunOk g.code G.owners) G.heap o → step g.fixed g.code S ≡ throw_made S (outcome_map built o) → Run g n (landings c) S G P (m.thrown_as (m.throw_made w (outcome_map meant o)))
      go (op.Gives v h units) f e = record { ends = raised g n c place L G w v h units r.at_op r.under r.framed f.0 (kept_heap h units r.kept f.0 f.1) e }
      go (op.Throws k) f e = record { ends = record { last = ends end.MemorySpent S; comes = one_step g S _ e stop; mode = refl; trace = refl } }
      go op.Spends f e = record { ends = record { last = ends end.MemorySpent S; comes = one_step g S _ e stop; mode = refl; trace = refl } }

  -- an operation's result, or the kind that it throws
  pub result_runs : {A : Type 0} {P : A → World → Ghost → State → Type 0} (o : Result A Kind) (go : A → State → State) → step g.fixed g.code S ≡ on_result o go S → ((a : A) → (suc (psi g (go a S)) ≤ psi g S) × P a w G (go a S)) → Run g n (landings c) S G P (m.of_result o w)
  result_runs (Ok a) go is k = gives g n (one_step g S _ is (k a).0) (k a).1
  result_runs (Err kind) go is k = kind_runs kind is

  -- an operation on the heap
  pub outcome_runs : {A : Type 0} {P : A → World → Ghost → State → Type 0} (o : Outcome Twin A) (go : A → State → State) → Fair (FunOk g.code G.owners) G.heap o → step g.fixed g.code S ≡ on_outcome (outcome_map built o) go S → ((a : A) (h : HeapOf Twin) (units : ℕ) → Kept g n L (record G { heap = h }) (m.with_heap w (heap_map meant h) units) → (suc (psi g (go a (at c place L (record G { heap = h }) (m.with_heap w (heap_map meant h) units)))) ≤ psi g S) × P a (m.with_heap w (heap_map meant h) units) (record G { heap = h }) (go a (at c place L (record G { heap = h }) (m.with_heap w (heap_map meant h) units)))) → Run g n (landings c) S G P (m.of_outcome (outcome_map meant o) w)
  outcome_runs (op.Gives a h units) go f is k =
      let done = k a h units (kept_heap h units r.kept f.0 f.1) in
      gives_with g n (one_step g S _ is done.0) (record { owners = ([], sym (append-nil G.owners)); heap = f.0 }) done.1
  outcome_runs (op.Throws kind) go f is k = kind_runs kind is
  outcome_runs op.Spends go f is k = spends m.MemorySpent is

-- both sides hold the same, but for what their functions are
pub same_heap : {h : HeapOf m.Closure} (G : HeapOf Twin) → h ≡ heap_map meant G → heap_map (λ x. nothing) (heap_map built G) ≡ heap_map (λ x. nothing) h
same_heap {h} G e = both G ∙ sym (ap (heap_map (λ x. nothing)) e)
  where
    both : (G : HeapOf Twin) → heap_map (λ x. nothing) (heap_map built G) ≡ heap_map (λ x. nothing) (heap_map meant G)
    both [] = refl
    both (c ∷ G) = let one = cell c in let more = both G in cc
      where
        cell : (c : CellOf Twin) → cell_map (λ x. nothing) (cell_map built c) ≡ cell_map (λ x. nothing) (cell_map meant c)
        cell (Text t) = refl
        cell (Array vs) = refl
        cell (Dict ps) = refl
        cell (Fun x) = refl

-- a request waits for its reply, which is then taken in
module _ (g : Given) (n d : ℕ) (c : Ctx) (place : ℕ) (M L : List Seat) (G : Ghost) (w : World) (r : Ready g n d c place (M ++ L) G w) (behind : ℕ) (after : place < behind) where
  abbrev S1 : State
  S1 = at c place (M ++ L) G w

  abbrev here : vm.Here
  here = spot c place behind

  abbrev rest : List Val
  rest = stack_of w.store L

  -- a value with another meter
  native_gives : (v : Val) (h : HeapOf Twin) (s : Spent) → Keeps G.heap h → AllFuns (FunOk g.code G.owners) h → w.turns ≤ s.turns → step g.fixed g.code S1 ≡ of_native here rest (native.Gives v (heap_map built h) s) S1 → Run g n (landings c) S1 G (ExpAt g n c behind L) (e.of_native (native.Gives v (heap_map meant h) s) w)
  native_gives v h s keeps funs le is =
      let G1 : Ghost = record G { heap = h } in
      let w1 : World = e.with_spent s (m.with_heap w (heap_map meant h) s.units) in
      let k = r.kept in
      let kept : Kept g n L G1 w1 = record {
        layout = lower (length w.store) M L k.layout;
        owners = k.owners;
        heap = refl;
        funs = funs;
        texts = λ p t q. keeps.texts _ t (k.texts p t q);
        turns = omega (arith, k.turns);
      } in
      gives_with g n (one_step g S1 (at c behind (Temp v ∷ L) G1 w1) (is ∙ ap (push v) (on_pic c place behind M L G1 w1 k.layout)) (passes g c place behind (M ++ L) (Temp v ∷ L) G G1 w w1 r.at_op after le))
      (record { owners = ([], sym (append-nil G.owners)); heap = keeps }) (record { is = refl; kept = kept })

  -- a text is printed
  native_prints : (text : List ℕ) (s : Spent) → w.turns ≤ s.turns → step g.fixed g.code S1 ≡ of_native here rest (native.Prints text s) S1 → Run g n (landings c) S1 G (ExpAt g n c behind L) (e.of_native (native.Prints text s) w)
  native_prints text s le is =
      let w1 : World = m.said (Printed text) (e.with_spent s w) in
      let k = r.kept in
      let kept : Kept g n L G w1 = record {
        layout = lower (length w.store) M L k.layout;
        owners = k.owners;
        heap = k.heap;
        funs = k.funs;
        texts = k.texts;
        turns = omega (arith, k.turns);
      } in
      gives g n (one_step g S1 (at c behind (Temp Null ∷ L) G w1) (is ∙ ap (push Null) (on_pic c place behind M L G w1 k.layout)) (passes g c place behind (M ++ L) (Temp Null ∷ L) G G w w1 r.at_op after le))
      (record { is = refl; kept = kept })

  module _ (request : Request) (s : Spent) (lt : w.turns < s.turns) (le : s.turns ≤ max_turns) (is : step g.fixed g.code S1 ≡ of_native here rest (native.Asks request s) S1) where
    abbrev asked : World
    asked = m.said (Asked request) (e.with_spent s w)

    abbrev waiting : State
    waiting = record (at c behind L G asked) { mode = Waiting }

    first : step g.fixed g.code S1 ≡ waiting
    first = is ∙ ap (λ (z : State). record z { mode = Waiting }) (on_pic c place behind M L G asked r.kept.layout)

    -- two operations at least are paid
    double : (q : ℕ) → q ≤ left g.code behind + phi g.code c.frames + (max_turns - s.turns) * suc (left g.code 0) → suc (suc q) ≤ psi g S1
    double q h =
        let p = left_past g.code place behind r.op r.at_op after in
        let t : (max_turns - w.turns) ≡ (max_turns - s.turns) + suc ((s.turns - w.turns) - 1) = omega arith in
        let u = ap (λ x. x * suc (left g.code 0)) t in
        let v : ((max_turns - s.turns) + suc ((s.turns - w.turns) - 1)) * suc (left g.code 0) ≡ (max_turns - s.turns) * suc (left g.code 0) + ((s.turns - w.turns) - 1) * suc (left g.code 0) + suc (left g.code 0) = omega arith in
        omega (arith, p, u, v, h)

    replied_runs : (rs : List Reply) → w.replies ≡ rs → Run g n (landings c) S1 G (ExpAt g n c behind L) (e.replied rs asked)
    replied_runs [] none = record {
      ends = record {
        last = waiting;
        comes = one_step g S1 waiting first (let q = double (psi g waiting) (omega arith) in omega (arith, q));
        mode = refl;
        none = none;
        trace = refl;
        turns = refl;
        units = refl;
        heap = same_heap G.heap r.kept.heap;
      };
    }
    replied_runs (y ∷ ys) some =
        subst (λ z. Run g n (landings c) S1 G (ExpAt g n c behind L) (m.of_outcome z (record asked { replies = ys }))) (sym (ap (λ x. response y.status y.body x s.units) r.kept.heap ∙ response-heap_map meant y.status y.body G.heap s.units))
        (go (response y.status y.body G.heap s.units) (response_fair (FunOk g.code G.owners) y.status y.body G.heap s.units r.kept.funs) (response_calm y.status y.body G.heap s.units)
        (ap (λ x. take_reply x waiting) some ∙ ap (λ o. on_outcome o (λ v s1. push v (record s1 { replies = ys; mode = Running })) waiting) (response-heap_map built y.status y.body G.heap s.units)))
      where
        go : (o : Outcome Twin Val) → Fair (FunOk g.code G.owners) G.heap o → Calm o → step g.fixed g.code waiting ≡ on_outcome (outcome_map built o) (λ v s1. push v (record s1 { replies = ys; mode = Running })) waiting → Run g n (landings c) S1 G (ExpAt g n c behind L) (m.of_outcome (outcome_map meant o) (record asked { replies = ys }))
        go (op.Gives v h units) f calm second =
            let G1 : Ghost = record G { heap = h } in
            let w1 : World = m.with_heap (record asked { replies = ys }) (heap_map meant h) units in
            let k = r.kept in
            let kept : Kept g n L G1 w1 = record {
              layout = lower (length w.store) M L k.layout;
              owners = k.owners;
              heap = refl;
              funs = f.1;
              texts = λ p t q. f.0.texts _ t (k.texts p t q);
              turns = omega (arith, k.turns);
            } in
            gives_with g n (two_steps g S1 waiting (at c behind (Temp v ∷ L) G1 w1) first second (let q = double (psi g waiting) (omega arith) in omega (arith, q)) (double _ (omega arith)))
            (record { owners = ([], sym (append-nil G.owners)); heap = f.0 }) (record { is = refl; kept = kept })
        go (op.Throws kind) f calm second = absurd calm
        go op.Spends f calm second = record { ends = record { last = ends end.MemorySpent waiting; comes = two_steps g S1 waiting _ first second (let q = double (psi g waiting) (omega arith) in omega (arith, q)) (double _ (omega arith)); mode = refl; trace = refl } }

  -- what comes of a native
  pub native_runs : (o : native.Called Twin) → ((v : Val) (h : HeapOf Twin) (s : Spent) → o ≡ native.Gives v h s → Keeps G.heap h) → FunsKept (FunOk g.code G.owners) o → TurnsGo w.turns o → step g.fixed g.code S1 ≡ of_native here rest (native.called_map built o) S1 → Run g n (landings c) S1 G (ExpAt g n c behind L) (e.of_native (native.called_map meant o) w)
  native_runs (native.Gives v h s) keeps funs le is = native_gives v h s (keeps v h s refl) funs le is
  native_runs (native.Prints text s) keeps funs le is = native_prints text s le is
  native_runs (native.Throws kind) keeps funs le is = kind_runs g n d c place (M ++ L) G w r kind is
  native_runs (native.Asks request s) keeps funs le is = replied_runs request s le.0 le.1 is w.replies refl
  native_runs native.TurnsSpent keeps funs le is = spends g n d c place (M ++ L) G w r m.TurnsSpent is
  native_runs native.UnitsSpent keeps funs le is = spends g n d c place (M ++ L) G w r m.MemorySpent is
