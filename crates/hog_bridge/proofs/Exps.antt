-- Operations of expressions on the picture.
use Rattle.std.proofs.Common.{◌≡◌, ℕ, zero, suc, ◌<◌, ◌≤◌, List, [], ◌∷◌, ◌++◌, length, Option, Some, None, Result, refl, sym, ap, ◌∙◌, subst, arith}
use Rattle.std.specs.Prelude.{slice_get}
use Rattle.hog_value.specs.declared.value.Kind.{Kind}
use Rattle.hog_value.specs.Values.{Val}
use Rattle.hog_value.specs.Cells.{HeapOf, heap_map}
use Rattle.hog_value.specs.Operations.{Outcome, outcome_map}
use Rattle.hog_tree.specs.Plain.{Word}
use Rattle.hog_captures.specs.Frames as names
use Rattle.hog_captures.specs.Frames.{find_local, find_up}
use Rattle.hog_meaning.specs.World.{Env, World, Got, Gives, and_then, find_var, read_var}
use Rattle.hog_meaning.specs.World as m
use Rattle.hog_ops.specs.Plain.{Op}
use Rattle.vm_course.specs.State.{Begins, State}
use Rattle.vm_course.specs.Stack.{push}
use Rattle.vm_course.specs.Throws.{on_result, on_outcome}
use Rattle.vm_course.specs.Step as vm
use Rattle.vm_course.specs.Step.{step, act, on_with, on_and_push, property_path, global_of, get_global, spent_by, call_global}
use Rattle.hog_bridge.proofs.Places.{Seat, Temp, stack_of, lower, temps, distinct_temps}
use Rattle.hog_bridge.proofs.Heaps.{Keeps, Fair}
use Rattle.hog_bridge.proofs.Picture.{Given, Ghost, Twin, meant, built, Landing, psi, Comes, one_step, FunOk, CapturedIs, Under, under_less, UpSees, SeesWord, Sees, Ctx, landings, at, Kept, Fits, Extends, Run, run_then, gives}
use Rattle.hog_bridge.proofs.Steps.{spot, on_pic, kept_on}
use Rattle.hog_bridge.proofs.Parts.{Ready, ExpAt, passes, result_runs, outcome_runs}

-- later in the same frame

pub get_more : {A : Type 0} (xs more : List A) (u : ℕ) (x : A) → slice_get xs u ≡ Some x → slice_get (xs ++ more) u ≡ Some x
get_more [] more u x e = absurd (cc)
get_more (y ∷ xs) more zero x e = e
get_more (y ∷ xs) more (suc u) x e = get_more xs more u x e

pub up_sees_on : (j v : Option ℕ) (captured owners more : List ℕ) → UpSees j v captured owners → UpSees j v captured (owners ++ more)
up_sees_on None None captured owners more h = h
up_sees_on (Some j) (Some x) captured owners more h = (h.0, h.1, get_more owners more h.0 x h.2)
up_sees_on None (Some x) captured owners more h = h
up_sees_on (Some j) None captured owners more h = h

pub sees_on : (ws : List Word) (fr : names.Frame) (ρ : Env) (base : ℕ) (captured : List ℕ) (L : List Seat) (owners more : List ℕ) → Sees ws fr ρ base captured L owners → Sees ws fr ρ base captured L (owners ++ more)
sees_on ws fr ρ base captured L owners more h x i = go (find_local fr.locals x) (find_up fr.ups x) (find_var ρ x) (h x i)
  where
    go : (l u v : Option ℕ) → SeesWord l u v base captured L owners → SeesWord l u v base captured L (owners ++ more)
    go (Some i) u (Some y) e = e
    go (Some i) u None e = e
    go None u v e = up_sees_on u v captured owners more e

pub captured_on : (fn : Option ℕ) (captured : List ℕ) (h h1 : HeapOf Twin) → Keeps h h1 → CapturedIs fn captured h → CapturedIs fn captured h1
captured_on None captured h h1 k e = e
captured_on (Some n) captured h h1 k e = (e.0, k.funs n e.0 e.1, e.2)

pub fits_on : {g : Given} {n d : ℕ} {c : Ctx} {ρ : Env} {L : List Seat} {G G1 : Ghost} {w w1 : World} → Fits g n d c ρ L G w → Extends G G1 → Kept g n L G1 w1 → Fits g n d c ρ L G1 w1
fits_on {c = c} {ρ = ρ} {L = L} {G = G} {G1 = G1} h x k = record {
  kept = k;
  framed = h.framed;
  sees = subst (Sees c.words c.scope ρ c.base c.captured L) (sym x.owners.1) (sees_on c.words c.scope ρ c.base c.captured L G.owners x.owners.0 h.sees);
  captured = captured_on c.function c.captured G.heap G1.heap x.heap h.captured;
  sight = h.sight;
}

pub kept_temps : {g : Given} {n : ℕ} (vs : List Val) (L : List Seat) {G : Ghost} {w : World} → Kept g n (temps vs L) G w → Kept g n L G w
kept_temps vs L {G} {w} k = kept_on L k (distinct_temps (length w.store) vs L k.layout)

-- the values of expressions in order stand on the stack
pub record ExpsAt (g : Given) (n : ℕ) (c : Ctx) (place m : ℕ) (L : List Seat) (vs : List Val) (w : World) (G : Ghost) (s : State) : Type 0 where
  pub many : length vs ≡ m
  pub is : s ≡ at c place (temps vs L) G w
  pub kept : Kept g n L G w

module _ (g : Given) (n : ℕ) where
  pub exp_then : {B : Type 0} {c : Ctx} {place : ℕ} {L : List Seat} {ls : List Landing} {s : State} {G : Ghost} {P2 : B → World → Ghost → State → Type 0} {o : Got Val} {go : Val → World → Got B} → Run g n ls s G (ExpAt g n c place L) o → ((v : Val) (w : World) (G1 : Ghost) → Extends G G1 → Kept g n L G1 w → Run g n ls (at c place (Temp v ∷ L) G1 w) G1 P2 (go v w)) → Run g n ls s G P2 (and_then o go)
  exp_then {B} {c} {place} {L} {ls} {s} {G} {P2} {o} {go} r k =
      run_then g n r (λ v w G1 s1 x p. subst (λ (z : State). Run g n ls z G1 P2 (go v w)) (sym p.is) (k v w G1 x p.kept))

  pub exps_then : {B : Type 0} {c : Ctx} {place m : ℕ} {L : List Seat} {ls : List Landing} {s : State} {G : Ghost} {P2 : B → World → Ghost → State → Type 0} {o : Got (List Val)} {go : List Val → World → Got B} → Run g n ls s G (ExpsAt g n c place m L) o → ((vs : List Val) (w : World) (G1 : Ghost) → Extends G G1 → Kept g n L G1 w → length vs ≡ m → Run g n ls (at c place (temps vs L) G1 w) G1 P2 (go vs w)) → Run g n ls s G P2 (and_then o go)
  exps_then {B} {c} {place} {m} {L} {ls} {s} {G} {P2} {o} {go} r k =
      run_then g n r (λ v w G1 s1 x p. subst (λ (z : State). Run g n ls z G1 P2 (go v w)) (sym p.is) (k v w G1 x p.kept p.many))

  -- the place behind, by another name
  pub ending : {c : Ctx} {place place' : ℕ} {L : List Seat} {ls : List Landing} {s : State} {G : Ghost} {o : Got Val} → place ≡ place' → Run g n ls s G (ExpAt g n c place L) o → Run g n ls s G (ExpAt g n c place' L) o
  ending {c} {place} {place'} {L} {ls} {s} {G} {o} e r = subst (λ q. Run g n ls s G (ExpAt g n c q L) o) e r

-- one operation, by what it leaves on the stack
module _ (g : Given) (n d : ℕ) (c : Ctx) (place : ℕ) (M L : List Seat) (G : Ghost) (w : World) (r : Ready g n d c place (M ++ L) G w) (behind : ℕ) (after : place < behind) where
  abbrev S : State
  S = at c place (M ++ L) G w

  abbrev here : vm.Here
  here = spot c place behind

  abbrev rest : List Val
  rest = stack_of w.store L

  kept_rest : Kept g n L G w
  kept_rest = kept_on L r.kept (lower (length w.store) M L r.kept.layout)

  -- it goes to a value
  pub value_step : (v : Val) → step g.fixed g.code S ≡ on_and_push here rest v S → Comes g S (at c behind (Temp v ∷ L) G w)
  value_step v is =
      one_step g S _ (is ∙ ap (push v) (on_pic c place behind M L G w r.kept.layout)) (passes g c place behind (M ++ L) (Temp v ∷ L) G G w w r.at_op after (omega arith))

  pub value_runs : (v : Val) → step g.fixed g.code S ≡ on_and_push here rest v S → Run g n (landings c) S G (ExpAt g n c behind L) (Gives v w)
  value_runs v is = gives g n (value_step v is) (record { is = refl; kept = kept_rest })

  -- it goes on with what is left
  pub rest_step : step g.fixed g.code S ≡ on_with here rest S → Comes g S (at c behind L G w)
  rest_step is = one_step g S _ (is ∙ on_pic c place behind M L G w r.kept.layout) (passes g c place behind (M ++ L) L G G w w r.at_op after (omega arith))

  pub value_result : (o : Result Val Kind) → step g.fixed g.code S ≡ on_result o (on_and_push here rest) S → Run g n (landings c) S G (ExpAt g n c behind L) (m.of_result o w)
  value_result o is = result_runs g n d c place (M ++ L) G w r o (on_and_push here rest) is
      (λ v. let q = ap (push v) (on_pic c place behind M L G w r.kept.layout) in
      (subst (λ z. suc (psi g z) ≤ psi g S) (sym q) (passes g c place behind (M ++ L) (Temp v ∷ L) G G w w r.at_op after (omega arith)), record { is = q; kept = kept_rest }))

  pub value_outcome : (o : Outcome Twin Val) → Fair (FunOk g.code G.owners) G.heap o → step g.fixed g.code S ≡ on_outcome (outcome_map built o) (on_and_push here rest) S → Run g n (landings c) S G (ExpAt g n c behind L) (m.of_outcome (outcome_map meant o) w)
  value_outcome o f is = outcome_runs g n d c place (M ++ L) G w r o (on_and_push here rest) f is
      (λ v h units k.
      let G1 : Ghost = record G { heap = h } in
      let w1 : World = m.with_heap w (heap_map meant h) units in
      let q = ap (push v) (on_pic c place behind M L G1 w1 k.layout) in (
        subst (λ z. suc (psi g z) ≤ psi g S) (sym q) (passes g c place behind (M ++ L) (Temp v ∷ L) G G1 w w1 r.at_op after (omega arith)),
        record { is = q; kept = kept_on L k (lower (length w.store) M L k.layout) },
      ))

-- a value is pushed
module _ (g : Given) (n d : ℕ) (c : Ctx) (place : ℕ) (L : List Seat) (G : Ghost) (w : World) where
  pub ready : {ρ : Env} {op : Op} {q : ℕ} → slice_get g.code place ≡ Some (Begins op) → place < q → Under q c.own → Fits g n d c ρ L G w → Ready g n d c place L G w
  ready {ρ} {op} {q} at_op lt u h = record { op = op; at_op = at_op; under = under_less c.own (omega arith) u; framed = h.framed; kept = h.kept }
