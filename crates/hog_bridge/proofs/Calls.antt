-- Calls and new functions.
use Rattle.std.proofs.Common.{◌≡◌, ℕ, zero, suc, ◌+◌, ◌-◌, ◌<◌, ◌≤◌, List, [], ◌∷◌, ◌++◌, length, replicate, Option, Some, Bool, true, false, cond, refl, sym, ap, ◌∙◌, subst, inl, inr, arith, append_assoc}
use Rattle.std.specs.Prelude.{◌*◌, nat_le, option_and_then, slice_get}
use Rattle.hog_value.specs.declared.cell.FunCell.{FunCell}
use Rattle.hog_value.specs.Values.{Val}
use Rattle.hog_value.specs.declared.value.Value.TheVariants.{Null, Ref}
use Rattle.hog_value.specs.Meters.{max_turns, max_units}
use Rattle.hog_value.specs.Cells.{CellOf, Fun, HeapOf, heap_map, cost_of_cell}
use Rattle.hog_value.specs.Operations as op
use Rattle.hog_value.specs.Operations.{Outcome, outcome_map, made}
use Rattle.hog_value.proofs.Naturality.{made-heap_map}
use Rattle.hog_tree.specs.Plain.{Word, Body}
use Rattle.hog_captures.specs.Frees.{without_all, body_frees}
use Rattle.hog_captures.specs.Frames.{captured_of, captures_of, inner_frame, with_params}
use Rattle.hog_compiler.specs.Code.{body_code}
use Rattle.hog_meaning.specs.World.{Env, Closure, World, Got, Gives, and_then, Flow, GoesOn, Returns, find_var, declare, named}
use Rattle.hog_meaning.specs.World as m
use Rattle.hog_meaning.specs.Meaning.{bind}
use Rattle.hog_ops.specs.declared.capture.Capture.{Capture}
use Rattle.hog_ops.specs.Plain as o
use Rattle.hog_ops.specs.Plain.{Op, Ops}
use Rattle.hog_ops.specs.Table.{size}
use Rattle.vm_course.specs.State.{Begins, Frame, State, header, params_in, params_at}
use Rattle.vm_course.specs.Stack.{push, capture_all}
use Rattle.vm_course.specs.Throws.{on_outcome}
use Rattle.vm_course.specs.Step.{step, act, on_and_push}
use Rattle.hog_bridge.proofs.Words.{Sub, onto}
use Rattle.hog_bridge.proofs.Resolved.{BodyOk, sight_of}
use Rattle.hog_bridge.proofs.Places.{Seat, Temp, Var, place_of, up_of, stack_of, ups_of, length-stack, temps}
use Rattle.hog_bridge.proofs.Ahead.{HasAt}
use Rattle.hog_bridge.proofs.Heaps.{keeps_append, all_append}
use Rattle.hog_bridge.proofs.Picture.{Given, Ghost, Twin, meant, built, Landing, frame, pic, one_step, FunOk, Under, FrameIn, Lands, Ctx, landings, at, OwnLands, OuterLands, Kept, Fits, Sees, Run}
use Rattle.hog_bridge.proofs.Steps.{spot, on_pic, op_is}
use Rattle.hog_bridge.proofs.Parts.{ExpAt, passes, spends}
use Rattle.hog_bridge.proofs.Lookups.{captured_is}
use Rattle.hog_bridge.proofs.Operators.{ready_with}
use Rattle.hog_bridge.proofs.Writes.{becomes, kept_new, sees_local}
use Rattle.hog_bridge.proofs.Captures.{take_all, taken_sees, known_names, funs_on}

-- the missing arguments are null
abbrev pub pad : List Word → List Val → List Val
pad [] vs = vs
pad (p ∷ ps) [] = Null ∷ pad ps []
pad (p ∷ ps) (v ∷ vs) = v ∷ pad ps vs

pub bind_pad : (ps : List Word) (vs : List Val) (ρ : Env) (w : World) → bind ps vs ρ w ≡ bind ps (pad ps vs) ρ w
bind_pad [] vs ρ w = refl
bind_pad (p ∷ ps) [] ρ w = bind_pad ps [] _ _
bind_pad (p ∷ ps) (v ∷ vs) ρ w = bind_pad ps vs _ _

pub length-pad : (ps : List Word) (vs : List Val) → length vs ≤ length ps → length (pad ps vs) ≡ length ps
length-pad [] vs h = omega arith
length-pad (p ∷ ps) [] h = ap suc (length-pad ps [] (omega arith))
length-pad (p ∷ ps) (v ∷ vs) h = ap suc (length-pad ps vs (omega arith))

replicate_seam : (j : ℕ) (x : Val) (xs : List Val) → replicate j x ++ (x ∷ xs) ≡ x ∷ (replicate j x ++ xs)
replicate_seam zero x xs = refl
replicate_seam (suc j) x xs = ap (λ ys. x ∷ ys) (replicate_seam j x xs)

pub stack_pad : (ps : List Word) (vs : List Val) (store : List Val) (L : List Seat) → length vs ≤ length ps → stack_of store (temps (pad ps vs) L) ≡ replicate (length ps - length vs) Null ++ stack_of store (temps vs L)
stack_pad [] [] store L h = refl
stack_pad [] (v ∷ vs) store L h = absurd (omega arith)
stack_pad (p ∷ ps) [] store L h =
    let e1 : length ps - 0 ≡ length ps = omega arith in
    let e2 : length (p ∷ ps) - 0 ≡ suc (length ps) = omega arith in
    stack_pad ps [] store (Temp Null ∷ L) (omega arith)
    ∙ ap (λ j. replicate j Null ++ (Null ∷ stack_of store L)) e1
    ∙ replicate_seam (length ps) Null (stack_of store L)
    ∙ ap (λ j. replicate j Null ++ stack_of store L) (sym e2)
stack_pad (p ∷ ps) (v ∷ vs) store L h =
    let e : length ps - length vs ≡ length (p ∷ ps) - length (v ∷ vs) = omega arith in
    stack_pad ps vs store (Temp v ∷ L) (omega arith) ∙ ap (λ j. replicate j Null ++ stack_of store (temps vs (Temp v ∷ L))) e

place_over : (vs : List Val) (L : List Seat) (x : ℕ) → place_of (temps vs L) x ≡ place_of L x
place_over [] L x = refl
place_over (v ∷ vs) L x = place_over vs (Temp v ∷ L) x

pub ups_over : (vs us : List Val) (store : List Val) (L : List Seat) (owners : List ℕ) → ups_of (temps vs L) store owners ≡ ups_of (temps us L) store owners
ups_over vs us store L [] = refl
ups_over vs us store L (o ∷ os) =
    let a = place_over vs L o ∙ sym (place_over us L o) in
    let b = ups_over vs us store L os in
    let c : up_of (temps vs L) store o ≡ up_of (temps us L) store o = rw a refl in
    cc

-- the arguments become the callee's variables
pub record Bounded (g : Given) (n : ℕ) (ups : List Word) (base : ℕ) (captured : List ℕ) (acc : List (Option Word)) (words : List Word) (L : List Seat) (G : Ghost) (ρ : Env) (w : World) : Type 0 where
  pub kept : Kept g n L G w
  pub sees : Sees words (record { locals = acc; ups = ups }) ρ base captured L G.owners
  pub full : length L ≡ base + length acc

pub bind_sight : (ps : List Word) (vs : List Val) (ρ : Env) (w : World) → sight_of (bind ps vs ρ w).0 ≡ onto ps (sight_of ρ)
bind_sight [] vs ρ w = refl
bind_sight (p ∷ ps) [] ρ w = bind_sight ps [] _ _
bind_sight (p ∷ ps) (v ∷ vs) ρ w = bind_sight ps vs _ _

pub bind_runs : (g : Given) (n : ℕ) (ups : List Word) (base : ℕ) (captured : List ℕ) (fs : List Frame) (ls : List Landing) (ps : List Word) (vs : List Val) (acc : List (Option Word)) (words : List Word) (L : List Seat) (G : Ghost) (ρ : Env) (w : World) → length vs ≡ length ps → Bounded g n ups base captured acc words L G ρ w → (N : List Seat) × (pic fs ls (temps vs L) G w ≡ pic fs ls (N ++ L) G (bind ps vs ρ w).1) × Bounded g n ups base captured (with_params ps acc) (onto ps words) (N ++ L) G (bind ps vs ρ w).0 (bind ps vs ρ w).1
bind_runs g n ups base captured fs ls [] [] acc words L G ρ w e k = ([], refl, k)
bind_runs g n ups base captured fs ls [] (v ∷ vs) acc words L G ρ w e k = absurd (cc)
bind_runs g n ups base captured fs ls (p ∷ ps) [] acc words L G ρ w e k = absurd (cc)
bind_runs g n ups base captured fs ls (p ∷ ps) (v ∷ vs) acc words L G ρ w e k =
    let var = length w.store in
    let k1 : Bounded g n ups base captured (Some p ∷ acc) (p ∷ words) (Var var ∷ L) G (named p w ρ) (declare v w) = record {
      kept = kept_new v L w k.kept;
      sees = sees_local words (record { locals = acc; ups = ups }) ρ base captured p var L G.owners k.full k.sees;
      full = omega (arith, k.full);
    } in
    let more = bind_runs g n ups base captured fs ls ps vs (Some p ∷ acc) (p ∷ words) (Var var ∷ L) G (named p w ρ) (declare v w) (omega arith) k1 in
    let both = append_one more.0 (Var var) L in
    let end = bind ps vs (named p w ρ) (declare v w) in (
      more.0 ++ Var var ∷ [],
      becomes fs ls vs v L G w k.kept.layout k.kept.owners ∙ more.1 ∙ ap (λ M. pic fs ls M G end.1) both,
      subst (λ M. Bounded g n ups base captured (with_params ps (Some p ∷ acc)) (onto ps (p ∷ words)) M G end.0 end.1) both more.2,
    )
  where
    append_one : (N : List Seat) (x : Seat) (L : List Seat) → N ++ (x ∷ L) ≡ (N ++ x ∷ []) ++ L
    append_one [] x L = refl
    append_one (y ∷ N) x L = ap (λ ys. y ∷ ys) (append_one N x L)

-- a callee's frame stands on its caller's
pub lands_enter : (base base2 : ℕ) (fn fn2 : Option ℕ) (place : ℕ) (fs : List Frame) (N L : List Seat) (own outer : List Landing) → Under place own → OuterLands (length fs) outer → Lands base fn fs L (own ++ outer) → Lands base2 fn2 (frame place base fn ∷ fs) (N ++ L) (own ++ outer)
lands_enter base base2 fn fn2 place fs N L own outer u o h = go own outer u o h
  where
    frame_in : (l : Landing) → (l.frames ≡ fs → place ≤ l.target) → FrameIn l base fn fs → FrameIn l base2 fn2 (frame place base fn ∷ fs)
    frame_in l q (inl k) = inr ([], place, ap (λ b. frame place b fn ∷ fs) (sym k.0) ∙ ap (λ u. frame place l.base u ∷ fs) (sym k.1) ∙ ap (λ gs. frame place l.base l.function ∷ gs) (sym k.2), q k.2)
    frame_in l q (inr k) = inr (frame place base fn ∷ k.0, k.1, ap (λ gs. frame place base fn ∷ gs) k.2, k.3)

    top : (l : Landing) (ls : List Landing) → (l.frames ≡ fs → place ≤ l.target) → Lands base fn fs L (l ∷ ls) → Lands base2 fn2 (frame place base fn ∷ fs) (N ++ L) (l ∷ ls)
    top l ls q h = (frame_in l q h.0, (N ++ h.1.0, ap (λ M. N ++ M) h.1.1 ∙ sym (append_assoc N h.1.0 l.layout)), h.2)

    go : (own outer : List Landing) → Under place own → OuterLands (length fs) outer → Lands base fn fs L (own ++ outer) → Lands base2 fn2 (frame place base fn ∷ fs) (N ++ L) (own ++ outer)
    go [] [] u o h = h
    go [] (l ∷ ls) u o h = top l ls (λ same. let m = ap (length {A = Frame}) same in let o2 = o in absurd (omega arith)) h
    go (l ∷ own) outer u o h = top l (own ++ outer) (λ same. u) h

pub outer_enter : (m : ℕ) (own outer : List Landing) → OwnLands m own → OuterLands m outer → OuterLands (suc m) (own ++ outer)
outer_enter m [] [] o u = tt
outer_enter m [] (l ∷ ls) o u = let h = u in omega (arith, h)
outer_enter m (l ∷ own) outer o u = omega (arith, o.0)

-- making a cell gives it, or its charge doesn't fit
pub made_either : {F : Type 0} (c : CellOf F) (h : HeapOf F) (units : ℕ) (Q : Outcome F Val → Type 0) → Q (op.Gives (Ref (length h)) (h ++ c ∷ []) (units + cost_of_cell c)) → Q op.Spends → Q (made c h units)
unfolding made
made_either c h units Q gave spent = go (nat_le (units + cost_of_cell c) max_units)
  where
    go : (b : Bool) → Q (cond b (op.Gives (Ref (length h)) (h ++ c ∷ []) (units + cost_of_cell c)) op.Spends)
    go true = gave
    go false = spent

-- one turn less is left
pub turn_less : (t k : ℕ) → t < max_turns → (max_turns - t) * suc k ≡ (max_turns - (t + 1)) * suc k + suc k
turn_less t k lt =
    let e : max_turns - t ≡ suc (max_turns - (t + 1)) = omega arith in
    ap (λ x. x * suc k) e ∙ omega arith

module _ (g : Given) (n d : ℕ) where
  -- the parameters of a function by the place of its body
  pub params_found : (place : ℕ) (name : List ℕ) (params : ℕ) (body : Ops) (captures : List Capture) → slice_get g.code place ≡ Some (Begins (o.Callable name params body captures)) → params_at g.code (place + header) ≡ Some params
  params_found place name params body captures is =
      let e : (place + header) - header ≡ place = omega arith in
      ap (λ p. option_and_then params_in (slice_get g.code p)) e ∙ ap (option_and_then params_in) is

  -- a function without a name
  pub lambda_runs : (c : Ctx) (ρ : Env) (place q : ℕ) (L : List Seat) (name : List ℕ) (ps : List Word) (b : Body) (G : Ghost) (w : World) → (let words = without_all ps (body_frees b) in let xs = captured_of c.scope words in let code = o.Callable name (length ps) (body_code (inner_frame ps xs) b) (captures_of c.scope xs) in (slice_get g.code place ≡ Some (Begins code)) × HasAt g.code (place + header) (body_code (inner_frame ps xs) b) × (place + size code ≡ q) × (place < q)) → Sub (without_all ps (body_frees b)) c.words → BodyOk (onto ps c.sight) b → Fits g n d c ρ L G w → Under q c.own → Run g n (landings c) (at c place L G w) G (ExpAt g n c q L) (m.of_outcome (made (Fun (record { params = ps; body = b; env = ρ })) w.heap w.units) w)
  unfolding act
  lambda_runs c ρ place q L name ps b G w has sub good h u =
      let fr = c.scope in
      let words = without_all ps (body_frees b) in
      let xs = captured_of fr words in
      let caps = captures_of fr xs in
      let body = body_code (inner_frame ps xs) b in
      let code = o.Callable name (length ps) body caps in
      let f = frame place c.base c.function in
      let S : State = at c place L G w in
      let height = suc (length (stack_of w.store L)) in
      let high : length L ≤ height = omega (arith, length-stack w.store L) in
      let got = capture_all height f c.captured caps (ups_of L w.store G.owners) in
      let t = take_all w.store L f c.captured height high fr ρ c.words xs G.owners h.sees h.kept.layout h.kept.owners (known_names w.store L f c.captured height high fr ρ c.words words sub) in
      let cell : FunCell = record { place = place + header; captured = got.0 } in
      let fun : Closure = record { params = ps; body = b; env = ρ } in
      let ok : FunOk g.code (G.owners ++ t.more) (fun, cell) = record {
        ups = xs;
        code_at = has.1;
        params = params_found place name (length ps) body caps has.0;
        calls = subst (λ V. BodyOk (onto ps V) b) (sym h.sight) good;
        sees = taken_sees w.store L f c.captured height high fr ρ c.words words G.owners got sub h.sees t;
      } in
      let go_on : Val → State → State = λ v s1. record (on_and_push (spot c place (place + size code)) s1.stack v s1) { upvalues = got.1 } in
      let acts : step g.fixed g.code S ≡ on_outcome (outcome_map built (made (Fun (fun, cell)) G.heap w.units)) go_on S =
      op_is g code c place L G w has.0
      ∙ ap (λ captured. let numbers = capture_all height f captured caps (ups_of L w.store G.owners) in
      on_outcome (made (Fun (record { place = place + header; captured = numbers.0 })) (heap_map built G.heap) w.units) (λ v s1. record (on_and_push (spot c place (place + size code)) s1.stack v s1) { upvalues = numbers.1 }) S) (captured_is g n d c place L G w c.function c.captured h.captured)
      ∙ ap (λ z. on_outcome z go_on S) (made-heap_map built (Fun (fun, cell)) G.heap w.units) in
      let one : made (Fun fun) w.heap w.units ≡ outcome_map meant (made (Fun (fun, cell)) G.heap w.units) = ap (λ z. made (Fun fun) z w.units) h.kept.heap ∙ made-heap_map meant (Fun (fun, cell)) G.heap w.units in
      let twin : CellOf Twin = Fun (fun, cell) in
      let units = w.units + cost_of_cell twin in
      let h1 = G.heap ++ twin ∷ [] in
      let v = Ref (length G.heap) in
      let G1 : Ghost = record { owners = G.owners ++ t.more; heap = h1 } in
      let w1 : World = m.with_heap w (heap_map meant h1) units in
      let behind = place + size code in
      let keeps = keeps_append G.heap (twin ∷ []) in
      let k = h.kept in
      let kept : Kept g n L G1 w1 = record {
        layout = k.layout;
        owners = t.owned;
        heap = refl;
        turns = k.turns;
        texts = λ p t x. keeps.texts _ t (k.texts p t x);
        funs = all_append (FunOk g.code (G.owners ++ t.more)) G.heap (twin ∷ []) (funs_on g.code G.owners t.more G.heap k.funs) (ok, tt);
      } in
      subst (λ z. Run g n (landings c) S G (ExpAt g n c q L) (m.of_outcome z w)) (sym one)
      (made_either twin G.heap w.units (λ (z : Outcome Twin Val). step g.fixed g.code S ≡ on_outcome (outcome_map built z) go_on S → Run g n (landings c) S G (ExpAt g n c q L) (m.of_outcome (outcome_map meant z) w))
      (λ acts1.
      let done = acts1 ∙ ap (λ (z : State). record (push v z) { upvalues = got.1 }) (on_pic c place behind [] L (record G { heap = h1 }) w1 k.layout)
      ∙ ap (λ us. record (at c behind (Temp v ∷ L) G1 w1) { upvalues = us }) t.is in
      record {
        ends = record {
          last = at c behind (Temp v ∷ L) G1 w1;
          ghost' = G1;
          comes = one_step g S (at c behind (Temp v ∷ L) G1 w1) done (passes g c place behind L (Temp v ∷ L) G G1 w w1 has.0 (omega (arith, has.2, has.3)) (omega arith));
          extends = record { owners = (t.more, refl); heap = keeps };
          holds = record { is = ap (λ p. at c p (Temp v ∷ L) G1 w1) has.2; kept = kept };
        };
      })
      (λ acts1. spends g n d c place L G w (ready_with has.0 (omega (arith, has.3)) u h.framed h.kept) m.MemorySpent acts1)
      acts)
