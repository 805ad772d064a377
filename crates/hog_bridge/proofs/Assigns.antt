-- Assignments and named functions on the picture.
use Rattle.std.proofs.Common.{◌≡◌, ℕ, suc, ◌+◌, ◌<◌, ◌≤◌, List, [], ◌∷◌, ◌++◌, length, Option, Some, None, true, refl, sym, ap, ◌∙◌, subst, arith}
use Rattle.std.specs.Prelude.{slice_get}
use Rattle.std.proofs.lemmas.Option.{slice_get-map}
use Rattle.hog_value.specs.declared.cell.FunCell.{FunCell}
use Rattle.hog_value.specs.Values.{Val}
use Rattle.hog_value.specs.declared.value.Value.TheVariants.{Null, Bool as Truth, Int, Ref}
use Rattle.hog_value.specs.Cells.{CellOf, Fun, HeapOf, heap_map, text_at, cost_of_cell}
use Rattle.hog_value.specs.Operations.{Outcome, outcome_map, made, set_key_of}
use Rattle.hog_value.proofs.Naturality.{made-heap_map}
use Rattle.hog_tree.specs.Plain.{Word, Stms, ManyStms}
use Rattle.hog_captures.specs.Frees.{without_all, without, stms_frees}
use Rattle.hog_captures.specs.Frames.{captured_of, captures_of, inner_frame, with_local}
use Rattle.hog_compiler.specs.Pieces.{write_op}
use Rattle.hog_compiler.specs.Code.{body_code}
use Rattle.hog_meaning.specs.Operators.{assigned, property_assigned, set_by}
use Rattle.hog_meaning.specs.World.{Env, Closure, World, Got, Gives, and_then, Flow, GoesOn, Returns, declare, named, write_var}
use Rattle.hog_meaning.specs.World as m
use Rattle.hog_meaning.specs.Meaning.{place_in, literal, assign_word, define}
use Rattle.hog_meaning.specs.Meaning as mean
use Rattle.hog_ops.specs.Plain as o
use Rattle.hog_ops.specs.Plain.{Op, Ops, NoOp, MoreOp, ◌⊕◌}
use Rattle.hog_ops.specs.Table.{size}
use Rattle.vm_course.specs.State.{Begins, State, header}
use Rattle.vm_course.specs.Stack.{push, top_of, with_value, write_to, write_numbered, write_upvalue, capture_all}
use Rattle.vm_course.specs.Throws.{on_outcome}
use Rattle.vm_course.specs.Step.{step, act, on_with, on_and_push}
use Rattle.hog_bridge.proofs.Words.{Sub, sub_past, onto}
use Rattle.hog_bridge.proofs.Resolved.{StmsOk}
use Rattle.hog_bridge.proofs.Places.{Seat, Temp, Var, read, seat_at, place_of, up_of, up_of_place, stack_of, ups_of, length-stack, seat_place}
use Rattle.hog_bridge.proofs.Ahead.{HasAt}
use Rattle.hog_bridge.proofs.Heaps.{keeps_append, all_append}
use Rattle.hog_bridge.proofs.Operated.{assigned-heap_map, assigned_fair}
use Rattle.hog_bridge.proofs.Picture.{Given, Ghost, Twin, meant, built, frame, pic, psi, Comes, one_step, stays, FunOk, SeesWord, Under, Ctx, landings, at, Kept, Fits, Run, run_then}
use Rattle.hog_bridge.proofs.Steps.{floor_in, spot, on_pic, top_pic, framed_push, kept_on, kept_push, op_is}
use Rattle.hog_bridge.proofs.Parts.{passes, outcome_runs, spends}
use Rattle.hog_bridge.proofs.Exps.{fits_on, sees_on, captured_on}
use Rattle.hog_bridge.proofs.Lookups.{captured_is, text_meant}
use Rattle.hog_bridge.proofs.Operators.{ready_with}
use Rattle.hog_bridge.proofs.Writes.{ups_new, becomes, writes, writes_closed, kept_write}
use Rattle.hog_bridge.proofs.Captures.{take_all, Taken, taken_sees, known_names, funs_on}
use Rattle.hog_bridge.proofs.Calls.{made_either, params_found}
use Rattle.hog_bridge.proofs.Callees.{pop_step}
use Rattle.hog_bridge.proofs.Blocks.{StmEnd, PlainEnd, plain, fits_local}

-- a text in its place is the name of what is set
property_set_is : {F : Type 0} (h : HeapOf F) (base : Val) (k : ℕ) (t : List ℕ) (v : Val) (units : ℕ) → text_at h k ≡ Some t → assigned h base (Ref k) v units ≡ property_assigned h base t v units
unfolding assigned
property_set_is h Null k t v units e = refl
property_set_is h (Truth x) k t v units e = refl
property_set_is h (Int z) k t v units e = refl
property_set_is h (Ref n) k t v units e = ap (λ o. set_by o (λ key. set_key_of h n key v units)) e

module _ (g : Given) (n d : ℕ) (c : Ctx) (ρ : Env) (p : ℕ) (L : List Seat) (G : Ghost) (w : World) (h : Fits g n d c ρ L G w) (full : length L ≡ c.base + length c.scope.locals) where
  -- a local that is a variable is set
  local_set : (i y : ℕ) (x : Val) → seat_at L (c.base + i) ≡ Some (Var y) → slice_get g.code p ≡ Some (Begins (o.SetLocal i)) → Comes g (at c p (Temp x ∷ L) G w) (at c (p + 2) L G (write_var y x w))
  unfolding act
  local_set i y x seat is =
      let S : State = at c p (Temp x ∷ L) G w in
      let here = spot c p (p + 2) in
      one_step g S _
      (op_is g (o.SetLocal i) c p (Temp x ∷ L) G w is
      ∙ ap (λ t. let there : State = on_with here t.1 S in record there { stack = with_value there.stack (c.base + i) t.0 }) (top_pic c (Temp x) L w h.framed)
      ∙ ap (λ (z : State). record z { stack = with_value z.stack (c.base + i) x }) (on_pic c p (p + 2) (Temp x ∷ []) L G w h.kept.layout)
      ∙ writes (frame (p + 2) c.base c.function ∷ c.frames) (landings c) L G w y (c.base + i) x h.kept.layout (seat_place (length w.store) L (c.base + i) y h.kept.layout seat))
      (passes g c p (p + 2) (Temp x ∷ L) L G G w (write_var y x w) is (omega arith) (omega arith))

  upvalue_set : (j y u : ℕ) (x : Val) → slice_get c.captured j ≡ Some u → slice_get G.owners u ≡ Some y → slice_get g.code p ≡ Some (Begins (o.SetUpvalue j)) → Comes g (at c p (Temp x ∷ L) G w) (at c (p + 2) L G (write_var y x w))
  unfolding act
  upvalue_set j y u x taken owner is =
      let S : State = at c p (Temp x ∷ L) G w in
      let S2 : State = at c (p + 2) L G w in
      let here = spot c p (p + 2) in
      let f = frame p c.base c.function in
      let there : slice_get (ups_of L w.store G.owners) u ≡ Some (up_of L w.store y) = slice_get-map (λ z. up_of L w.store z) G.owners u ∙ rw owner refl in
      one_step g S _
      (op_is g (o.SetUpvalue j) c p (Temp x ∷ L) G w is
      ∙ ap (λ t. write_upvalue f j t.0 (on_with here t.1 S)) (top_pic c (Temp x) L w h.framed)
      ∙ ap (λ z. write_upvalue f j x z) (on_pic c p (p + 2) (Temp x ∷ []) L G w h.kept.layout)
      ∙ ap (λ xs. write_numbered (slice_get xs j) x S2) (captured_is g n d c p L G w c.function c.captured h.captured)
      ∙ ap (λ a. write_numbered a x S2) taken
      ∙ ap (λ a. write_to u x a S2) there
      ∙ by_place (place_of L y) refl)
      (passes g c p (p + 2) (Temp x ∷ L) L G G w (write_var y x w) is (omega arith) (omega arith))
    where
      by_place : (a : Option ℕ) → place_of L y ≡ a → write_to u x (Some (up_of_place a (read w.store y))) (at c (p + 2) L G w) ≡ at c (p + 2) L G (write_var y x w)
      by_place None none = writes_closed (frame (p + 2) c.base c.function ∷ c.frames) (landings c) L G w y u x h.kept.owners owner none
      by_place (Some k) some = writes (frame (p + 2) c.base c.function ∷ c.frames) (landings c) L G w y k x h.kept.layout some

  fits_write : (y : ℕ) (x : Val) → Fits g n d c ρ L G (write_var y x w)
  fits_write y x = record { kept = kept_write y x L w h.kept; framed = h.framed; sees = h.sees; captured = h.captured; sight = h.sight }

  -- a new value of a word, by where it is found
  pub word_runs : (l u v : Option ℕ) (x : Val) (q : ℕ) → SeesWord l u v c.base c.captured L G.owners → slice_get g.code p ≡ Some (Begins (write_op l u)) → p + size (write_op l u) ≡ q → Under q c.own → Run g n (landings c) (at c p (Temp x ∷ L) G w) G (PlainEnd g n d c q L) (Gives (GoesOn ρ) (assign_word v x w))
  word_runs (Some i) u (Some y) x q sees is e under = plain g n d q (local_set i y x sees is) (ap (λ z. at c z L G (write_var y x w)) e) (fits_write y x) full
  word_runs (Some i) u None x q sees is e under = absurd sees
  word_runs None (Some j) (Some y) x q sees is e under = plain g n d q (upvalue_set j y sees.0 x sees.1 sees.2 is) (ap (λ z. at c z L G (write_var y x w)) e) (fits_write y x) full
  word_runs None (Some j) None x q sees is e under = absurd sees
  word_runs None None (Some y) x q sees is e under = absurd sees
  word_runs None None None x q sees is e under = plain g n d q (pop_step g n d c ρ p L G w h x q is (omega arith) under) (ap (λ z. at c z L G w) e) h full

  -- an item is set
  pub item_runs : (b k x : Val) (q : ℕ) → slice_get g.code p ≡ Some (Begins o.SetProperty) → p + 1 ≡ q → Under q c.own → Run g n (landings c) (at c p (Temp x ∷ Temp k ∷ Temp b ∷ L) G w) G (PlainEnd g n d c q L) (mean.done ρ (m.of_outcome (assigned w.heap b k x w.units) w))
  unfolding act
  item_runs b k x q is e u =
      let M = Temp x ∷ Temp k ∷ Temp b ∷ L in
      let S : State = at c p M G w in
      let here = spot c p (p + 1) in
      let rest = stack_of w.store L in
      let f1 = framed_push c (Temp b) L h.framed in
      let f2 = framed_push c (Temp k) (Temp b ∷ L) f1 in
      let f3 = framed_push c (Temp x) (Temp k ∷ Temp b ∷ L) f2 in
      let kept = kept_push x (kept_push k (kept_push b h.kept)) in
      let acts : step g.fixed g.code S ≡ on_outcome (outcome_map built (assigned G.heap b k x w.units)) (λ z s1. on_with here rest s1) S =
      op_is g o.SetProperty c p M G w is
      ∙ ap (λ v. let kk = top_of (floor_in c) v.1 in let bb = top_of (floor_in c) kk.1 in on_outcome (assigned (heap_map built G.heap) bb.0 kk.0 v.0 w.units) (λ z s1. on_with here bb.1 s1) S) (top_pic c (Temp x) (Temp k ∷ Temp b ∷ L) w f2)
      ∙ ap (λ kk. let bb = top_of (floor_in c) kk.1 in on_outcome (assigned (heap_map built G.heap) bb.0 kk.0 x w.units) (λ z s1. on_with here bb.1 s1) S) (top_pic c (Temp k) (Temp b ∷ L) w f1)
      ∙ ap (λ bb. on_outcome (assigned (heap_map built G.heap) bb.0 k x w.units) (λ z s1. on_with here bb.1 s1) S) (top_pic c (Temp b) L w h.framed)
      ∙ ap (λ z. on_outcome z (λ y s1. on_with here rest s1) S) (assigned-heap_map built G.heap b k x w.units) in
      let one : assigned w.heap b k x w.units ≡ outcome_map meant (assigned G.heap b k x w.units) = ap (λ z. assigned z b k x w.units) h.kept.heap ∙ assigned-heap_map meant G.heap b k x w.units in
      let r = outcome_runs g n d c p M G w (ready_with is (omega arith) u f3 kept) {P = λ (z : Unit {0}) (w1 : World) (G1 : Ghost) (s1 : State). (s1 ≡ at c (p + 1) L G1 w1) × Kept g n L G1 w1} (assigned G.heap b k x w.units) (λ z s1. on_with here rest s1)
      (assigned_fair (FunOk g.code G.owners) G.heap h.kept.funs b k x w.units) acts done_at in
      subst (λ z. Run g n (landings c) S G (PlainEnd g n d c q L) (mean.done ρ (m.of_outcome z w))) (sym one)
      (run_then g n r (λ z w1 G1 s1 x1 at_end. plain g n d q (stays g s1) (at_end.0 ∙ ap (λ y. at c y L G1 w1) e) (fits_on h x1 at_end.1) full))
    where
      done_at : (z : Unit {0}) (h1 : HeapOf Twin) (units : ℕ) → Kept g n (Temp x ∷ Temp k ∷ Temp b ∷ L) (record G { heap = h1 }) (m.with_heap w (heap_map meant h1) units) → (suc (psi g (on_with (spot c p (p + 1)) (stack_of w.store L) (at c p (Temp x ∷ Temp k ∷ Temp b ∷ L) (record G { heap = h1 }) (m.with_heap w (heap_map meant h1) units)))) ≤ psi g (at c p (Temp x ∷ Temp k ∷ Temp b ∷ L) G w)) × ((on_with (spot c p (p + 1)) (stack_of w.store L) (at c p (Temp x ∷ Temp k ∷ Temp b ∷ L) (record G { heap = h1 }) (m.with_heap w (heap_map meant h1) units)) ≡ at c (p + 1) L (record G { heap = h1 }) (m.with_heap w (heap_map meant h1) units)) × Kept g n L (record G { heap = h1 }) (m.with_heap w (heap_map meant h1) units))
      done_at z h1 units kept =
          let G1 : Ghost = record G { heap = h1 } in
          let w1 : World = m.with_heap w (heap_map meant h1) units in
          let M = Temp x ∷ Temp k ∷ Temp b ∷ L in
          let y = on_pic c p (p + 1) (Temp x ∷ Temp k ∷ Temp b ∷ []) L G1 w1 kept.layout in
          (subst (λ s. suc (psi g s) ≤ psi g (at c p M G w)) (sym y) (passes g c p (p + 1) M L G G1 w w1 is (omega arith) (omega arith)), (y, kept_on L kept kept.layout))

  -- a property is set
  pub property_set_runs : (b x : Val) (t : Word) (p0 q : ℕ) → slice_get g.code p0 ≡ Some (Begins (o.Str t)) → slice_get g.code p ≡ Some (Begins o.SetProperty) → p + 1 ≡ q → Under q c.own → Run g n (landings c) (at c p (Temp x ∷ Temp (literal g.fixed t) ∷ Temp b ∷ L) G w) G (PlainEnd g n d c q L) (mean.done ρ (m.of_outcome (property_assigned w.heap b t x w.units) w))
  property_set_runs b x t p0 q at_text is e u =
      subst (λ z. Run g n (landings c) (at c p (Temp x ∷ Temp (literal g.fixed t) ∷ Temp b ∷ L) G w) G (PlainEnd g n d c q L) (mean.done ρ (m.of_outcome z w)))
      (property_set_is w.heap b (place_in g.fixed.literals t) t x w.units (text_meant h.kept p0 t at_text))
      (item_runs b (literal g.fixed t) x q is e u)

module _ (g : Given) (n d : ℕ) where
  -- a named function is a local that it may capture itself
  pub define_runs : (c : Ctx) (ρ : Env) (p q : ℕ) (f : Word) (L : List Seat) (ps : List Word) (b : Stms) (G : Ghost) (w : World) → (let words = without_all ps (stms_frees true b) in let inside = with_local (Some f) c.scope in let xs = captured_of inside words in let code = o.Callable f (length ps) (body_code (inner_frame ps xs) (ManyStms b)) (captures_of inside xs) in (slice_get g.code p ≡ Some (Begins code)) × HasAt g.code (p + header) (body_code (inner_frame ps xs) (ManyStms b)) × (p + size code ≡ q) × (p < q)) → Sub (without f (without_all ps (stms_frees true b))) c.words → StmsOk (onto ps (f ∷ c.sight)) b → Fits g n d c ρ L G w → length L ≡ c.base + length c.scope.locals → Under q c.own → Run g n (landings c) (at c p L G w) G (StmEnd g n d c q (Some f) L) (define f ps b ρ w)
  unfolding act
  define_runs c ρ p q f L ps b G w has sub0 good h full u =
      let inside = with_local (Some f) c.scope in
      let words = without_all ps (stms_frees true b) in
      let ws1 = f ∷ c.words in
      let sub : Sub words ws1 = sub_past f words sub0 in
      let xs = captured_of inside words in
      let caps = captures_of inside xs in
      let body = body_code (inner_frame ps xs) (ManyStms b) in
      let code = o.Callable f (length ps) body caps in
      let fr = frame p c.base c.function in
      let S : State = at c p L G w in
      let var = length w.store in
      let v = Ref (length G.heap) in
      let L1 : List Seat = Var var ∷ L in
      let ρ1 = named f w ρ in
      let h1 = fits_local g n d f v h full in
      let store1 = w.store ++ v ∷ [] in
      let height = suc (length (stack_of w.store L)) in
      let high : length L1 ≤ height = omega (arith, length-stack w.store L) in
      let same = ups_new w.store v [] L G.owners h.kept.owners in
      let got = capture_all height fr c.captured caps (ups_of L w.store G.owners) in
      let t0 = take_all store1 L1 fr c.captured height high inside ρ1 ws1 xs G.owners h1.sees h1.kept.layout h1.kept.owners (known_names store1 L1 fr c.captured height high inside ρ1 ws1 words sub) in
      let t : Taken store1 L1 ρ1 G.owners xs got = subst (λ us. Taken store1 L1 ρ1 G.owners xs (capture_all height fr c.captured caps us)) (sym same) t0 in
      let cell : FunCell = record { place = p + header; captured = got.0 } in
      let fun : Closure = record { params = ps; body = ManyStms b; env = ρ1 } in
      let ok : FunOk g.code (G.owners ++ t.more) (fun, cell) = record {
        ups = xs;
        code_at = has.1;
        params = params_found g n d p f (length ps) body caps has.0;
        calls = subst (λ V. StmsOk (onto ps (f ∷ V)) b) (sym h.sight) good;
        sees = taken_sees store1 L1 fr c.captured height high inside ρ1 ws1 words G.owners got sub h1.sees t;
      } in
      let go_on : Val → State → State = λ v s1. record (on_and_push (spot c p (p + size code)) s1.stack v s1) { upvalues = got.1 } in
      let acts : step g.fixed g.code S ≡ on_outcome (outcome_map built (made (Fun (fun, cell)) G.heap w.units)) go_on S =
      op_is g code c p L G w has.0
      ∙ ap (λ captured. let numbers = capture_all height fr captured caps (ups_of L w.store G.owners) in
      on_outcome (made (Fun (record { place = p + header; captured = numbers.0 })) (heap_map built G.heap) w.units) (λ v s1. record (on_and_push (spot c p (p + size code)) s1.stack v s1) { upvalues = numbers.1 }) S) (captured_is g n d c p L G w c.function c.captured h.captured)
      ∙ ap (λ z. on_outcome z go_on S) (made-heap_map built (Fun (fun, cell)) G.heap w.units) in
      let one : made (Fun fun) w.heap w.units ≡ outcome_map meant (made (Fun (fun, cell)) G.heap w.units) = ap (λ z. made (Fun fun) z w.units) h.kept.heap ∙ made-heap_map meant (Fun (fun, cell)) G.heap w.units in
      let twin : CellOf Twin = Fun (fun, cell) in
      let units = w.units + cost_of_cell twin in
      let heap1 = G.heap ++ twin ∷ [] in
      let Gm : Ghost = record G { heap = heap1 } in
      let G1 : Ghost = record { owners = G.owners ++ t.more; heap = heap1 } in
      let wm : World = m.with_heap w (heap_map meant heap1) units in
      let w1 : World = declare v wm in
      let behind = p + size code in
      let fs = frame behind c.base c.function ∷ c.frames in
      let keeps = keeps_append G.heap (twin ∷ []) in
      let k = h1.kept in
      let kept : Kept g n L1 G1 w1 = record {
        layout = k.layout;
        owners = t.owned;
        heap = refl;
        turns = k.turns;
        texts = λ p t x. keeps.texts _ t (k.texts p t x);
        funs = all_append (FunOk g.code (G.owners ++ t.more)) G.heap (twin ∷ []) (funs_on g.code G.owners t.more G.heap k.funs) (ok, tt);
      } in
      subst (λ z. Run g n (landings c) S G (StmEnd g n d c q (Some f) L) (and_then (m.of_outcome z w) (λ v w1. Gives (GoesOn ρ1) (declare v w1)))) (sym one)
      (made_either twin G.heap w.units (λ (z : Outcome Twin Val). step g.fixed g.code S ≡ on_outcome (outcome_map built z) go_on S → Run g n (landings c) S G (StmEnd g n d c q (Some f) L) (and_then (m.of_outcome (outcome_map meant z) w) (λ v w1. Gives (GoesOn ρ1) (declare v w1))))
      (λ acts1.
      let done = acts1 ∙ ap (λ (z : State). record (push v z) { upvalues = got.1 }) (on_pic c p behind [] L Gm wm h.kept.layout)
      ∙ ap (λ (z : State). record z { upvalues = got.1 }) (becomes fs (landings c) [] v L Gm wm h.kept.layout h.kept.owners)
      ∙ ap (λ us. record (pic fs (landings c) L1 G1 w1) { upvalues = us }) t.is in
      record {
        ends = record {
          last = at c behind L1 G1 w1;
          ghost' = G1;
          comes = one_step g S (at c behind L1 G1 w1) done (passes g c p behind L L1 G G1 w w1 has.0 (omega (arith, has.2, has.3)) (omega arith));
          extends = record { owners = (t.more, refl); heap = keeps };
          holds = record {
            new = Var var ∷ [];
            many = refl;
            full = omega (arith, full);
            is = ap (λ z. at c z L1 G1 w1) has.2;
            fits = record { kept = kept; framed = h1.framed; sees = sees_on ws1 inside ρ1 c.base c.captured L1 G.owners t.more h1.sees; captured = captured_on c.function c.captured G.heap heap1 keeps h.captured; sight = h1.sight };
          };
        };
      })
      (λ acts1. spends g n d c p L G w (ready_with has.0 (omega (arith, has.3)) u h.framed h.kept) m.MemorySpent acts1)
      acts)
