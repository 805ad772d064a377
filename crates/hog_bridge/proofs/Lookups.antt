-- Words, texts and operators on the picture.
use Rattle.std.proofs.Common.{◌≡◌, ℕ, ◌+◌, ℤ, List, [], Option, Some, None, true, false, refl, sym, ap, ◌∙◌, arith}
use Rattle.std.specs.Prelude.{option_and_then, option_map, slice_get}
use Rattle.std.proofs.lemmas.Option.{slice_get-map}
use Rattle.hog_value.specs.Values.{Val}
use Rattle.hog_value.specs.declared.value.Value.TheVariants.{Null, Bool as Truth, Int, Ref}
use Rattle.hog_value.specs.Cells.{CellOf, Text, Array, Dict, Fun, cell_map, heap_map, text_at}
use Rattle.hog_value.specs.Operations.{key_of, truth_of}
use Rattle.hog_value.proofs.Naturality.{text_at-heap_map, key_of-heap_map, truth_of-heap_map}
use Rattle.hog_tree.specs.declared.tree.BinaryOp.{BinaryOp}
use Rattle.hog_meaning.specs.Operators.{operated, accessed}
use Rattle.hog_meaning.specs.World.{World, Gives}
use Rattle.hog_meaning.specs.Meaning.{place_in, literal}
use Rattle.hog_ops.specs.Plain as o
use Rattle.hog_ops.specs.Plain.{Op, Ops, NoOp, MoreOp}
use Rattle.vm_course.specs.State.{Begins, function_in, function_at}
use Rattle.vm_course.specs.Stack.{or_null, taken, captured_in, captured_by, upvalue_of, upvalue_value}
use Rattle.vm_course.specs.Step.{act, on_and_push}
use Rattle.hog_bridge.proofs.Places.{Seat, read, shown_seat, seat_at, place_of, up_of, up_of_place, stack_of, ups_of, placed, value_seat}
use Rattle.hog_bridge.proofs.Heaps.{fun_at, fun_of}
use Rattle.hog_bridge.proofs.Operated.{operated-heap_map, accessed-heap_map}
use Rattle.hog_bridge.proofs.Picture.{Given, Ghost, Twin, meant, built, frame, CapturedIs, Ctx, landings, at, Kept, Run}
use Rattle.hog_bridge.proofs.Steps.{spot, op_is}
use Rattle.hog_bridge.proofs.Parts.{Ready, ExpAt}
use Rattle.hog_bridge.proofs.Exps.{value_runs, ending}

module _ {g : Given} {n : ℕ} {L : List Seat} {G : Ghost} {w : World} (k : Kept g n L G w) where
  pub key_same : (cell : ℕ) (t : List ℕ) → key_of (heap_map built G.heap) cell t ≡ key_of w.heap cell t
  key_same cell t = key_of-heap_map built G.heap cell t ∙ sym (ap (λ h. key_of h cell t) k.heap ∙ key_of-heap_map meant G.heap cell t)

  pub truth_same : (v : Val) → truth_of (heap_map built G.heap) v ≡ truth_of w.heap v
  truth_same v = truth_of-heap_map built G.heap v ∙ sym (ap (λ h. truth_of h v) k.heap ∙ truth_of-heap_map meant G.heap v)

  pub operated_same : (op : BinaryOp) (x y : Val) → operated op (heap_map built G.heap) x y ≡ operated op w.heap x y
  operated_same op x y = operated-heap_map built G.heap op x y ∙ sym (ap (λ h. operated op h x y) k.heap ∙ operated-heap_map meant G.heap op x y)

  pub accessed_same : (x y : Val) → accessed (heap_map built G.heap) x y ≡ accessed w.heap x y
  accessed_same x y = accessed-heap_map built G.heap x y ∙ sym (ap (λ h. accessed h x y) k.heap ∙ accessed-heap_map meant G.heap x y)

  -- a text that the code pushes
  pub text_there : (place : ℕ) (t : List ℕ) → slice_get g.code place ≡ Some (Begins (o.Str t)) → text_at (heap_map built G.heap) (place_in g.fixed.literals t) ≡ Some t
  text_there place t at_op = text_at-heap_map built G.heap (place_in g.fixed.literals t) ∙ k.texts place t at_op

  pub text_meant : (place : ℕ) (t : List ℕ) → slice_get g.code place ≡ Some (Begins (o.Str t)) → text_at w.heap (place_in g.fixed.literals t) ≡ Some t
  text_meant place t at_op = ap (λ h. text_at h (place_in g.fixed.literals t)) k.heap ∙ text_at-heap_map meant G.heap (place_in g.fixed.literals t) ∙ k.texts place t at_op

module _ (g : Given) (n d : ℕ) (c : Ctx) (place : ℕ) (L : List Seat) (G : Ghost) (w : World) where
  -- a value that an operation pushes
  pub integer_runs : (z : ℤ) (q : ℕ) → slice_get g.code place ≡ Some (Begins (o.Integer z)) → Ready g n d c place L G w → place + 2 ≡ q → Run g n (landings c) (at c place L G w) G (ExpAt g n c q L) (Gives (Int z) w)
  unfolding act
  integer_runs z q is r e = ending g n e (value_runs g n d c place [] L G w r (place + 2) (omega arith) (Int z) (op_is g (o.Integer z) c place L G w is))

  pub text_runs : (t : List ℕ) (q : ℕ) → slice_get g.code place ≡ Some (Begins (o.Str t)) → Ready g n d c place L G w → place + 2 ≡ q → Run g n (landings c) (at c place L G w) G (ExpAt g n c q L) (Gives (literal g.fixed t) w)
  unfolding act
  text_runs t q is r e = ending g n e (value_runs g n d c place [] L G w r (place + 2) (omega arith) (Ref (place_in g.fixed.literals t)) (op_is g (o.Str t) c place L G w is))

  pub null_runs : (q : ℕ) → slice_get g.code place ≡ Some (Begins o.PushNull) → Ready g n d c place L G w → place + 1 ≡ q → Run g n (landings c) (at c place L G w) G (ExpAt g n c q L) (Gives Null w)
  unfolding act
  null_runs q is r e = ending g n e (value_runs g n d c place [] L G w r (place + 1) (omega arith) Null (op_is g o.PushNull c place L G w is))

  pub true_runs : (q : ℕ) → slice_get g.code place ≡ Some (Begins o.PushTrue) → Ready g n d c place L G w → place + 1 ≡ q → Run g n (landings c) (at c place L G w) G (ExpAt g n c q L) (Gives (Truth true) w)
  unfolding act
  true_runs q is r e = ending g n e (value_runs g n d c place [] L G w r (place + 1) (omega arith) (Truth true) (op_is g o.PushTrue c place L G w is))

  pub false_runs : (q : ℕ) → slice_get g.code place ≡ Some (Begins o.PushFalse) → Ready g n d c place L G w → place + 1 ≡ q → Run g n (landings c) (at c place L G w) G (ExpAt g n c q L) (Gives (Truth false) w)
  unfolding act
  false_runs q is r e = ending g n e (value_runs g n d c place [] L G w r (place + 1) (omega arith) (Truth false) (op_is g o.PushFalse c place L G w is))

  -- what stands at a place
  pub local_runs : (i q : ℕ) (s : Seat) → slice_get g.code place ≡ Some (Begins (o.GetLocal i)) → seat_at L (c.base + i) ≡ Some s → Ready g n d c place L G w → place + 2 ≡ q → Run g n (landings c) (at c place L G w) G (ExpAt g n c q L) (Gives (shown_seat w.store s) w)
  unfolding act
  local_runs i q s is seat r e = ending g n e (value_runs g n d c place [] L G w r (place + 2) (omega arith) (shown_seat w.store s)
      (op_is g (o.GetLocal i) c place L G w is ∙ ap (λ v. on_and_push (spot c place (place + 2)) (stack_of w.store L) (or_null v) (at c place L G w)) (value_seat w.store L (c.base + i) s seat)))

  -- an upvalue reads its owner's value
  up_reads : (x : ℕ) → upvalue_value (stack_of w.store L) (Some (up_of L w.store x)) ≡ read w.store x
  up_reads x = go (place_of L x) refl
    where
      go : (q : Option ℕ) → place_of L x ≡ q → upvalue_value (stack_of w.store L) (Some (up_of_place q (read w.store x))) ≡ read w.store x
      go None e = refl
      go (Some p) e = ap or_null (placed w.store L x p e).1

  -- the captured variables of a frame's function
  pub captured_is : (fn : Option ℕ) (captured : List ℕ) → CapturedIs fn captured G.heap → captured_in (option_and_then (function_at (heap_map built G.heap)) fn) ≡ captured
  captured_is None captured e = sym e
  captured_is (Some k) captured e = ap captured_in (function_built k e.0 e.1) ∙ e.2
    where
      there : (a : Option (CellOf Twin)) (t : Twin) → option_and_then fun_of a ≡ Some t → option_and_then function_in (option_map (cell_map built) a) ≡ Some t.1
      there None t e = absurd (cc)
      there (Some (Text s)) t e = absurd (cc)
      there (Some (Array vs)) t e = absurd (cc)
      there (Some (Dict ps)) t e = absurd (cc)
      there (Some (Fun x)) t e = let same : x ≡ t = cc in ap (λ (z : Twin). Some z.1) same

      function_built : (k : ℕ) (t : Twin) → fun_at G.heap k ≡ Some t → function_at (heap_map built G.heap) k ≡ Some t.1
      function_built k t e = ap (option_and_then function_in) (slice_get-map (cell_map built) G.heap k) ∙ there (slice_get G.heap k) t e

  pub upvalue_runs : (j q x : ℕ) → slice_get g.code place ≡ Some (Begins (o.GetUpvalue j)) → CapturedIs c.function c.captured G.heap → (u : ℕ) → slice_get c.captured j ≡ Some u → slice_get G.owners u ≡ Some x → Ready g n d c place L G w → place + 2 ≡ q → Run g n (landings c) (at c place L G w) G (ExpAt g n c q L) (Gives (read w.store x) w)
  unfolding act
  upvalue_runs j q x is cap u taken owner r e =
      let number : slice_get (captured_by (at c place L G w) (frame place c.base c.function)) j ≡ Some u = ap (λ xs. slice_get xs j) (captured_is c.function c.captured cap) ∙ taken in
      let there : slice_get (ups_of L w.store G.owners) u ≡ Some (up_of L w.store x) = slice_get-map (λ y. up_of L w.store y) G.owners u ∙ rw owner refl in
      let found : upvalue_of (at c place L G w) (frame place c.base c.function) j ≡ Some (up_of L w.store x) = ap (option_and_then (slice_get (ups_of L w.store G.owners))) number ∙ there in
      ending g n e (value_runs g n d c place [] L G w r (place + 2) (omega arith) (read w.store x)
      (op_is g (o.GetUpvalue j) c place L G w is
      ∙ ap (λ z. on_and_push (spot c place (place + 2)) (stack_of w.store L) (upvalue_value (stack_of w.store L) z) (at c place L G w)) found
      ∙ ap (λ v. on_and_push (spot c place (place + 2)) (stack_of w.store L) v (at c place L G w)) (up_reads x)))
