-- Globals, operators, access, arrays, dictionaries and natives on the picture.
use Rattle.std.proofs.Common.{◌≡◌, ℕ, suc, ◌+◌, ◌-◌, ◌≤◌, ℤ, pos, List, [], ◌∷◌, length, Option, Some, None, Bool, true, false, cond, Result, Ok, Err, refl, sym, ap, ◌∙◌, subst, arith}
use Rattle.std.specs.Prelude.{◌&&◌, ◌||◌, not, reverse, nat_le, slice_get, count_by}
use Rattle.std.proofs.lemmas.List.{reverse-reverse}
use Rattle.hog_value.specs.declared.native.Native.{Native}
use Rattle.hog_value.specs.declared.value.Kind.{Kind}
use Rattle.hog_value.specs.declared.trace.End.TheVariants as end
use Rattle.hog_value.specs.Values.{Val}
use Rattle.hog_value.specs.declared.value.Value.TheVariants.{Null, Bool as Truth, Int, Ref}
use Rattle.hog_value.specs.Cells.{Array, HeapOf, heap_map, text_at}
use Rattle.hog_value.specs.Operations.{outcome_map, made, key_of, truth_of}
use Rattle.hog_value.proofs.Naturality.{made-heap_map}
use Rattle.hog_library.specs.Called as native
use Rattle.hog_library.specs.Called.{called}
use Rattle.hog_library.proofs.CalledNaturality.{called-heap_map}
use Rattle.hog_library.proofs.CalledGrowing.{called-grows}
use Rattle.hog_tree.specs.declared.tree.BinaryOp.{BinaryOp}
use Rattle.hog_tree.specs.declared.tree.BinaryOp.TheVariants as b
use Rattle.hog_tree.specs.Plain.{Word}
use Rattle.hog_compiler.specs.Pieces.{read_code, operator_op, is_left_first}
use Rattle.hog_meaning.specs.Operators.{operated, accessed, negated, property_of, nullish_property_of, read_by, dictionary_made}
use Rattle.hog_meaning.specs.World.{Env, World, Got, Gives, and_then}
use Rattle.hog_meaning.specs.World as m
use Rattle.hog_meaning.specs.Meaning.{place_in, literal, most_requests, is_request, is_fetch, is_null, call_native, read_word}
use Rattle.hog_ops.specs.Plain as o
use Rattle.hog_ops.specs.Plain.{Op, Ops, NoOp, MoreOp}
use Rattle.vm_course.specs.State.{Begins, State}
use Rattle.vm_course.specs.Stack.{or_null, top_of, taken}
use Rattle.vm_course.specs.Throws.{ends, on_result, on_outcome}
use Rattle.vm_course.specs.Step as vm
use Rattle.vm_course.specs.Step.{step, act, on_with, on_and_push, property_path, global_of, get_global, spent_by, call_global, binary}
use Rattle.hog_bridge.proofs.Places.{Seat, Temp, Var, seat_at, stack_of, value_seat, temps, seats_of, temps_over}
use Rattle.hog_bridge.proofs.Ahead.{HasAt}
use Rattle.hog_bridge.proofs.Heaps.{keeps_grows, called_fair}
use Rattle.hog_bridge.proofs.Turns.{called_turns}
use Rattle.hog_bridge.proofs.Picture.{Given, Ghost, meant, built, Comes, FunOk, Under, under_less, SeesWord, Ctx, landings, at, Framed, Kept, Fits, Run, run_after, extends_same}
use Rattle.hog_bridge.proofs.Steps.{floor_in, spot, top_pic, taken_pic, framed_push, kept_push, fits_temps, framed_temps, op_is}
use Rattle.hog_bridge.proofs.Parts.{Ready, ExpAt, spends, native_runs}
use Rattle.hog_bridge.proofs.Exps.{value_step, value_runs, value_result, value_outcome, ending}
use Rattle.hog_meaning.specs.Meaning as mean
use Rattle.hog_value.proofs.Naturality.{made-heap_map}
use Rattle.hog_bridge.proofs.Operated.{dictionary_made-heap_map, dictionary_fair}
use Rattle.hog_bridge.proofs.Heaps.{made_fair}
use Rattle.hog_bridge.proofs.Lookups.{key_same, truth_same, operated_same, accessed_same, text_there, text_meant, local_runs, upvalue_runs}
use Rattle.vm_course.specs.Step.{in_pairs, all_true, any_true, jump}
use Rattle.hog_ops.specs.Table.{span}

-- what is ready for an operation whose operands stand on the stack
pub ready_with : {g : Given} {n d : ℕ} {c : Ctx} {place : ℕ} {L : List Seat} {G : Ghost} {w : World} {op : Op} {q : ℕ} → slice_get g.code place ≡ Some (Begins op) → suc place ≤ q → Under q c.own → Framed d c L → Kept g n L G w → Ready g n d c place L G w
ready_with {c = c} {op = op} at_op le u f k = record { op = op; at_op = at_op; under = under_less c.own le u; framed = f; kept = k }

path_done : (r : Result Val Kind) (s : State) → property_path r [] s ≡ r
path_done (Ok v) s = refl
path_done (Err kind) s = refl

-- a text in its place is a property's name
property_is : {F : Type 0} (h : HeapOf F) (base : Val) (k : ℕ) (t : List ℕ) → text_at h k ≡ Some t → accessed h base (Ref k) ≡ property_of h base t
unfolding accessed
property_is h Null k t e = refl
property_is h (Truth x) k t e = refl
property_is h (Int z) k t e = refl
property_is h (Ref n) k t e = ap (λ o. read_by o (key_of h n)) e

-- pairs in a row
abbrev pub in_row : List (Val × Val) → List Val
in_row [] = []
in_row (kv ∷ kvs) = kv.0 ∷ kv.1 ∷ in_row kvs

rows_paired : (kvs : List (Val × Val)) → in_pairs (in_row kvs) ≡ kvs
rows_paired [] = refl
rows_paired (kv ∷ kvs) = ap (λ x. kv ∷ x) (rows_paired kvs)

module _ (g : Given) (n d : ℕ) (c : Ctx) (ρ : Env) (place : ℕ) (L : List Seat) (G : Ghost) (w : World) (h : Fits g n d c ρ L G w) where
  framed1 : (x : Val) → Framed d c (Temp x ∷ L)
  framed1 x = framed_push c (Temp x) L h.framed

  kept1 : (x : Val) → Kept g n (Temp x ∷ L) G w
  kept1 x = kept_push x h.kept

  framed2 : (x y : Val) → Framed d c (Temp x ∷ Temp y ∷ L)
  framed2 x y = framed_push c (Temp x) (Temp y ∷ L) (framed1 y)

  kept2 : (x y : Val) → Kept g n (Temp x ∷ Temp y ∷ L) G w
  kept2 x y = kept_push x (kept1 y)

  -- a global by its name, whose text stands on the stack
  get_runs : (q : ℕ) (t : Word) (p0 : ℕ) → slice_get g.code p0 ≡ Some (Begins (o.Str t)) → slice_get g.code place ≡ Some (Begins (o.GetGlobal 1)) → place + 2 ≡ q → Under q c.own → Run g n (landings c) (at c place (Temp (literal g.fixed t) ∷ L) G w) G (ExpAt g n c q L) (m.of_result (key_of w.heap g.fixed.globals t) w)
  unfolding act
  get_runs q t p0 at_text at_op e u =
      let v = literal g.fixed t in
      let S2 : State = at c place (Temp v ∷ L) G w in
      let here = spot c place (place + 2) in
      let rest = stack_of w.store L in
      ending g n e (value_result g n d c place (Temp v ∷ []) L G w (ready_with at_op (omega arith) u (framed1 v) (kept1 v)) (place + 2) (omega arith) (key_of w.heap g.fixed.globals t)
      (op_is g (o.GetGlobal 1) c place (Temp v ∷ L) G w at_op
      ∙ ap (λ x. get_global g.fixed here x.0 x.1 S2) (taken_pic c (v ∷ []) L w h.framed)
      ∙ ap (λ x. on_result (property_path (global_of g.fixed S2 x) [] S2) (on_and_push here rest) S2) (text_there h.kept p0 t at_text)
      ∙ ap (λ x. on_result x (on_and_push here rest) S2) (path_done (key_of (heap_map built G.heap) g.fixed.globals t) S2 ∙ key_same h.kept g.fixed.globals t)))

module _ (g : Given) (n d : ℕ) (c : Ctx) (ρ : Env) (place : ℕ) (L : List Seat) (G : Ghost) (w : World) (h : Fits g n d c ρ L G w) where
  -- a text is pushed
  pub text_step : (t : List ℕ) (q : ℕ) → slice_get g.code place ≡ Some (Begins (o.Str t)) → place + 2 ≤ q → Under q c.own → Comes g (at c place L G w) (at c (place + 2) (Temp (literal g.fixed t) ∷ L) G w)
  unfolding act
  text_step t q is le u = value_step g n d c place [] L G w (ready_with is (omega arith) u h.framed h.kept) (place + 2) (omega arith) (literal g.fixed t) (op_is g (o.Str t) c place L G w is)

  pub integer_step : (z : ℤ) (q : ℕ) → slice_get g.code place ≡ Some (Begins (o.Integer z)) → place + 2 ≤ q → Under q c.own → Comes g (at c place L G w) (at c (place + 2) (Temp (Int z) ∷ L) G w)
  unfolding act
  integer_step z q is le u = value_step g n d c place [] L G w (ready_with is (omega arith) u h.framed h.kept) (place + 2) (omega arith) (Int z) (op_is g (o.Integer z) c place L G w is)

  -- what stands at a place is pushed
  pub get_step : (i : ℕ) (v : Val) (q : ℕ) → slice_get g.code place ≡ Some (Begins (o.GetLocal i)) → seat_at L (c.base + i) ≡ Some (Temp v) → place + 2 ≤ q → Under q c.own → Comes g (at c place L G w) (at c (place + 2) (Temp v ∷ L) G w)
  unfolding act
  get_step i v q is seat le u = value_step g n d c place [] L G w (ready_with is (omega arith) u h.framed h.kept) (place + 2) (omega arith) v
      (op_is g (o.GetLocal i) c place L G w is ∙ ap (λ z. on_and_push (spot c place (place + 2)) (stack_of w.store L) (or_null z) (at c place L G w)) (value_seat w.store L (c.base + i) (Temp v) seat))

  -- the value of a word, by where it is found
  pub name_runs : (l u v : Option ℕ) (x : Word) (q : ℕ) → SeesWord l u v c.base c.captured L G.owners → HasAt g.code place (read_code l u x) → q ≡ place + span (read_code l u x) → Under q c.own → Run g n (landings c) (at c place L G w) G (ExpAt g n c q L) (read_word g.fixed v x w)
  name_runs (Some i) u (Some y) x q sees has e under =
      local_runs g n d c place L G w i q (Var y) has.0 sees (ready_with has.0 (omega arith) under h.framed h.kept) (sym e)
  name_runs (Some i) u None x q sees has e under = absurd sees
  name_runs None (Some j) (Some y) x q sees has e under =
      upvalue_runs g n d c place L G w j q y has.0 h.captured sees.0 sees.1 sees.2 (ready_with has.0 (omega arith) under h.framed h.kept) (sym e)
  name_runs None (Some j) None x q sees has e under = absurd sees
  name_runs None None (Some y) x q sees has e under = absurd sees
  name_runs None None None x q sees has e under =
      run_after g n (text_step x q has.0 (omega arith) under) (extends_same G)
      (get_runs g n d c ρ (place + 2) L G w h q x place has.0 has.2.0 (omega arith) under)

-- an operator on two operands, the left one on the top
module _ (g : Given) (n d : ℕ) (c : Ctx) (ρ : Env) (place : ℕ) (L : List Seat) (G : Ghost) (w : World) (h : Fits g n d c ρ L G w) (x y : Val) (q : ℕ) (e : place + 1 ≡ q) (u : Under q c.own) where
  abbrev S : State
  S = at c place (Temp x ∷ Temp y ∷ L) G w

  abbrev here : vm.Here
  here = spot c place (place + 1)

  abbrev rest : List Val
  rest = stack_of w.store L

  framed_two : Framed d c (Temp x ∷ Temp y ∷ L)
  framed_two = framed_push c (Temp x) (Temp y ∷ L) (framed_push c (Temp y) L h.framed)

  kept_two : Kept g n (Temp x ∷ Temp y ∷ L) G w
  kept_two = kept_push x (kept_push y h.kept)

  -- the operands
  two_top : {A : Type 0} (f : Val → Val → List Val → A) → (let a = top_of (floor_in c) S.stack in let z = top_of (floor_in c) a.1 in f a.0 z.0 z.1) ≡ f x y rest
  two_top f =
      ap (λ a. let z = top_of (floor_in c) a.1 in f a.0 z.0 z.1) (top_pic c (Temp x) (Temp y ∷ L) w (framed_push c (Temp y) L h.framed))
      ∙ ap (λ z. f x z.0 z.1) (top_pic c (Temp y) L w h.framed)

  pub binary_runs : (op : BinaryOp) (code : Op) → slice_get g.code place ≡ Some (Begins code) → step g.fixed g.code S ≡ binary op here S → Run g n (landings c) S G (ExpAt g n c q L) (m.of_result (operated op w.heap x y) w)
  binary_runs op code is acts =
      ending g n e (value_result g n d c place (Temp x ∷ Temp y ∷ []) L G w (ready_with is (omega arith) u framed_two kept_two) (place + 1) (omega arith) (operated op w.heap x y)
      (acts ∙ two_top (λ a b r. on_result (operated op (heap_map built G.heap) a b) (on_and_push here r) S)
      ∙ ap (λ z. on_result z (on_and_push here rest) S) (operated_same h.kept op x y)))

  -- where its result is known
  binary_step : (op : BinaryOp) (code : Op) (v : Val) → slice_get g.code place ≡ Some (Begins code) → step g.fixed g.code S ≡ binary op here S → operated op w.heap x y ≡ Ok v → Comes g S (at c (place + 1) (Temp v ∷ L) G w)
  binary_step op code v is acts gave =
      value_step g n d c place (Temp x ∷ Temp y ∷ []) L G w (ready_with is (omega arith) u framed_two kept_two) (place + 1) (omega arith) v
      (acts ∙ two_top (λ a b r. on_result (operated op (heap_map built G.heap) a b) (on_and_push here r) S)
      ∙ ap (λ z. on_result z (on_and_push here rest) S) (operated_same h.kept op x y ∙ gave))

  pub plus_step : (v : Val) → slice_get g.code place ≡ Some (Begins o.Plus) → operated b.Plus w.heap x y ≡ Ok v → Comes g S (at c (place + 1) (Temp v ∷ L) G w)
  unfolding act
  plus_step v is gave = binary_step b.Plus o.Plus v is (op_is g o.Plus c place (Temp x ∷ Temp y ∷ L) G w is) gave

  pub at_most_step : (v : Val) → slice_get g.code place ≡ Some (Begins o.LtEq) → operated b.LessEqual w.heap x y ≡ Ok v → Comes g S (at c (place + 1) (Temp v ∷ L) G w)
  unfolding act
  at_most_step v is gave = binary_step b.LessEqual o.LtEq v is (op_is g o.LtEq c place (Temp x ∷ Temp y ∷ L) G w is) gave

  -- every operator but `and` and `or`
  pub operator_runs : (op : BinaryOp) → is_left_first op ≡ false → slice_get g.code place ≡ Some (Begins (operator_op op)) → Run g n (landings c) S G (ExpAt g n c q L) (m.of_result (operated op w.heap x y) w)
  unfolding act
  operator_runs b.Or second is = absurd (cc)
  operator_runs b.And second is = absurd (cc)
  operator_runs b.Equal second is = binary_runs b.Equal o.Eq is (op_is g o.Eq c place (Temp x ∷ Temp y ∷ L) G w is)
  operator_runs b.NotEqual second is = binary_runs b.NotEqual o.NotEq is (op_is g o.NotEq c place (Temp x ∷ Temp y ∷ L) G w is)
  operator_runs b.Less second is = binary_runs b.Less o.Lt is (op_is g o.Lt c place (Temp x ∷ Temp y ∷ L) G w is)
  operator_runs b.LessEqual second is = binary_runs b.LessEqual o.LtEq is (op_is g o.LtEq c place (Temp x ∷ Temp y ∷ L) G w is)
  operator_runs b.Greater second is = binary_runs b.Greater o.Gt is (op_is g o.Gt c place (Temp x ∷ Temp y ∷ L) G w is)
  operator_runs b.GreaterEqual second is = binary_runs b.GreaterEqual o.GtEq is (op_is g o.GtEq c place (Temp x ∷ Temp y ∷ L) G w is)
  operator_runs b.IsIn second is = binary_runs b.IsIn o.IsIn is (op_is g o.IsIn c place (Temp x ∷ Temp y ∷ L) G w is)
  operator_runs b.NotIn second is = binary_runs b.NotIn o.NotIn is (op_is g o.NotIn c place (Temp x ∷ Temp y ∷ L) G w is)
  operator_runs b.Plus second is = binary_runs b.Plus o.Plus is (op_is g o.Plus c place (Temp x ∷ Temp y ∷ L) G w is)
  operator_runs b.Minus second is = binary_runs b.Minus o.Minus is (op_is g o.Minus c place (Temp x ∷ Temp y ∷ L) G w is)
  operator_runs b.Times second is = binary_runs b.Times o.Multiply is (op_is g o.Multiply c place (Temp x ∷ Temp y ∷ L) G w is)

  -- an item, by the key on the top
  pub get_item_runs : slice_get g.code place ≡ Some (Begins o.GetProperty) → Run g n (landings c) S G (ExpAt g n c q L) (m.of_result (accessed w.heap y x) w)
  unfolding act
  get_item_runs is =
      ending g n e (value_result g n d c place (Temp x ∷ Temp y ∷ []) L G w (ready_with is (omega arith) u framed_two kept_two) (place + 1) (omega arith) (accessed w.heap y x)
      (op_is g o.GetProperty c place (Temp x ∷ Temp y ∷ L) G w is
      ∙ two_top (λ a b r. on_result (accessed (heap_map built G.heap) b a) (on_and_push here r) S)
      ∙ ap (λ z. on_result z (on_and_push here rest) S) (accessed_same h.kept y x)))

module _ (g : Given) (n d : ℕ) (c : Ctx) (ρ : Env) (place : ℕ) (L : List Seat) (G : Ghost) (w : World) (h : Fits g n d c ρ L G w) (q : ℕ) (u : Under q c.own) where
  framed_one : (v : Val) → Framed d c (Temp v ∷ L)
  framed_one v = framed_push c (Temp v) L h.framed

  -- a property by a text that was pushed
  pub property_runs : (base : Val) (t : Word) (p0 : ℕ) → slice_get g.code p0 ≡ Some (Begins (o.Str t)) → slice_get g.code place ≡ Some (Begins o.GetProperty) → place + 1 ≡ q → Run g n (landings c) (at c place (Temp (literal g.fixed t) ∷ Temp base ∷ L) G w) G (ExpAt g n c q L) (m.of_result (property_of w.heap base t) w)
  property_runs base t p0 at_text is e =
      subst (λ r. Run g n (landings c) (at c place (Temp (literal g.fixed t) ∷ Temp base ∷ L) G w) G (ExpAt g n c q L) (m.of_result r w)) (property_is w.heap base (place_in g.fixed.literals t) t (text_meant h.kept p0 t at_text))
      (get_item_runs g n d c ρ place L G w h (literal g.fixed t) base q e u is)

  pub nullish_runs : (base : Val) (t : Word) (p0 : ℕ) → slice_get g.code p0 ≡ Some (Begins (o.Str t)) → slice_get g.code place ≡ Some (Begins o.GetPropertyNullish) → place + 1 ≡ q → Run g n (landings c) (at c place (Temp (literal g.fixed t) ∷ Temp base ∷ L) G w) G (ExpAt g n c q L) (m.of_result (nullish_property_of w.heap base t) w)
  unfolding act
  nullish_runs base t p0 at_text is e =
      let x = literal g.fixed t in
      let S : State = at c place (Temp x ∷ Temp base ∷ L) G w in
      let here = spot c place (place + 1) in
      let rest = stack_of w.store L in
      ending g n e (value_result g n d c place (Temp x ∷ Temp base ∷ []) L G w (ready_with is (omega arith) u (framed_push c (Temp x) (Temp base ∷ L) (framed_one base)) (kept_push x (kept_push base h.kept))) (place + 1) (omega arith) (nullish_property_of w.heap base t)
      (op_is g o.GetPropertyNullish c place (Temp x ∷ Temp base ∷ L) G w is
      ∙ two_top g n d c ρ place L G w h x base q e u (λ a b r. cond (is_null b) (on_and_push here r Null S) (on_result (accessed (heap_map built G.heap) b a) (on_and_push here r) S))
      ∙ ap (λ z. cond (is_null base) (on_and_push here rest Null S) (on_result z (on_and_push here rest) S)) (accessed_same h.kept base x ∙ property_is w.heap base (place_in g.fixed.literals t) t (text_meant h.kept p0 t at_text))
      ∙ by_base base S))
    where
      by_base : (base : Val) (S : State) → cond (is_null base) (on_and_push (spot c place (place + 1)) (stack_of w.store L) Null S) (on_result (property_of w.heap base t) (on_and_push (spot c place (place + 1)) (stack_of w.store L)) S) ≡ on_result (nullish_property_of w.heap base t) (on_and_push (spot c place (place + 1)) (stack_of w.store L)) S
      by_base Null S = refl
      by_base (Truth x) S = refl
      by_base (Int z) S = refl
      by_base (Ref k) S = refl

  pub not_runs : (v : Val) → slice_get g.code place ≡ Some (Begins o.Not) → place + 1 ≡ q → Run g n (landings c) (at c place (Temp v ∷ L) G w) G (ExpAt g n c q L) (Gives (Truth (not (truth_of w.heap v))) w)
  unfolding act
  not_runs v is e =
      let S : State = at c place (Temp v ∷ L) G w in
      let here = spot c place (place + 1) in
      ending g n e (value_runs g n d c place (Temp v ∷ []) L G w (ready_with is (omega arith) u (framed_one v) (kept_push v h.kept)) (place + 1) (omega arith) (Truth (not (truth_of w.heap v)))
      (op_is g o.Not c place (Temp v ∷ L) G w is
      ∙ ap (λ t. on_and_push here t.1 (Truth (not (truth_of (heap_map built G.heap) t.0))) S) (top_pic c (Temp v) L w h.framed)
      ∙ ap (λ t. on_and_push here (stack_of w.store L) (Truth (not t)) S) (truth_same h.kept v)))

  -- 0 less the value
  pub minus_runs : (v : Val) → slice_get g.code place ≡ Some (Begins o.Minus) → place + 1 ≡ q → Run g n (landings c) (at c place (Temp (Int (pos 0)) ∷ Temp v ∷ L) G w) G (ExpAt g n c q L) (m.of_result (negated v) w)
  unfolding operated negated
  minus_runs v is e = operator_runs g n d c ρ place L G w h (Int (pos 0)) v q e u b.Minus refl is

  both_true : (x y : Bool) → y && (x && true) ≡ x && y
  both_true true true = refl
  both_true true false = refl
  both_true false true = refl
  both_true false false = refl

  one_true : (x y : Bool) → y || (x || false) ≡ x || y
  one_true true true = refl
  one_true true false = refl
  one_true false true = refl
  one_true false false = refl

  pub and_runs : (x y : Val) → slice_get g.code place ≡ Some (Begins (o.And 2)) → place + 2 ≡ q → Run g n (landings c) (at c place (Temp y ∷ Temp x ∷ L) G w) G (ExpAt g n c q L) (m.of_result (operated b.And w.heap x y) w)
  unfolding act operated
  and_runs x y is e =
      let S : State = at c place (Temp y ∷ Temp x ∷ L) G w in
      let here = spot c place (place + 2) in
      let v = Truth (truth_of w.heap x && truth_of w.heap y) in
      ending g n e (value_runs g n d c place (Temp y ∷ Temp x ∷ []) L G w (ready_with is (omega arith) u (framed_push c (Temp y) (Temp x ∷ L) (framed_one x)) (kept_push y (kept_push x h.kept))) (place + 2) (omega arith) v
      (op_is g (o.And 2) c place (Temp y ∷ Temp x ∷ L) G w is
      ∙ ap (λ t. on_and_push here t.1 (Truth (all_true S t.0)) S) (taken_pic c (x ∷ y ∷ []) L w h.framed)
      ∙ ap (λ t. on_and_push here (stack_of w.store L) (Truth t) S)
      (both_true (truth_of (heap_map built G.heap) x) (truth_of (heap_map built G.heap) y) ∙ ap (λ t. t && truth_of (heap_map built G.heap) y) (truth_same h.kept x) ∙ ap (λ t. truth_of w.heap x && t) (truth_same h.kept y))))

  pub or_runs : (x y : Val) → slice_get g.code place ≡ Some (Begins (o.Or 2)) → place + 2 ≡ q → Run g n (landings c) (at c place (Temp y ∷ Temp x ∷ L) G w) G (ExpAt g n c q L) (m.of_result (operated b.Or w.heap x y) w)
  unfolding act operated
  or_runs x y is e =
      let S : State = at c place (Temp y ∷ Temp x ∷ L) G w in
      let here = spot c place (place + 2) in
      let v = Truth (truth_of w.heap x || truth_of w.heap y) in
      ending g n e (value_runs g n d c place (Temp y ∷ Temp x ∷ []) L G w (ready_with is (omega arith) u (framed_push c (Temp y) (Temp x ∷ L) (framed_one x)) (kept_push y (kept_push x h.kept))) (place + 2) (omega arith) v
      (op_is g (o.Or 2) c place (Temp y ∷ Temp x ∷ L) G w is
      ∙ ap (λ t. on_and_push here t.1 (Truth (any_true S t.0)) S) (taken_pic c (x ∷ y ∷ []) L w h.framed)
      ∙ ap (λ t. on_and_push here (stack_of w.store L) (Truth t) S)
      (one_true (truth_of (heap_map built G.heap) x) (truth_of (heap_map built G.heap) y) ∙ ap (λ t. t || truth_of (heap_map built G.heap) y) (truth_same h.kept x) ∙ ap (λ t. truth_of w.heap x || t) (truth_same h.kept y))))

  -- arrays and dictionaries that are written out
  pub array_runs : (vs : List Val) → slice_get g.code place ≡ Some (Begins (o.Array (length vs))) → place + 2 ≡ q → Run g n (landings c) (at c place (temps vs L) G w) G (ExpAt g n c q L) (m.of_outcome (made (Array vs) w.heap w.units) w)
  unfolding act
  array_runs vs is e =
      let S : State = at c place (temps vs L) G w in
      let here = spot c place (place + 2) in
      let one : made (Array vs) w.heap w.units ≡ outcome_map meant (made (Array vs) G.heap w.units) = ap (λ z. made (Array vs) z w.units) h.kept.heap ∙ made-heap_map meant (Array vs) G.heap w.units in
      subst (λ z. Run g n (landings c) S G (ExpAt g n c q L) (m.of_outcome z w)) (sym one)
      (subst (λ M. Run g n (landings c) (at c place M G w) G (ExpAt g n c q L) (m.of_outcome (outcome_map meant (made (Array vs) G.heap w.units)) w)) (temps_over vs L)
      (ending g n e (value_outcome g n d c place (seats_of vs) L G w (subst (λ M. Ready g n d c place M G w) (sym (temps_over vs L)) (ready_with is (omega arith) u (framed_temps c vs L h.framed) (fits_temps vs L h).kept)) (place + 2) (omega arith) (made (Array vs) G.heap w.units)
      (made_fair (FunOk g.code G.owners) (Array vs) G.heap w.units tt h.kept.funs)
      (subst (λ M. step g.fixed g.code (at c place M G w) ≡ on_outcome (outcome_map built (made (Array vs) G.heap w.units)) (on_and_push here (stack_of w.store L)) (at c place M G w)) (sym (temps_over vs L))
      (op_is g (o.Array (length vs)) c place (temps vs L) G w is
      ∙ ap (λ t. on_outcome (made (Array (reverse t.0)) (heap_map built G.heap) w.units) (on_and_push here t.1) S) (taken_pic c vs L w h.framed)
      ∙ ap (λ xs. on_outcome (made (Array xs) (heap_map built G.heap) w.units) (on_and_push here (stack_of w.store L)) S) (reverse-reverse vs)
      ∙ ap (λ z. on_outcome z (on_and_push here (stack_of w.store L)) S) (made-heap_map built (Array vs) G.heap w.units))))))

  pub dict_runs : (kvs : List (Val × Val)) (k : ℕ) → length (in_row kvs) ≡ k + k → slice_get g.code place ≡ Some (Begins (o.Dict k)) → place + 2 ≡ q → Run g n (landings c) (at c place (temps (in_row kvs) L) G w) G (ExpAt g n c q L) (m.of_outcome (dictionary_made kvs w.heap w.units) w)
  unfolding act
  dict_runs kvs k many is e =
      let vs = in_row kvs in
      let S : State = at c place (temps vs L) G w in
      let here = spot c place (place + 2) in
      let one : dictionary_made kvs w.heap w.units ≡ outcome_map meant (dictionary_made kvs G.heap w.units) = ap (λ z. dictionary_made kvs z w.units) h.kept.heap ∙ dictionary_made-heap_map meant G.heap kvs w.units in
      subst (λ z. Run g n (landings c) S G (ExpAt g n c q L) (m.of_outcome z w)) (sym one)
      (subst (λ M. Run g n (landings c) (at c place M G w) G (ExpAt g n c q L) (m.of_outcome (outcome_map meant (dictionary_made kvs G.heap w.units)) w)) (temps_over vs L)
      (ending g n e (value_outcome g n d c place (seats_of vs) L G w (subst (λ M. Ready g n d c place M G w) (sym (temps_over vs L)) (ready_with is (omega arith) u (framed_temps c vs L h.framed) (fits_temps vs L h).kept)) (place + 2) (omega arith) (dictionary_made kvs G.heap w.units)
      (dictionary_fair (FunOk g.code G.owners) G.heap h.kept.funs kvs w.units)
      (subst (λ M. step g.fixed g.code (at c place M G w) ≡ on_outcome (outcome_map built (dictionary_made kvs G.heap w.units)) (on_and_push here (stack_of w.store L)) (at c place M G w)) (sym (temps_over vs L))
      (op_is g (o.Dict k) c place (temps vs L) G w is
      ∙ ap (λ j. let t = taken (floor_in c) j S.stack in on_outcome (dictionary_made (in_pairs (reverse t.0)) (heap_map built G.heap) w.units) (on_and_push here t.1) S) (sym many)
      ∙ ap (λ t. on_outcome (dictionary_made (in_pairs (reverse t.0)) (heap_map built G.heap) w.units) (on_and_push here t.1) S) (taken_pic c vs L w h.framed)
      ∙ ap (λ xs. on_outcome (dictionary_made (in_pairs xs) (heap_map built G.heap) w.units) (on_and_push here (stack_of w.store L)) S) (reverse-reverse vs)
      ∙ ap (λ xs. on_outcome (dictionary_made xs (heap_map built G.heap) w.units) (on_and_push here (stack_of w.store L)) S) (rows_paired kvs)
      ∙ ap (λ z. on_outcome z (on_and_push here (stack_of w.store L)) S) (dictionary_made-heap_map built G.heap kvs w.units))))))

  -- a native on its arguments
  pub native_call_runs : (f : Native) (vs : List Val) → slice_get g.code place ≡ Some (Begins (o.CallGlobal f (length vs))) → place + 3 ≡ q → Run g n (landings c) (at c place (temps vs L) G w) G (ExpAt g n c q L) (call_native d f vs w)
  unfolding act call_native
  native_call_runs f vs is e =
      let S : State = at c place (temps vs L) G w in
      let here = spot c place (place + 3) in
      let dep : suc (length c.frames) - 1 ≡ d = omega (arith, h.framed.depth) in
      let acts : step g.fixed g.code S ≡ cond (is_fetch f && nat_le most_requests (count_by is_request w.trace)) (ends end.TooManyFetches S) (vm.of_native here (stack_of w.store L) (native.called_map built (called f vs G.heap (m.spent_at d w))) S) =
      op_is g (o.CallGlobal f (length vs)) c place (temps vs L) G w is
      ∙ ap (λ t. call_global f here t S) (taken_pic c vs L w h.framed)
      ∙ ap (λ xs. cond (is_fetch f && nat_le most_requests (count_by is_request w.trace)) (ends end.TooManyFetches S) (vm.of_native here (stack_of w.store L) (called f xs (heap_map built G.heap) (spent_by S)) S)) (reverse-reverse vs)
      ∙ ap (λ k. cond (is_fetch f && nat_le most_requests (count_by is_request w.trace)) (ends end.TooManyFetches S) (vm.of_native here (stack_of w.store L) (called f vs (heap_map built G.heap) (record { turns = w.turns; units = w.units; depth = k })) S)) dep
      ∙ ap (λ z. cond (is_fetch f && nat_le most_requests (count_by is_request w.trace)) (ends end.TooManyFetches S) (vm.of_native here (stack_of w.store L) z S)) (called-heap_map built f vs G.heap (m.spent_at d w)) in
      let one : called f vs w.heap (m.spent_at d w) ≡ native.called_map meant (called f vs G.heap (m.spent_at d w)) = ap (λ z. called f vs z (m.spent_at d w)) h.kept.heap ∙ called-heap_map meant f vs G.heap (m.spent_at d w) in
      let rd : Ready g n d c place (temps vs L) G w = ready_with is (omega arith) u (framed_temps c vs L h.framed) (fits_temps vs L h).kept in
      subst (λ z. Run g n (landings c) S G (ExpAt g n c q L) (cond (is_fetch f && nat_le most_requests (count_by is_request w.trace)) (m.Spends m.TooManyFetches w) (mean.of_native z w))) (sym one)
      (go (is_fetch f && nat_le most_requests (count_by is_request w.trace)) rd acts)
    where
      go : (t : Bool) → Ready g n d c place (temps vs L) G w → step g.fixed g.code (at c place (temps vs L) G w) ≡ cond t (ends end.TooManyFetches (at c place (temps vs L) G w)) (vm.of_native (spot c place (place + 3)) (stack_of w.store L) (native.called_map built (called f vs G.heap (m.spent_at d w))) (at c place (temps vs L) G w)) → Run g n (landings c) (at c place (temps vs L) G w) G (ExpAt g n c q L) (cond t (m.Spends m.TooManyFetches w) (mean.of_native (native.called_map meant (called f vs G.heap (m.spent_at d w))) w))
      go true rd acts = spends g n d c place (temps vs L) G w rd m.TooManyFetches acts
      go false rd acts =
          subst (λ M. Run g n (landings c) (at c place M G w) G (ExpAt g n c q L) (mean.of_native (native.called_map meant (called f vs G.heap (m.spent_at d w))) w)) (temps_over vs L)
          (ending g n e (native_runs g n d c place (seats_of vs) L G w (subst (λ M. Ready g n d c place M G w) (sym (temps_over vs L)) rd) (place + 3) (omega arith) (called f vs G.heap (m.spent_at d w))
          (λ v h1 s1 gave. keeps_grows G.heap h1 (called-grows f vs G.heap (m.spent_at d w) v h1 s1 gave))
          (called_fair (FunOk g.code G.owners) f vs G.heap (m.spent_at d w) h.kept.funs) (called_turns f vs G.heap (m.spent_at d w))
          (subst (λ M. step g.fixed g.code (at c place M G w) ≡ vm.of_native (spot c place (place + 3)) (stack_of w.store L) (native.called_map built (called f vs G.heap (m.spent_at d w))) (at c place M G w)) (sym (temps_over vs L)) acts)))
