-- A call of a value: its kind, its count of arguments, the turn and the depth, and then the body's run.
use Rattle.std.proofs.Common.{◌≡◌, ℕ, suc, ◌+◌, ◌-◌, ◌<◌, ◌≤◌, List, [], ◌∷◌, ◌++◌, length, replicate, Option, Some, None, Bool, true, false, cond, refl, sym, ap, ◌∙◌, subst, arith}
use Rattle.std.specs.Prelude.{nat_lt, nat_le, option_and_then, option_map, unwrap_or, slice_get}
use Rattle.std.proofs.lemmas.Bool.Decides.{nat_tests}
use Rattle.std.proofs.lemmas.Option.{slice_get-map}
use Rattle.hog_value.specs.declared.cell.FunCell.{FunCell}
use Rattle.hog_value.specs.declared.value.Kind.TheVariants.{TypeError, ArgumentError}
use Rattle.hog_value.specs.declared.trace.End.TheVariants as end
use Rattle.hog_value.specs.Values.{Val}
use Rattle.hog_value.specs.declared.value.Value.TheVariants.{Null, Bool as Truth, Int, Ref}
use Rattle.hog_value.specs.Meters.{max_turns, max_depth}
use Rattle.hog_value.specs.Cells.{CellOf, Text, Array, Dict, Fun, cell_map, heap_map}
use Rattle.hog_tree.specs.Plain.{Word}
use Rattle.hog_captures.specs.Frees.{without_all, body_frees}
use Rattle.hog_captures.specs.Frames.{inner_frame}
use Rattle.hog_meaning.specs.World.{Env, Closure, World, Got, Gives, and_then, Flow, GoesOn, Returns, find_var, declare, named}
use Rattle.hog_meaning.specs.World as m
use Rattle.hog_meaning.specs.Meaning as mean
use Rattle.hog_meaning.specs.Meaning.{Effect, Call, bind, of_body}
use Rattle.hog_ops.specs.Plain as o
use Rattle.hog_ops.specs.Plain.{Op, Ops}
use Rattle.vm_course.specs.State.{Begins, State, function_in, function_at, params_at}
use Rattle.vm_course.specs.Stack.{cut_to}
use Rattle.vm_course.specs.Throws.{ends, throw_kind, with_turn}
use Rattle.vm_course.specs.Step as vm
use Rattle.vm_course.specs.Step.{step, act, on_with, on_and_push, make_function, in_place, with_arguments, call_found, call_value}
use Rattle.hog_bridge.proofs.Words.{sub_params, sub_same, onto}
use Rattle.hog_bridge.proofs.Resolved.{sight_of}
use Rattle.hog_bridge.proofs.Places.{Seat, Temp, stack_of, ups_of, Distinct, length-stack, temps, length-temps}
use Rattle.hog_bridge.proofs.Ahead.{left, left_later, left_past}
use Rattle.hog_bridge.proofs.Heaps.{fun_of, fun_at, fun_found}
use Rattle.hog_bridge.proofs.Picture.{Given, Ghost, Twin, meant, built, frame, pic, comes_then, at_once, one_step, stays, FunOk, Under, Ctx, landings, at, Framed, Fits, extends_same, Run, run_after, run_then, gives}
use Rattle.hog_bridge.proofs.Steps.{floor_in, spot, pop_pic, top_pic, floor_below, fits_push, fits_temps, op_is}
use Rattle.hog_bridge.proofs.Parts.{Ready, ExpAt, spends, kind_runs}
use Rattle.hog_bridge.proofs.Operators.{ready_with}
use Rattle.hog_bridge.proofs.Follow.{BodyAt, Follows, run_more, body_more}
use Rattle.hog_bridge.proofs.Calls.{pad, bind_pad, length-pad, stack_pad, ups_over, Bounded, bind_sight, bind_runs, lands_enter, outer_enter, turn_less}

-- the context of a callee
abbrev pub callee : Ctx → ℕ → List Seat → ℕ → List ℕ → List Word → List Word → List Word → List Word → Ctx
callee c behind L cell captured ps ups words V = record {
  base = length L;
  function = Some cell;
  captured = captured;
  frames = frame behind c.base c.function ∷ c.frames;
  own = [];
  outer = landings c;
  below = L;
  scope = inner_frame ps ups;
  words = words;
  sight = V;
}

module _ (g : Given) (n d : ℕ) where
  back_to : (c : Ctx) (behind : ℕ) (L : List Seat) (cell : ℕ) (captured : List ℕ) (ps ups words V : List Word) (f : Flow) (w : World) (G1 : Ghost) (s1 : State) → BodyAt g n (callee c behind L cell captured ps ups words V) f w G1 s1 → Run g n (landings c) s1 G1 (ExpAt g n c behind L) (of_body f w)
  back_to c behind L cell captured ps ups words V (GoesOn ρ) w G1 s1 p = absurd p
  back_to c behind L cell captured ps ups words V (Returns v) w G1 s1 p = gives g n (stays g s1) (record { is = p.0; kept = p.1 })

  -- no argument is missing
  all_there : (floor k : ℕ) (st : List Val) → floor + k ≤ length st → with_arguments floor k st ≡ st
  all_there floor k st le = let t : nat_le k (length st - floor) ≡ true = grind (arith, nat_tests) in rw t refl

  -- and all of the stack stays in its place
  all_stay : (floor k : ℕ) (st : List Val) → floor + k ≤ length st → in_place floor k st ≡ st
  all_stay floor k st le = let t : nat_le k (length st - floor) ≡ true = grind (arith, nat_tests) in rw t refl

  entered_is : (c : Ctx) (place behind k : ℕ) (L : List Seat) (vs : List Val) (v : Val) (ps : List Word) (cell : FunCell) (G : Ghost) (w : World) → Framed d c L → Distinct (length w.store) (temps vs L) → length vs ≤ length ps → vm.enter (spot c place behind) (length vs) k cell (length ps) (stack_of w.store (temps vs L)) (at c place (Temp v ∷ temps vs L) G w) ≡ pic (frame cell.place (length L) (Some k) ∷ frame behind c.base c.function ∷ c.frames) (landings c) (temps (pad ps vs) L) G w
  entered_is c place behind k L vs v ps cell G w framed dist le =
      let f = frame place c.base c.function in
      let rest = stack_of w.store (temps vs L) in
      let j = length vs in
      let lt = length-stack w.store (temps vs L) in
      let lv = length-temps vs L in
      let fl = floor_below c L framed in
      let there : with_arguments (floor_in c) j rest ≡ rest = all_there (floor_in c) j rest (omega arith) in
      let stay : in_place (floor_in c) j rest ≡ rest = all_stay (floor_in c) j rest (omega arith) in
      let base : length rest - j ≡ length L = omega arith in
      let top : replicate (length ps - j) Null ++ rest ≡ stack_of w.store (temps (pad ps vs) L) = sym (stack_pad ps vs w.store L le) in
      let us = ups_over vs (pad ps vs) w.store L G.owners in
      let gs = frame behind c.base c.function ∷ c.frames in
      let goal = pic (frame cell.place (length L) (Some k) ∷ gs) (landings c) (temps (pad ps vs) L) G w in
      ap (λ xs. record (cut_to (in_place (floor_in c) j rest) (at c place (Temp v ∷ temps vs L) G w)) { stack = replicate (length ps - j) Null ++ xs; frames = frame cell.place (length xs - j) (Some k) ∷ gs }) there
      ∙ ap (λ xs. record (cut_to xs (at c place (Temp v ∷ temps vs L) G w)) { stack = replicate (length ps - j) Null ++ rest; frames = frame cell.place (length rest - j) (Some k) ∷ gs }) stay
      ∙ ap (λ (z : State). record z { stack = replicate (length ps - j) Null ++ rest; frames = frame cell.place (length rest - j) (Some k) ∷ gs }) (pop_pic (f ∷ c.frames) (landings c) (Temp v ∷ []) (temps vs L) G w dist)
      ∙ ap (λ b. record (pic (f ∷ c.frames) (landings c) (temps vs L) G w) { stack = replicate (length ps - j) Null ++ rest; frames = frame cell.place b (Some k) ∷ gs }) base
      ∙ ap (λ st. record goal { stack = st; upvalues = ups_of (temps vs L) w.store G.owners }) top
      ∙ ap (λ xs. record goal { upvalues = xs }) us

module _ (g : Given) (n d : ℕ) (again : Effect) (ih : Follows g again n) (c : Ctx) (ρ : Env) (place : ℕ) (L : List Seat) (vs : List Val) (v : Val) (G : Ghost) (w : World) (h : Fits g n d c ρ L G w) (at_op : slice_get g.code place ≡ Some (Begins (o.CallLocal (length vs)))) (u : Under (place + 2) c.own) where
  abbrev S : State
  S = at c place (Temp v ∷ temps vs L) G w

  abbrev behind : ℕ
  behind = place + 2

  abbrev here : vm.Here
  here = spot c place behind

  abbrev rest : List Val
  rest = stack_of w.store (temps vs L)

  fits_args : Fits g n d c ρ (Temp v ∷ temps vs L) G w
  fits_args = fits_push v (fits_temps vs L h)

  r : Ready g n d c place (Temp v ∷ temps vs L) G w
  r = ready_with at_op (omega arith) u fits_args.framed fits_args.kept

  -- the body's run
  enter_runs : (k : ℕ) (fun : Closure) (cell : FunCell) → w.turns < max_turns → fun_at G.heap k ≡ Some (fun, cell) → FunOk g.code G.owners (fun, cell) → length vs ≤ length fun.params → step g.fixed g.code S ≡ vm.enter here (length vs) k cell (length fun.params) rest (record S { turns = w.turns + 1 }) → Run g n (landings c) S G (ExpAt g n c behind L) (mean.enter again d fun vs (record w { turns = w.turns + 1 }))
  enter_runs k fun cell lt found ok few first =
      let t = n - 1 in
      let some : suc t ≡ n = omega (arith, h.kept.turns, lt) in
      let w1 : World = record w { turns = w.turns + 1 } in
      let ps = fun.params in
      let args = pad ps vs in
      let free = without_all ps (body_frees fun.body) in
      let words = onto ps free in
      let V = onto ps (sight_of fun.env) in
      let c2 = callee c behind L k cell.captured ps ok.ups words V in
      let k0 : Bounded g t ok.ups (length L) cell.captured [] free L G fun.env w1 = record {
        kept = record { layout = h.kept.layout; owners = h.kept.owners; heap = h.kept.heap; funs = h.kept.funs; texts = h.kept.texts; turns = omega (arith, h.kept.turns) };
        sees = ok.sees;
        full = omega arith;
      } in
      let b = bind_runs g t ok.ups (length L) cell.captured (frame cell.place (length L) (Some k) ∷ c2.frames) (landings c) ps args [] free L G fun.env w1 (length-pad ps vs few) k0 in
      let to = bind ps args fun.env w1 in
      let fits2 : Fits g t (suc d) c2 to.0 (b.0 ++ L) G to.1 = record {
        kept = b.2.kept;
        sees = b.2.sees;
        captured = ((fun, cell), found, refl);
        sight = bind_sight ps args fun.env w1;
        framed = record {
          lands = lands_enter c.base (length L) c.function (Some k) behind c.frames b.0 L c.own c.outer u h.framed.outer h.framed.lands;
          floor = (b.0, refl);
          base = refl;
          own = tt;
          depth = ap suc h.framed.depth;
          outer = outer_enter (length c.frames) c.own c.outer h.framed.own h.framed.outer;
        };
      } in
      let is = entered_is g n d c place behind k L vs v ps cell G w1 h.framed (fits_temps vs L h).kept.layout few in
      let run = ih.body t (omega arith) (suc d) fun.body c2 to.0 cell.place (b.0 ++ L) G to.1 ok.code_at (sub_params ps (body_frees fun.body) free (sub_same free)) ok.calls fits2 b.2.full tt in
      let run2 = run_more g t n (omega arith) (BodyAt g n c2) (body_more g t n (omega arith) c2) run in
      let run3 = run_then g n run2 (λ f w2 G1 s1 x p. back_to g n d c behind L k cell.captured ps ok.ups words V f w2 G1 s1 p) in
      let m1 = turn_less w.turns (left g.code 0) lt in
      let p1 = left_past g.code place behind (o.CallLocal (length vs)) at_op (omega arith) in
      let p2 = left_later g.code 0 cell.place (omega arith) in
      let one = one_step g S (pic (frame cell.place (length L) (Some k) ∷ c2.frames) (landings c) (temps args L) G w1) (first ∙ is) (omega (arith, m1, p1, p2)) in
      run_after g n (comes_then g one (at_once g b.1)) (extends_same G)
      (subst (λ z. Run g n (landings c) (at c2 cell.place (b.0 ++ L) G to.1) G (ExpAt g n c behind L) (and_then (again (suc d) (Call fun.body) z.0 z.1) of_body)) (sym (bind_pad ps vs fun.env w1)) run3)

  module _ (k : ℕ) (fun : Closure) (cell : FunCell) (found : fun_at G.heap k ≡ Some (fun, cell)) (ok : FunOk g.code G.owners (fun, cell)) where
    turn_runs : length vs ≤ length fun.params → (b : Bool) → nat_lt w.turns max_turns ≡ b → step g.fixed g.code S ≡ cond b (vm.enter here (length vs) k cell (length fun.params) rest (record S { turns = w.turns + 1 })) (ends end.TurnsSpent S) → Run g n (landings c) S G (ExpAt g n c behind L) (cond b (mean.enter again d fun vs (record w { turns = w.turns + 1 })) (m.Spends m.TurnsSpent w))
    turn_runs few true e first = let lt : w.turns < max_turns = grind (arith, nat_tests) in enter_runs k fun cell lt found ok few first
    turn_runs few false e first = spends g n d c place (Temp v ∷ temps vs L) G w r m.TurnsSpent first

    deep_runs : (b : Bool) → step g.fixed g.code S ≡ cond b (ends end.TooDeep S) (ends end.TurnsSpent S) → Run g n (landings c) S G (ExpAt g n c behind L) (cond b (m.Spends m.TooDeep w) (m.Spends m.TurnsSpent w))
    deep_runs true first = spends g n d c place (Temp v ∷ temps vs L) G w r m.TooDeep first
    deep_runs false first = spends g n d c place (Temp v ∷ temps vs L) G w r m.TurnsSpent first

    depth_runs : length vs ≤ length fun.params → (b : Bool) → step g.fixed g.code S ≡ cond b (with_turn (vm.enter here (length vs) k cell (length fun.params) rest) S) (cond (nat_lt w.turns max_turns) (ends end.TooDeep S) (ends end.TurnsSpent S)) → Run g n (landings c) S G (ExpAt g n c behind L) (cond b (m.with_turn w (mean.enter again d fun vs)) (cond (nat_lt w.turns max_turns) (m.Spends m.TooDeep w) (m.Spends m.TurnsSpent w)))
    depth_runs few true first = turn_runs few (nat_lt w.turns max_turns) refl first
    depth_runs few false first = deep_runs (nat_lt w.turns max_turns) first

    count_runs : (b : Bool) → nat_lt (length fun.params) (length vs) ≡ b → step g.fixed g.code S ≡ cond b (throw_kind ArgumentError S) (cond (nat_lt d max_depth) (with_turn (vm.enter here (length vs) k cell (length fun.params) rest) S) (cond (nat_lt w.turns max_turns) (ends end.TooDeep S) (ends end.TurnsSpent S))) → Run g n (landings c) S G (ExpAt g n c behind L) (cond b (m.throws ArgumentError w) (cond (nat_lt d max_depth) (m.with_turn w (mean.enter again d fun vs)) (cond (nat_lt w.turns max_turns) (m.Spends m.TooDeep w) (m.Spends m.TurnsSpent w))))
    count_runs true e first = kind_runs g n d c place (Temp v ∷ temps vs L) G w r ArgumentError first
    count_runs false e first = let few : length vs ≤ length fun.params = grind (arith, nat_tests) in depth_runs few (nat_lt d max_depth) first

    function_runs : step g.fixed g.code S ≡ vm.call_function here (length vs) k cell (unwrap_or (params_at g.code cell.place) 0) rest S → Run g n (landings c) S G (ExpAt g n c behind L) (mean.call_function again d fun vs w)
    function_runs first = count_runs (nat_lt (length fun.params) (length vs)) refl
        (first ∙ ap (λ p. vm.call_function here (length vs) k cell (unwrap_or p 0) rest S) ok.params
        ∙ ap (λ j. cond (nat_lt (length fun.params) (length vs)) (throw_kind ArgumentError S) (cond (nat_lt j max_depth) (with_turn (vm.enter here (length vs) k cell (length fun.params) rest) S) (cond (nat_lt w.turns max_turns) (ends end.TooDeep S) (ends end.TurnsSpent S)))) (sym h.framed.depth))

  -- what a cell holds, on both sides
  cell_runs : (k : ℕ) (a : Option (CellOf Twin)) → slice_get G.heap k ≡ a → step g.fixed g.code S ≡ call_found g.code here (length vs) k (option_and_then function_in (option_map (cell_map built) a)) rest S → Run g n (landings c) S G (ExpAt g n c behind L) (mean.call_cell again d (option_map (cell_map meant) a) vs w)
  cell_runs k None e first = kind_runs g n d c place (Temp v ∷ temps vs L) G w r TypeError first
  cell_runs k (Some (Text t)) e first = kind_runs g n d c place (Temp v ∷ temps vs L) G w r TypeError first
  cell_runs k (Some (Array items)) e first = kind_runs g n d c place (Temp v ∷ temps vs L) G w r TypeError first
  cell_runs k (Some (Dict ps)) e first = kind_runs g n d c place (Temp v ∷ temps vs L) G w r TypeError first
  cell_runs k (Some (Fun t)) e first =
      let found : fun_at G.heap k ≡ Some (t.0, t.1) = ap (option_and_then fun_of) e in
      function_runs k t.0 t.1 found (fun_found (FunOk g.code G.owners) G.heap k (t.0, t.1) h.kept.funs found) first

  value_runs : (x : Val) → step g.fixed g.code S ≡ call_value g.code here (length vs) (x, rest) S → Run g n (landings c) S G (ExpAt g n c behind L) (mean.call_value again d x vs w)
  value_runs Null first = kind_runs g n d c place (Temp v ∷ temps vs L) G w r TypeError first
  value_runs (Truth b) first = kind_runs g n d c place (Temp v ∷ temps vs L) G w r TypeError first
  value_runs (Int z) first = kind_runs g n d c place (Temp v ∷ temps vs L) G w r TypeError first
  value_runs (Ref k) first =
      let one : slice_get w.heap k ≡ option_map (cell_map meant) (slice_get G.heap k) = ap (λ z. slice_get z k) h.kept.heap ∙ slice_get-map (cell_map meant) G.heap k in
      let two : function_at (heap_map built G.heap) k ≡ option_and_then function_in (option_map (cell_map built) (slice_get G.heap k)) = ap (option_and_then function_in) (slice_get-map (cell_map built) G.heap k) in
      subst (λ z. Run g n (landings c) S G (ExpAt g n c behind L) (mean.call_cell again d z vs w)) (sym one)
      (cell_runs k (slice_get G.heap k) refl (first ∙ ap (λ z. call_found g.code here (length vs) k z rest S) two))

  pub call_runs : Run g n (landings c) S G (ExpAt g n c behind L) (mean.call_value again d v vs w)
  unfolding act
  call_runs = value_runs v (op_is g (o.CallLocal (length vs)) c place (Temp v ∷ temps vs L) G w at_op ∙ ap (λ t. call_value g.code here (length vs) t S) (top_pic c (Temp v) (temps vs L) w (fits_temps vs L h).framed))
