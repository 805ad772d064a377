-- What is called, and a value where the first is null.
use Rattle.std.proofs.Common.{◌≡◌, ℕ, ◌+◌, ◌<◌, ◌≤◌, pos, List, [], ◌∷◌, length, Option, Some, None, Bool, true, false, cond, refl, sym, ap, ◌∙◌, subst, arith}
use Rattle.std.specs.Prelude.{slice_get}
use Rattle.hog_value.specs.declared.native.Native.{Native}
use Rattle.hog_value.specs.Natives.{native_named}
use Rattle.hog_value.specs.Values.{Val}
use Rattle.hog_tree.specs.Plain as t
use Rattle.hog_tree.specs.Plain.{Word, Exp}
use Rattle.hog_captures.specs.Frees.{is_among}
use Rattle.hog_captures.specs.Frames.{find_local, find_up, knows, is_found}
use Rattle.hog_compiler.specs.Pieces.{native_code, value_call}
use Rattle.hog_compiler.specs.Code.{call_code, called_native, exp_code}
use Rattle.hog_meaning.specs.World.{Env, World, Got, Gives, and_then, find_var, read_var}
use Rattle.hog_meaning.specs.Meaning as mean
use Rattle.hog_meaning.specs.Meaning.{Effect, is_null, call_native, call_value, call_named, called_with, read_word, value}
use Rattle.hog_ops.specs.Plain as o
use Rattle.hog_ops.specs.Plain.{Op, Ops, NoOp, MoreOp, ◌⊕◌}
use Rattle.hog_ops.specs.Table.{span}
use Rattle.vm_course.specs.State.{Begins, State}
use Rattle.vm_course.specs.Step.{act, on_with, jump}
use Rattle.hog_bridge.proofs.Words.{In}
use Rattle.hog_bridge.proofs.Resolved.{NativeOk, CalleeOk, out_of_sight}
use Rattle.hog_bridge.proofs.Places.{Seat, Temp, temps}
use Rattle.hog_bridge.proofs.Ahead.{HasAt, has_front, has_back, span-after}
use Rattle.hog_bridge.proofs.Picture.{Given, Ghost, Comes, one_step, comes_to, at_once, SeesWord, Under, under_less, Ctx, landings, at, Fits, extends_same, Run, run_after, gives}
use Rattle.hog_bridge.proofs.Steps.{spot, on_pic, top_pic, framed_push, kept_push, op_is}
use Rattle.hog_bridge.proofs.Parts.{ExpAt, passes}
use Rattle.hog_bridge.proofs.Exps.{exp_then, fits_on, kept_temps, rest_step}
use Rattle.hog_bridge.proofs.Operators.{ready_with, native_call_runs}
use Rattle.hog_bridge.proofs.Follow.{Follows}
use Rattle.hog_bridge.proofs.Entering.{call_runs}

-- single operations that expressions and statements have
module _ (g : Given) (n d : ℕ) (c : Ctx) (ρ : Env) (place : ℕ) (L : List Seat) (G : Ghost) (w : World) (h : Fits g n d c ρ L G w) where
  -- the topmost value comes off
  pub pop_step : (v : Val) (q : ℕ) → slice_get g.code place ≡ Some (Begins o.Pop) → place + 1 ≤ q → Under q c.own → Comes g (at c place (Temp v ∷ L) G w) (at c (place + 1) L G w)
  unfolding act
  pop_step v q is le u =
      rest_step g n d c place (Temp v ∷ []) L G w (ready_with is (omega arith) u (framed_push c (Temp v) L h.framed) (kept_push v h.kept)) (place + 1) (omega arith)
      (op_is g o.Pop c place (Temp v ∷ L) G w is ∙ ap (λ t. on_with (spot c place (place + 1)) t.1 (at c place (Temp v ∷ L) G w)) (top_pic c (Temp v) L w h.framed))

  -- the test for null
  null_step : (v : Val) (k q : ℕ) → slice_get g.code place ≡ Some (Begins (o.JumpIfStackNotNull (pos k))) → place + 2 ≤ q → Under q c.own → Comes g (at c place (Temp v ∷ L) G w) (at c (cond (is_null v) (place + 2) (place + 2 + k)) (Temp v ∷ L) G w)
  unfolding act
  null_step v k q is le u =
      let S : State = at c place (Temp v ∷ L) G w in
      let here = spot c place (place + 2) in
      one_step g S _
      (op_is g (o.JumpIfStackNotNull (pos k)) c place (Temp v ∷ L) G w is
      ∙ ap (λ t. cond (is_null t.0) (on_with here S.stack S) (jump here (pos k) S)) (top_pic c (Temp v) L w h.framed)
      ∙ ap (λ z. cond (is_null v) z (jump here (pos k) S)) (on_pic c place (place + 2) [] (Temp v ∷ L) G w h.kept.layout)
      ∙ either (is_null v))
      (passes g c place (cond (is_null v) (place + 2) (place + 2 + k)) (Temp v ∷ L) (Temp v ∷ L) G G w w is (further (is_null v)) (omega arith))
    where
      either : (b : Bool) → cond b (at c (place + 2) (Temp v ∷ L) G w) (jump (spot c place (place + 2)) (pos k) (at c place (Temp v ∷ L) G w)) ≡ at c (cond b (place + 2) (place + 2 + k)) (Temp v ∷ L) G w
      either true = refl
      either false = refl

      further : (b : Bool) → place < cond b (place + 2) (place + 2 + k)
      further true = omega arith
      further false = omega arith

module _ (g : Given) (n d : ℕ) (c : Ctx) (ρ : Env) (place : ℕ) (L : List Seat) (G : Ghost) (w : World) (h : Fits g n d c ρ L G w) where
  -- the second value where the first is null
  pub coalesce_runs : (v : Val) (y : Ops) (q : ℕ) (o2 : Got Val) → HasAt g.code place (MoreOp (o.JumpIfStackNotNull (pos (span y + 1))) (MoreOp o.Pop y)) → q ≡ place + 2 + (span y + 1) → Under q c.own → Run g n (landings c) (at c (place + 3) L G w) G (ExpAt g n c q L) o2 → Run g n (landings c) (at c place (Temp v ∷ L) G w) G (ExpAt g n c q L) (cond (is_null v) o2 (Gives v w))
  coalesce_runs v y q o2 has e u second =
      run_after g n (null_step g n d c ρ place L G w h v (span y + 1) q has.0 (omega arith) u) (extends_same G) (either (is_null v))
    where
      popped : Comes g (at c (place + 2) (Temp v ∷ L) G w) (at c (place + 3) L G w)
      popped = comes_to g (pop_step g n d c ρ (place + 2) L G w h v q has.2.0 (omega arith) u) (ap (λ p. at c p L G w) (omega arith))

      either : (b : Bool) → Run g n (landings c) (at c (cond b (place + 2) (place + 2 + (span y + 1))) (Temp v ∷ L) G w) G (ExpAt g n c q L) (cond b o2 (Gives v w))
      either true = run_after g n popped (extends_same G) second
      either false = gives g n (at_once g (ap (λ p. at c p (Temp v ∷ L) G w) (sym e))) (record { is = refl; kept = h.kept })

-- a word that the frame knows names a variable, and one that it doesn't know names none
known_var : (l u v : Option ℕ) (base : ℕ) (captured : List ℕ) (L : List Seat) (owners : List ℕ) → SeesWord l u v base captured L owners → is_found l u ≡ true → (x : ℕ) × (v ≡ Some x)
known_var (Some i) u (Some x) base captured L owners s e = (x, refl)
known_var (Some i) u None base captured L owners s e = absurd s
known_var None (Some j) (Some x) base captured L owners s e = (x, refl)
known_var None (Some j) None base captured L owners s e = absurd s
known_var None None v base captured L owners s e = absurd (cc)

unknown_var : (l u v : Option ℕ) (base : ℕ) (captured : List ℕ) (L : List Seat) (owners : List ℕ) → SeesWord l u v base captured L owners → is_found l u ≡ false → v ≡ None
unknown_var (Some i) u v base captured L owners s e = absurd (cc)
unknown_var None (Some j) v base captured L owners s e = absurd (cc)
unknown_var None None (Some x) base captured L owners s e = absurd s
unknown_var None None None base captured L owners s e = refl

module _ (g : Given) (n d : ℕ) (again : Effect) (ih : Follows g again n) (c : Ctx) (ρ : Env) (place q : ℕ) (L : List Seat) (vs : List Val) (G : Ghost) (w : World) (h : Fits g n d c ρ L G w) (u : Under q c.own) where
  -- the value that is called, and then its call
  value_called : (code : Ops) (o2 : Got Val) → HasAt g.code place (value_call code (length vs)) → q ≡ place + span (value_call code (length vs)) → ((q2 : ℕ) → q2 ≡ place + span code → HasAt g.code place code → Under q2 c.own → Run g n (landings c) (at c place (temps vs L) G w) G (ExpAt g n c q2 (temps vs L)) o2) → Run g n (landings c) (at c place (temps vs L) G w) G (ExpAt g n c q L) (and_then o2 (λ v w1. call_value again d v vs w1))
  value_called code o2 has e run =
      let p2 = place + span code in
      let at_call = has_back g.code place code (MoreOp (o.CallLocal (length vs)) NoOp) has in
      let end : p2 + 2 ≡ q = omega (arith, e, span-after code (MoreOp (o.CallLocal (length vs)) NoOp)) in
      exp_then g n (run p2 refl (has_front g.code place code (MoreOp (o.CallLocal (length vs)) NoOp) has) (under_less c.own (omega arith) u))
      (λ v w1 G1 x1 k1.
      let h1 = fits_on h x1 (kept_temps vs L k1) in
      subst (λ p. Run g n (landings c) (at c p2 (Temp v ∷ temps vs L) G1 w1) G1 (ExpAt g n c p L) (call_value again d v vs w1)) end
      (call_runs g n d again ih c ρ p2 L vs v G1 w1 h1 at_call.0 (subst (λ p. Under p c.own) (sym end) u)))

  native_called : (f : Option Native) (x : Word) → NativeOk f (length vs) → HasAt g.code place (native_code f (length vs)) → q ≡ place + span (native_code f (length vs)) → Run g n (landings c) (at c place (temps vs L) G w) G (ExpAt g n c q L) (mean.call_word d f vs w)
  native_called None x ok has e = absurd ok
  native_called (Some f) x ok has e =
      let code : native_code (Some f) (length vs) ≡ MoreOp (o.CallGlobal f (length vs)) NoOp = rw ok refl in
      let has2 = subst (HasAt g.code place) code has in
      let e2 : q ≡ place + span (MoreOp (o.CallGlobal f (length vs)) NoOp) = e ∙ ap (λ z. place + span z) code in
      native_call_runs g n d c ρ place L G w h q u f vs has2.0 (omega arith)

  word_called : (x : Word) (v : Option ℕ) (b : Bool) → find_var ρ x ≡ v → knows c.scope x ≡ b → SeesWord (find_local c.scope.locals x) (find_up c.scope.ups x) v c.base c.captured L G.owners → CalleeOk c.sight (t.Name x) (length vs) → HasAt g.code place (call_code (cond b None (Some x)) (length vs) (exp_code c.scope (t.Name x))) → q ≡ place + span (call_code (cond b None (Some x)) (length vs) (exp_code c.scope (t.Name x))) → ((q2 : ℕ) → q2 ≡ place + span (exp_code c.scope (t.Name x)) → HasAt g.code place (exp_code c.scope (t.Name x)) → Under q2 c.own → Run g n (landings c) (at c place (temps vs L) G w) G (ExpAt g n c q2 (temps vs L)) (read_word g.fixed v x w)) → Run g n (landings c) (at c place (temps vs L) G w) G (ExpAt g n c q L) (call_named again d v x vs w)
  word_called x (Some y) true ev eb sees ok has e run = value_called (exp_code c.scope (t.Name x)) (Gives (read_var w y) w) has e run
  word_called x None true ev eb sees ok has e run =
      let k = known_var (find_local c.scope.locals x) (find_up c.scope.ups x) None c.base c.captured L G.owners sees eb in let k1 = k.1 in absurd (cc)
  word_called x (Some y) false ev eb sees ok has e run =
      let k = unknown_var (find_local c.scope.locals x) (find_up c.scope.ups x) (Some y) c.base c.captured L G.owners sees eb in absurd (cc)
  word_called x None false ev eb sees ok has e run =
      native_called (native_named x) x (ok (subst (λ V. is_among x V ≡ false) h.sight (out_of_sight ρ x ev))) has e

  pub callee_runs : (f : Exp) → ((x : Word) → f ≡ t.Name x → In x c.words) → CalleeOk c.sight f (length vs) → HasAt g.code place (call_code (called_native c.scope f) (length vs) (exp_code c.scope f)) → q ≡ place + span (call_code (called_native c.scope f) (length vs) (exp_code c.scope f)) → ((q2 : ℕ) → q2 ≡ place + span (exp_code c.scope f) → HasAt g.code place (exp_code c.scope f) → Under q2 c.own → Run g n (landings c) (at c place (temps vs L) G w) G (ExpAt g n c q2 (temps vs L)) (value g.fixed again d f ρ w)) → Run g n (landings c) (at c place (temps vs L) G w) G (ExpAt g n c q L) (called_with again d f ρ (value g.fixed again d f ρ) vs w)
  callee_runs (t.Name x) word ok has e run = word_called x (find_var ρ x) (knows c.scope x) refl refl (h.sees x (word x refl)) ok has e run
  callee_runs f word ok has e run = value_called (exp_code c.scope f) (value g.fixed again d f ρ w) has e run
