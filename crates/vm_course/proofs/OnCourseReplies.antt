-- No operation of a machine that runs looks at the replies that are to come.
use Rattle.std.proofs.Common.{◌≡◌, ℕ, suc, ◌+◌, ℤ, pos, negsuc, List, [], ◌∷◌, length, Option, Some, None, Bool, true, false, cond, Result, Ok, Err, refl, sym, ap, ◌∙◌}
use Rattle.std.specs.Prelude.{◌&&◌, nat_lt, nat_le, unwrap_or, slice_get, reverse, count_by}
use Rattle.hog_value.specs.declared.cell.FunCell.{FunCell}
use Rattle.hog_value.specs.declared.native.Native.{Native}
use Rattle.hog_value.specs.declared.trace.End.{End}
use Rattle.hog_value.specs.declared.trace.End.TheVariants as end
use Rattle.hog_value.specs.declared.value.Kind.{Kind}
use Rattle.hog_value.specs.declared.value.Kind.TheVariants.{TypeError, ArgumentError}
use Rattle.hog_value.specs.Values.{Val}
use Rattle.hog_value.specs.declared.value.Value.TheVariants.{Null, Bool as Truth, Int, Ref}
use Rattle.hog_value.specs.Meters.{max_turns, max_units, max_depth}
use Rattle.hog_value.specs.Operations as op
use Rattle.hog_value.specs.Operations.{Outcome, made, truth_of}
use Rattle.hog_value.specs.Cells.{Array, Fun}
use Rattle.hog_json.specs.Texts.{shown, named_text}
use Rattle.hog_library.specs.Called as native
use Rattle.hog_library.specs.Called.{called}
use Rattle.hog_library.specs.Cells.{thrown}
use Rattle.hog_tree.specs.declared.tree.BinaryOp.{BinaryOp}
use Rattle.hog_ops.specs.declared.capture.Capture.{Capture}
use Rattle.hog_ops.specs.Plain as o
use Rattle.hog_ops.specs.Plain.{Op}
use Rattle.hog_ops.specs.Table.{size}
use Rattle.hog_meaning.specs.Operators.{operated, accessed, assigned, dictionary_made}
use Rattle.hog_meaning.specs.World.{Fixed, Reply}
use Rattle.hog_meaning.specs.Meaning.{most_requests, is_request, is_fetch, is_null}
use Rattle.vm_course.specs.State.{Slot, Begins, BodyEnds, Operand, Upvalue, Opened, Closed, Frame, ThrowFrame, Running, State, header, function_at, params_at}
use Rattle.vm_course.specs.Stack.{keep, top_of, taken, captured_by, capture_all, write_to, write_numbered}
use Rattle.vm_course.specs.Throws.{with_heap, ends_shown, caught, throw_to, throw_made, throw_kind, on_result, on_outcome, with_turn}
use Rattle.vm_course.specs.Step.{Here, on_with, on_and_push, jump, jump_or_back, in_pairs, enter, get_global, of_native, call_global, call_function, call_found, call_value, give_back, make_function, act, at_slot, here_at, in_frames, step_in, step, property_path, global_of, spent_by, binary}
use Rattle.vm_course.specs.Run.{with_replies}

module _ (rs : List Reply) where
  abbrev other : State → State
  other = with_replies rs

  either : (b : Bool) (x y x' y' : State) → x ≡ other x' → y ≡ other y' → cond b x y ≡ other (cond b x' y')
  either true x y x' y' e f = e
  either false x y x' y' e f = f

  shown_same : (make : List ℕ → End) (v : Val) (before s : State) → ends_shown make v (other before) (other s) ≡ other (ends_shown make v before s)
  shown_same make v before s = either (nat_le (s.units + length (shown s.heap v)) max_units) _ _ _ _ refl refl

  caught_same : (v : Val) (t : ThrowFrame) (ts : List ThrowFrame) (fs : List Frame) (s : State) → caught v t ts fs (other s) ≡ other (caught v t ts fs s)
  caught_same v t ts [] s = refl
  caught_same v t ts (f ∷ fs) s = refl

  throw_same : (ts : List ThrowFrame) (v : Val) (before s : State) → throw_to ts v (other before) (other s) ≡ other (throw_to ts v before s)
  throw_same [] v before s = shown_same end.Threw v before s
  throw_same (t ∷ ts) v before s = caught_same v t ts (keep t.frames s.frames) s

  pub kind_same : (kind : Kind) (s : State) → throw_kind kind (other s) ≡ other (throw_kind kind s)
  unfolding throw_kind
  kind_same kind s = go (thrown kind s.heap s.units)
    where
      go : (o : Outcome FunCell Val) → throw_made (other s) o ≡ other (throw_made s o)
      go (op.Gives v h units) = throw_same s.throws v s (with_heap h units s)
      go (op.Throws k) = refl
      go op.Spends = refl

  result_same : {A : Type 0} (r : Result A Kind) (go : A → State → State) (s : State) → ((a : A) → go a (other s) ≡ other (go a s)) → on_result r go (other s) ≡ other (on_result r go s)
  result_same (Ok a) go s k = k a
  result_same (Err kind) go s k = kind_same kind s

  outcome_same : {A : Type 0} (o : Outcome FunCell A) (go : A → State → State) (s : State) → ((a : A) (s1 : State) → go a (other s1) ≡ other (go a s1)) → on_outcome o go (other s) ≡ other (on_outcome o go s)
  outcome_same (op.Gives a h units) go s k = k a (with_heap h units s)
  outcome_same (op.Throws kind) go s k = kind_same kind s
  outcome_same op.Spends go s k = refl

  turn_same : (go : State → State) (s : State) → ((s1 : State) → go (other s1) ≡ other (go s1)) → with_turn go (other s) ≡ other (with_turn go s)
  turn_same go s k = either (nat_lt s.turns max_turns) _ _ _ _ (k (record s { turns = s.turns + 1 })) refl

  native_same : (here : Here) (rest : List Val) (c : native.Called FunCell) (s : State) → of_native here rest c (other s) ≡ other (of_native here rest c s)
  native_same here rest (native.Gives v h m) s = refl
  native_same here rest (native.Prints text m) s = refl
  native_same here rest (native.Throws kind) s = kind_same kind s
  native_same here rest (native.Asks request m) s = refl
  native_same here rest native.TurnsSpent s = refl
  native_same here rest native.UnitsSpent s = refl

  function_same : (here : Here) (n cell : ℕ) (f : FunCell) (params : ℕ) (rest : List Val) (s : State) → call_function here n cell f params rest (other s) ≡ other (call_function here n cell f params rest s)
  function_same here n cell f params rest s =
      either (nat_lt params n) _ _ _ _ (kind_same ArgumentError s)
      (either (nat_lt (length here.around) max_depth) _ _ _ _ (turn_same (enter here n cell f params rest) s (λ s1. refl))
      (either (nat_lt s.turns max_turns) _ _ _ _ refl refl))

  found_same : (code : List Slot) (here : Here) (n cell : ℕ) (f : Option FunCell) (rest : List Val) (s : State) → call_found code here n cell f rest (other s) ≡ other (call_found code here n cell f rest s)
  found_same code here n cell None rest s = kind_same TypeError s
  found_same code here n cell (Some f) rest s = function_same here n cell f (unwrap_or (params_at code f.place) 0) rest s

  call_same : (code : List Slot) (here : Here) (n : ℕ) (v : Val) (rest : List Val) (s : State) → call_value code here n (v, rest) (other s) ≡ other (call_value code here n (v, rest) s)
  call_same code here n Null rest s = kind_same TypeError s
  call_same code here n (Truth t) rest s = kind_same TypeError s
  call_same code here n (Int z) rest s = kind_same TypeError s
  call_same code here n (Ref cell) rest s = found_same code here n cell (function_at s.heap cell) rest s

  give_same : (v : Val) (here : Here) (fs : List Frame) (s : State) → give_back v here fs (other s) ≡ other (give_back v here fs s)
  give_same v here [] s = either (nat_le (s.units + length (shown s.heap v)) max_units) _ _ _ _ refl refl
  give_same v here (f ∷ fs) s = refl

  write_same : (u : ℕ) (v : Val) (o : Option Upvalue) (s : State) → write_to u v o (other s) ≡ other (write_to u v o s)
  write_same u v None s = refl
  write_same u v (Some (Opened p)) s = refl
  write_same u v (Some (Closed x)) s = refl

  numbered_same : (u : Option ℕ) (v : Val) (s : State) → write_numbered u v (other s) ≡ other (write_numbered u v s)
  numbered_same None v s = refl
  numbered_same (Some u) v s = write_same u v (slice_get s.upvalues u) s

  jump_same : (here : Here) (d : ℤ) (s : State) → jump_or_back here d (other s) ≡ other (jump_or_back here d s)
  jump_same here (pos n) s = refl
  jump_same here (negsuc n) s = turn_same (jump here (negsuc n)) s (λ s1. refl)

  path_same : (r : Result Val Kind) (ks : List Val) (s : State) → property_path r ks (other s) ≡ property_path r ks s
  path_same (Err kind) ks s = refl
  path_same (Ok v) [] s = refl
  path_same (Ok v) (k ∷ ks) s = path_same (accessed s.heap v k) ks s

  name_same : (fixed : Fixed) (s : State) (name : Option (List ℕ)) → global_of fixed (other s) name ≡ global_of fixed s name
  name_same fixed s None = refl
  name_same fixed s (Some name) = refl

  global_same : (fixed : Fixed) (here : Here) (ks rest : List Val) (s : State) → get_global fixed here ks rest (other s) ≡ other (get_global fixed here ks rest s)
  global_same fixed here [] rest s = refl
  global_same fixed here (k ∷ ks) rest s =
      ap (λ x. on_result (property_path x ks (other s)) (on_and_push here rest) (other s)) (name_same fixed s (named_text s.heap k))
      ∙ ap (λ x. on_result x (on_and_push here rest) (other s)) (path_same (global_of fixed s (named_text s.heap k)) ks s)
      ∙ result_same (property_path (global_of fixed s (named_text s.heap k)) ks s) (on_and_push here rest) s (λ a. refl)

  binary_same : (b : BinaryOp) (here : Here) (s : State) → binary b here (other s) ≡ other (binary b here s)
  binary_same b here s =
      let x = top_of here.floor s.stack in
      let y = top_of here.floor x.1 in
      result_same (operated b s.heap x.0 y.0) (on_and_push here y.1) s (λ a. refl)

  global_call_same : (f : Native) (here : Here) (operands : List Val × List Val) (s : State) → call_global f here operands (other s) ≡ other (call_global f here operands s)
  global_call_same f here operands s =
      either (is_fetch f && nat_le most_requests (count_by is_request s.trace)) _ _ _ _ refl
      (native_same here operands.1 (called f (reverse operands.0) s.heap (spent_by s)) s)

  get_same : (here : Here) (s : State) (x k : Val) (rest : List Val) → on_result (accessed s.heap x k) (on_and_push here rest) (other s) ≡ other (on_result (accessed s.heap x k) (on_and_push here rest) s)
  get_same here s x k rest = result_same (accessed s.heap x k) (on_and_push here rest) s (λ a. refl)

  make_same : (here : Here) (captures : List Capture) (s : State) → make_function here captures (other s) ≡ other (make_function here captures s)
  make_same here captures s =
      let numbers = capture_all (suc (length s.stack)) here.frame (captured_by s here.frame) captures s.upvalues in
      outcome_same (made (Fun (record { place = here.frame.place + header; captured = numbers.0 })) s.heap s.units)
      (λ v s1. record (on_and_push here s1.stack v s1) { upvalues = numbers.1 }) s (λ a s1. refl)

  act_same : (fixed : Fixed) (code : List Slot) (p : Op) (here : Here) (s : State) → act fixed code p here (other s) ≡ other (act fixed code p here s)
  unfolding act
  act_same fixed code (o.GetGlobal n) here s = global_same fixed here (taken here.floor n s.stack).0 (taken here.floor n s.stack).1 s
  act_same fixed code (o.CallGlobal f n) here s = global_call_same f here (taken here.floor n s.stack) s
  act_same fixed code (o.And n) here s = refl
  act_same fixed code (o.Or n) here s = refl
  act_same fixed code o.Not here s = refl
  act_same fixed code o.Plus here s = binary_same _ here s
  act_same fixed code o.Minus here s = binary_same _ here s
  act_same fixed code o.Multiply here s = binary_same _ here s
  act_same fixed code o.Eq here s = binary_same _ here s
  act_same fixed code o.NotEq here s = binary_same _ here s
  act_same fixed code o.Gt here s = binary_same _ here s
  act_same fixed code o.GtEq here s = binary_same _ here s
  act_same fixed code o.Lt here s = binary_same _ here s
  act_same fixed code o.LtEq here s = binary_same _ here s
  act_same fixed code o.IsIn here s = binary_same _ here s
  act_same fixed code o.NotIn here s = binary_same _ here s
  act_same fixed code o.PushTrue here s = refl
  act_same fixed code o.PushFalse here s = refl
  act_same fixed code o.PushNull here s = refl
  act_same fixed code (o.Str text) here s = refl
  act_same fixed code (o.Integer z) here s = refl
  act_same fixed code o.Pop here s = refl
  act_same fixed code (o.GetLocal i) here s = refl
  act_same fixed code (o.SetLocal i) here s = refl
  act_same fixed code o.Return here s = give_same (top_of here.floor s.stack).0 here here.around s
  act_same fixed code (o.Jump d) here s = jump_same here d s
  act_same fixed code (o.JumpIfFalse d) here s = either (truth_of s.heap (top_of here.floor s.stack).0) _ _ _ _ refl refl
  act_same fixed code (o.Dict n) here s =
      let t = taken here.floor (n + n) s.stack in
      outcome_same (dictionary_made (in_pairs (reverse t.0)) s.heap s.units) (on_and_push here t.1) s (λ a s1. refl)
  act_same fixed code (o.Array n) here s =
      let t = taken here.floor n s.stack in
      outcome_same (made (Array (reverse t.0)) s.heap s.units) (on_and_push here t.1) s (λ a s1. refl)
  act_same fixed code o.GetProperty here s =
      let k = top_of here.floor s.stack in
      let x = top_of here.floor k.1 in
      get_same here s x.0 k.0 x.1
  act_same fixed code o.SetProperty here s =
      let v = top_of here.floor s.stack in
      let k = top_of here.floor v.1 in
      let x = top_of here.floor k.1 in
      outcome_same (assigned s.heap x.0 k.0 v.0 s.units) (λ u s1. on_with here x.1 s1) s (λ a s1. refl)
  act_same fixed code (o.JumpIfStackNotNull d) here s = either (is_null (top_of here.floor s.stack).0) _ _ _ _ refl refl
  act_same fixed code o.GetPropertyNullish here s =
      let k = top_of here.floor s.stack in
      let x = top_of here.floor k.1 in
      either (is_null x.0) _ _ _ _ refl (get_same here s x.0 k.0 x.1)
  act_same fixed code o.Throw here s = throw_same s.throws (top_of here.floor s.stack).0 s s
  act_same fixed code (o.Try d) here s = refl
  act_same fixed code o.PopTry here s = refl
  act_same fixed code (o.Callable name params body captures) here s = make_same here captures s
  act_same fixed code (o.CallLocal n) here s = call_same code here n (top_of here.floor s.stack).0 (top_of here.floor s.stack).1 s
  act_same fixed code (o.GetUpvalue i) here s = refl
  act_same fixed code (o.SetUpvalue i) here s =
      let t = top_of here.floor s.stack in
      let s1 : State = on_with here t.1 s in
      numbered_same (slice_get (captured_by s1 here.frame) i) t.0 s1
  act_same fixed code o.CloseUpvalue here s = refl

  slot_same : (fixed : Fixed) (code : List Slot) (x : Option Slot) (f : Frame) (fs : List Frame) (s : State) → at_slot fixed code x f fs (other s) ≡ other (at_slot fixed code x f fs s)
  slot_same fixed code (Some (Begins p)) f fs s = act_same fixed code p (here_at (f.place + size p) f fs s) s
  slot_same fixed code (Some BodyEnds) f fs s = give_same Null (here_at f.place f fs s) fs s
  slot_same fixed code (Some Operand) f fs s = give_same Null (here_at f.place f fs s) fs s
  slot_same fixed code None f fs s = give_same Null (here_at f.place f fs s) fs s

  frames_same : (fixed : Fixed) (code : List Slot) (fs : List Frame) (s : State) → in_frames fixed code fs (other s) ≡ other (in_frames fixed code fs s)
  frames_same fixed code [] s = refl
  frames_same fixed code (f ∷ fs) s = slot_same fixed code (slice_get code f.place) f fs s

  pub step_same : (fixed : Fixed) (code : List Slot) (s : State) → s.mode ≡ Running → step fixed code (other s) ≡ other (step fixed code s)
  step_same fixed code s e =
      ap (λ m. step_in m fixed code (other s)) e
      ∙ frames_same fixed code s.frames s
      ∙ sym (ap (λ m. other (step_in m fixed code s)) e)

-- and it leaves them as they are
pub step_leaves : (fixed : Fixed) (code : List Slot) (s : State) → s.mode ≡ Running → (step fixed code s).replies ≡ s.replies
step_leaves fixed code s e = ap (λ (x : State). x.replies) (step_same s.replies fixed code s e)
