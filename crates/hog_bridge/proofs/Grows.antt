-- No operation takes anything back from the trace.
use Rattle.std.proofs.Common.{◌≡◌, ℕ, zero, suc, ◌+◌, ℤ, pos, negsuc, List, [], ◌∷◌, ◌++◌, length, Option, Some, None, Bool, true, false, cond, Result, Ok, Err, refl, sym, ap, ◌∙◌, append_assoc, append-nil}
use Rattle.std.specs.Prelude.{◌&&◌, nat_lt, nat_le, unwrap_or, slice_get, reverse, count_by}
use Rattle.hog_value.specs.declared.cell.FunCell.{FunCell}
use Rattle.hog_value.specs.declared.native.Native.{Native}
use Rattle.hog_value.specs.declared.trace.TraceItem.{TraceItem}
use Rattle.hog_value.specs.declared.trace.TraceItem.TheVariants.{Printed, Asked}
use Rattle.hog_value.specs.declared.trace.End.{End}
use Rattle.hog_value.specs.declared.trace.End.TheVariants as end
use Rattle.hog_value.specs.declared.value.Kind.{Kind}
use Rattle.hog_value.specs.declared.value.Kind.TheVariants.{TypeError, ArgumentError}
use Rattle.hog_value.specs.Values.{Val}
use Rattle.hog_value.specs.declared.value.Value.TheVariants.{Null, Bool as Truth, Int, Ref}
use Rattle.hog_value.specs.Meters.{max_turns, max_units, max_depth}
use Rattle.hog_value.specs.Operations as op
use Rattle.hog_value.specs.Operations.{Outcome, made, truth_of}
use Rattle.hog_json.specs.Texts.{shown, named_text}
use Rattle.hog_library.specs.Called as native
use Rattle.hog_library.specs.Called.{called}
use Rattle.hog_library.specs.Cells.{thrown, response}
use Rattle.hog_tree.specs.declared.tree.BinaryOp.{BinaryOp}
use Rattle.hog_ops.specs.declared.capture.Capture.{Capture}
use Rattle.hog_ops.specs.Plain as o
use Rattle.hog_ops.specs.Plain.{Op}
use Rattle.hog_ops.specs.Table.{size}
use Rattle.hog_value.specs.Cells.{Array, Fun}
use Rattle.hog_meaning.specs.Operators.{operated, accessed, assigned, dictionary_made}
use Rattle.hog_meaning.specs.World.{Fixed, Reply}
use Rattle.hog_meaning.specs.Meaning.{most_requests, is_request, is_fetch, is_null}
use Rattle.vm_course.specs.State.{Slot, Begins, BodyEnds, Operand, Upvalue, Opened, Closed, Frame, ThrowFrame, Running, Waiting, Ended, Mode, State, header, function_at, params_at}
use Rattle.vm_course.specs.Stack.{keep, push, cut_to, top_of, taken, captured_by, capture_all, write_to, write_numbered}
use Rattle.vm_course.specs.Throws.{ends, with_heap, ends_shown, caught, throw_to, throw_made, throw_kind, on_result, on_outcome, with_turn}
use Rattle.vm_course.specs.Step.{Here, on_with, on_and_push, jump, jump_or_back, in_pairs, enter, get_global, of_native, call_global, call_function, call_found, call_value, give_back, make_function, act, at_slot, here_at, in_frames, take_reply, step_in, step, property_path, global_of, spent_by, binary}
use Rattle.vm_course.specs.Course.{steps}

-- the trace of the second goes on from that of the first
pub record Grows (s s' : State) : Type 0 where
  pub more : List TraceItem
  pub is : s'.trace ≡ s.trace ++ more

same : {s s' : State} → s'.trace ≡ s.trace → Grows s s'
same {s} {s'} e = record { more = []; is = e ∙ sym (append-nil s.trace) }

shown_grows : (make : List ℕ → End) (v : Val) (before s : State) → before.trace ≡ s.trace → Grows s (ends_shown make v before s)
shown_grows make v before s e = go (nat_le (s.units + length (shown s.heap v)) max_units)
  where
    go : (b : Bool) → Grows s (cond b (ends (make (shown s.heap v)) (record s { units = s.units + length (shown s.heap v) })) (ends end.MemorySpent before))
    go true = same refl
    go false = same e

caught_grows : (v : Val) (t : ThrowFrame) (ts : List ThrowFrame) (fs : List Frame) (s : State) → (caught v t ts fs s).trace ≡ s.trace
caught_grows v t ts [] s = refl
caught_grows v t ts (f ∷ fs) s = refl

throw_grows : (ts : List ThrowFrame) (v : Val) (before s : State) → before.trace ≡ s.trace → Grows s (throw_to ts v before s)
throw_grows [] v before s e = shown_grows end.Threw v before s e
throw_grows (t ∷ ts) v before s e = same (caught_grows v t ts (keep t.frames s.frames) s)

kind_grows : (kind : Kind) (s : State) → Grows s (throw_kind kind s)
unfolding throw_kind
kind_grows kind s = go (thrown kind s.heap s.units)
  where
    go : (o : Outcome FunCell Val) → Grows s (throw_made s o)
    go (op.Gives v h units) = let r = throw_grows s.throws v s (with_heap h units s) refl in record { more = r.more; is = r.is }
    go (op.Throws k) = same refl
    go op.Spends = same refl

result_grows : {A : Type 0} (r : Result A Kind) (go : A → State → State) (s : State) → ((a : A) → Grows s (go a s)) → Grows s (on_result r go s)
result_grows (Ok a) go s k = k a
result_grows (Err kind) go s k = kind_grows kind s

outcome_grows : {A : Type 0} (o : Outcome FunCell A) (go : A → State → State) (s : State) → ((a : A) (s1 : State) → s1.trace ≡ s.trace → (go a s1).trace ≡ s.trace) → Grows s (on_outcome o go s)
outcome_grows (op.Gives a h units) go s k = same (k a (with_heap h units s) refl)
outcome_grows (op.Throws kind) go s k = kind_grows kind s
outcome_grows op.Spends go s k = same refl

turn_grows : (go : State → State) (s : State) → ((s1 : State) → s1.trace ≡ s.trace → (go s1).trace ≡ s.trace) → Grows s (with_turn go s)
turn_grows go s k = either (nat_lt s.turns max_turns)
  where
    either : (b : Bool) → Grows s (cond b (go (record s { turns = s.turns + 1 })) (ends end.TurnsSpent s))
    either true = same (k (record s { turns = s.turns + 1 }) refl)
    either false = same refl

native_grows : (here : Here) (rest : List Val) (c : native.Called FunCell) (s : State) → Grows s (of_native here rest c s)
native_grows here rest (native.Gives v h m) s = same refl
native_grows here rest (native.Prints text m) s = record { more = Printed text ∷ []; is = refl }
native_grows here rest (native.Throws kind) s = kind_grows kind s
native_grows here rest (native.Asks request m) s = record { more = Asked request ∷ []; is = refl }
native_grows here rest native.TurnsSpent s = same refl
native_grows here rest native.UnitsSpent s = same refl

function_grows : (here : Here) (n cell : ℕ) (f : FunCell) (params : ℕ) (rest : List Val) (s : State) → Grows s (call_function here n cell f params rest s)
function_grows here n cell f params rest s = counted (nat_lt params n)
  where
    deep : (b : Bool) → Grows s (cond b (ends end.TooDeep s) (ends end.TurnsSpent s))
    deep true = same refl
    deep false = same refl

    entered : (b : Bool) → Grows s (cond b (with_turn (enter here n cell f params rest) s) (cond (nat_lt s.turns max_turns) (ends end.TooDeep s) (ends end.TurnsSpent s)))
    entered true = turn_grows (enter here n cell f params rest) s (λ s1 e. e)
    entered false = deep (nat_lt s.turns max_turns)

    counted : (b : Bool) → Grows s (cond b (throw_kind ArgumentError s) (cond (nat_lt (length here.around) max_depth) (with_turn (enter here n cell f params rest) s) (cond (nat_lt s.turns max_turns) (ends end.TooDeep s) (ends end.TurnsSpent s))))
    counted true = kind_grows ArgumentError s
    counted false = entered (nat_lt (length here.around) max_depth)

found_grows : (code : List Slot) (here : Here) (n cell : ℕ) (f : Option FunCell) (rest : List Val) (s : State) → Grows s (call_found code here n cell f rest s)
found_grows code here n cell None rest s = kind_grows TypeError s
found_grows code here n cell (Some f) rest s = function_grows here n cell f (unwrap_or (params_at code f.place) 0) rest s

call_grows : (code : List Slot) (here : Here) (n : ℕ) (v : Val) (rest : List Val) (s : State) → Grows s (call_value code here n (v, rest) s)
call_grows code here n Null rest s = kind_grows TypeError s
call_grows code here n (Truth t) rest s = kind_grows TypeError s
call_grows code here n (Int z) rest s = kind_grows TypeError s
call_grows code here n (Ref cell) rest s = found_grows code here n cell (function_at s.heap cell) rest s

give_grows : (v : Val) (here : Here) (fs : List Frame) (s : State) → Grows s (give_back v here fs s)
give_grows v here [] s = go (nat_le (s.units + length (shown s.heap v)) max_units)
  where
    go : (b : Bool) → Grows s (cond b (ends (end.Done (shown s.heap v)) (record (record (cut_to [] s) { throws = [] }) { units = s.units + length (shown s.heap v) })) (ends end.MemorySpent s))
    go true = same refl
    go false = same refl
give_grows v here (f ∷ fs) s = same refl

write_grows : (u : ℕ) (v : Val) (o : Option Upvalue) (s : State) → (write_to u v o s).trace ≡ s.trace
write_grows u v None s = refl
write_grows u v (Some (Opened p)) s = refl
write_grows u v (Some (Closed x)) s = refl

numbered_grows : (u : Option ℕ) (v : Val) (s : State) → (write_numbered u v s).trace ≡ s.trace
numbered_grows None v s = refl
numbered_grows (Some u) v s = write_grows u v (slice_get s.upvalues u) s

jump_grows : (here : Here) (d : ℤ) (s : State) → Grows s (jump_or_back here d s)
jump_grows here (pos n) s = same refl
jump_grows here (negsuc n) s = turn_grows (jump here (negsuc n)) s (λ s1 e. e)

global_grows : (fixed : Fixed) (here : Here) (ks rest : List Val) (s : State) → Grows s (get_global fixed here ks rest s)
global_grows fixed here [] rest s = same refl
global_grows fixed here (k ∷ ks) rest s = result_grows (property_path (global_of fixed s (named_text s.heap k)) ks s) (on_and_push here rest) s (λ a. same refl)

binary_grows : (b : BinaryOp) (here : Here) (s : State) → Grows s (binary b here s)
binary_grows b here s =
    let x = top_of here.floor s.stack in
    let y = top_of here.floor x.1 in
    result_grows (operated b s.heap x.0 y.0) (on_and_push here y.1) s (λ a. same refl)

global_call_grows : (f : Native) (here : Here) (operands : List Val × List Val) (s : State) → Grows s (call_global f here operands s)
global_call_grows f here operands s = go (is_fetch f && nat_le most_requests (count_by is_request s.trace))
  where
    go : (b : Bool) → Grows s (cond b (ends end.TooManyFetches s) (of_native here operands.1 (called f (reverse operands.0) s.heap (spent_by s)) s))
    go true = same refl
    go false = native_grows here operands.1 (called f (reverse operands.0) s.heap (spent_by s)) s

get_grows : (here : Here) (s : State) → Grows s (let k = top_of here.floor s.stack in let x = top_of here.floor k.1 in on_result (accessed s.heap x.0 k.0) (on_and_push here x.1) s)
get_grows here s =
    let k = top_of here.floor s.stack in
    let x = top_of here.floor k.1 in
    result_grows (accessed s.heap x.0 k.0) (on_and_push here x.1) s (λ a. same refl)

nullish_grows : (here : Here) (s : State) (b : Bool) → Grows s (let k = top_of here.floor s.stack in let x = top_of here.floor k.1 in cond b (on_and_push here x.1 Null s) (on_result (accessed s.heap x.0 k.0) (on_and_push here x.1) s))
nullish_grows here s true = same refl
nullish_grows here s false = get_grows here s

test_grows : (d : ℤ) (here : Here) (s : State) (b : Bool) → Grows s (let t = top_of here.floor s.stack in cond b (on_with here t.1 s) (jump here d (cut_to t.1 s)))
test_grows d here s true = same refl
test_grows d here s false = same refl

null_grows : (d : ℤ) (here : Here) (s : State) (b : Bool) → Grows s (cond b (on_with here s.stack s) (jump here d s))
null_grows d here s true = same refl
null_grows d here s false = same refl

make_grows : (here : Here) (captures : List Capture) (s : State) → Grows s (make_function here captures s)
make_grows here captures s =
    let numbers = capture_all (suc (length s.stack)) here.frame (captured_by s here.frame) captures s.upvalues in
    outcome_grows (made (Fun (record { place = here.frame.place + header; captured = numbers.0 })) s.heap s.units)
    (λ v s1. record (on_and_push here s1.stack v s1) { upvalues = numbers.1 }) s (λ a s1 e. e)

act_grows : (fixed : Fixed) (code : List Slot) (p : Op) (here : Here) (s : State) → Grows s (act fixed code p here s)
unfolding act
act_grows fixed code (o.GetGlobal n) here s = global_grows fixed here (taken here.floor n s.stack).0 (taken here.floor n s.stack).1 s
act_grows fixed code (o.CallGlobal f n) here s = global_call_grows f here (taken here.floor n s.stack) s
act_grows fixed code (o.And n) here s = same refl
act_grows fixed code (o.Or n) here s = same refl
act_grows fixed code o.Not here s = same refl
act_grows fixed code o.Plus here s = binary_grows _ here s
act_grows fixed code o.Minus here s = binary_grows _ here s
act_grows fixed code o.Multiply here s = binary_grows _ here s
act_grows fixed code o.Eq here s = binary_grows _ here s
act_grows fixed code o.NotEq here s = binary_grows _ here s
act_grows fixed code o.Gt here s = binary_grows _ here s
act_grows fixed code o.GtEq here s = binary_grows _ here s
act_grows fixed code o.Lt here s = binary_grows _ here s
act_grows fixed code o.LtEq here s = binary_grows _ here s
act_grows fixed code o.IsIn here s = binary_grows _ here s
act_grows fixed code o.NotIn here s = binary_grows _ here s
act_grows fixed code o.PushTrue here s = same refl
act_grows fixed code o.PushFalse here s = same refl
act_grows fixed code o.PushNull here s = same refl
act_grows fixed code (o.Str text) here s = same refl
act_grows fixed code (o.Integer z) here s = same refl
act_grows fixed code o.Pop here s = same refl
act_grows fixed code (o.GetLocal i) here s = same refl
act_grows fixed code (o.SetLocal i) here s = same refl
act_grows fixed code o.Return here s = give_grows (top_of here.floor s.stack).0 here here.around s
act_grows fixed code (o.Jump d) here s = jump_grows here d s
act_grows fixed code (o.JumpIfFalse d) here s = test_grows d here s (truth_of s.heap (top_of here.floor s.stack).0)
act_grows fixed code (o.Dict n) here s = let t = taken here.floor (n + n) s.stack in outcome_grows (dictionary_made (in_pairs (reverse t.0)) s.heap s.units) (on_and_push here t.1) s (λ a s1 e. e)
act_grows fixed code (o.Array n) here s = let t = taken here.floor n s.stack in outcome_grows (made (Array (reverse t.0)) s.heap s.units) (on_and_push here t.1) s (λ a s1 e. e)
act_grows fixed code o.GetProperty here s = get_grows here s
act_grows fixed code o.SetProperty here s =
    let v = top_of here.floor s.stack in
    let k = top_of here.floor v.1 in
    let x = top_of here.floor k.1 in
    outcome_grows (assigned s.heap x.0 k.0 v.0 s.units) (λ u s1. on_with here x.1 s1) s (λ a s1 e. e)
act_grows fixed code (o.JumpIfStackNotNull d) here s = null_grows d here s (is_null (top_of here.floor s.stack).0)
act_grows fixed code o.GetPropertyNullish here s = nullish_grows here s (is_null (top_of here.floor (top_of here.floor s.stack).1).0)
act_grows fixed code o.Throw here s = throw_grows s.throws (top_of here.floor s.stack).0 s s refl
act_grows fixed code (o.Try d) here s = same refl
act_grows fixed code o.PopTry here s = same refl
act_grows fixed code (o.Callable name params body captures) here s = make_grows here captures s
act_grows fixed code (o.CallLocal n) here s = call_grows code here n (top_of here.floor s.stack).0 (top_of here.floor s.stack).1 s
act_grows fixed code (o.GetUpvalue i) here s = same refl
act_grows fixed code (o.SetUpvalue i) here s =
    let t = top_of here.floor s.stack in
    let s1 : State = on_with here t.1 s in
    same (numbered_grows (slice_get (captured_by s1 here.frame) i) t.0 s1)
act_grows fixed code o.CloseUpvalue here s = same refl

slot_grows : (fixed : Fixed) (code : List Slot) (x : Option Slot) (f : Frame) (fs : List Frame) (s : State) → Grows s (at_slot fixed code x f fs s)
slot_grows fixed code (Some (Begins p)) f fs s = act_grows fixed code p (here_at (f.place + size p) f fs s) s
slot_grows fixed code (Some BodyEnds) f fs s = give_grows Null (here_at f.place f fs s) fs s
slot_grows fixed code (Some Operand) f fs s = give_grows Null (here_at f.place f fs s) fs s
slot_grows fixed code None f fs s = give_grows Null (here_at f.place f fs s) fs s

frames_grow : (fixed : Fixed) (code : List Slot) (fs : List Frame) (s : State) → Grows s (in_frames fixed code fs s)
frames_grow fixed code [] s = same refl
frames_grow fixed code (f ∷ fs) s = slot_grows fixed code (slice_get code f.place) f fs s

reply_grows : (rs : List Reply) (s : State) → Grows s (take_reply rs s)
reply_grows [] s = same refl
reply_grows (r ∷ rs) s = outcome_grows (response r.status r.body s.heap s.units) (λ v s1. push v (record s1 { replies = rs; mode = Running })) s (λ a s1 e. e)

in_grows : (m : Mode) (fixed : Fixed) (code : List Slot) (s : State) → Grows s (step_in m fixed code s)
in_grows Running fixed code s = frames_grow fixed code s.frames s
in_grows Waiting fixed code s = reply_grows s.replies s
in_grows (Ended e) fixed code s = same refl

pub steps_grow : (fixed : Fixed) (code : List Slot) (k : ℕ) (s : State) → Grows s (steps fixed code k s)
steps_grow fixed code zero s = same refl
steps_grow fixed code (suc k) s =
    let one = in_grows s.mode fixed code s in
    let more = steps_grow fixed code k (step fixed code s) in
    record { more = one.more ++ more.more; is = more.is ∙ ap (λ t. t ++ more.more) one.is ∙ append_assoc s.trace one.more more.more }
