-- A machine that goes on comes to wait behind a request alone.
use Rattle.std.proofs.Common.{◌≡◌, ℕ, zero, suc, ◌+◌, ◌-◌, ◌≤◌, ℤ, pos, negsuc, List, [], ◌∷◌, ◌++◌, length, Option, Some, None, Bool, true, false, cond, Result, Ok, Err, ◌⊎◌, inl, inr, refl, sym, ap, ◌∙◌, subst, arith}
use Rattle.std.specs.Prelude.{◌&&◌, nat_lt, nat_le, unwrap_or, slice_get, reverse, count_by, IsSome, option_and_then}
use Rattle.std.specs.List.{last_or}
use Rattle.hog_value.specs.declared.cell.FunCell.{FunCell}
use Rattle.hog_value.specs.declared.native.Native.{Native}
use Rattle.hog_value.specs.declared.trace.Request.{Request}
use Rattle.hog_value.specs.declared.trace.TraceItem.{TraceItem}
use Rattle.hog_value.specs.declared.trace.TraceItem.TheVariants.{Printed, Asked}
use Rattle.hog_value.specs.declared.trace.End.{End}
use Rattle.hog_value.specs.declared.trace.End.TheVariants as end
use Rattle.hog_value.specs.declared.value.Kind.{Kind}
use Rattle.hog_value.specs.declared.value.Kind.TheVariants.{TypeError, ArgumentError}
use Rattle.hog_value.specs.Values.{Val}
use Rattle.hog_value.specs.declared.value.Value.TheVariants.{Null, Bool as Truth, Int, Ref}
use Rattle.hog_value.specs.Meters.{max_turns, max_units, max_depth}
use Rattle.hog_value.specs.Operations as op
use Rattle.hog_value.specs.Operations.{Outcome, made, truth_of}
use Rattle.hog_json.specs.Texts.{shown, named_text}
use Rattle.hog_library.specs.Called as native
use Rattle.hog_library.specs.Called.{called}
use Rattle.hog_library.specs.Cells.{thrown, response}
use Rattle.hog_tree.specs.declared.tree.BinaryOp.{BinaryOp}
use Rattle.hog_ops.specs.declared.capture.Capture.{Capture}
use Rattle.hog_ops.specs.Plain as o
use Rattle.hog_ops.specs.Plain.{Op}
use Rattle.hog_ops.specs.Table.{size}
use Rattle.hog_value.specs.Cells.{Array, Fun}
use Rattle.hog_meaning.specs.Operators.{operated, accessed, assigned, dictionary_made}
use Rattle.hog_meaning.specs.World.{Fixed, Reply}
use Rattle.hog_meaning.specs.Meaning.{most_requests, is_request, is_fetch, is_null}
use Rattle.vm_course.specs.State.{Slot, Begins, BodyEnds, Operand, Upvalue, Opened, Closed, Frame, ThrowFrame, Running, Waiting, Ended, Mode, State, header, function_at, params_at}
use Rattle.vm_course.specs.Stack.{keep, push, cut_to, top_of, taken, captured_by, capture_all, write_to, write_numbered, write_upvalue}
use Rattle.vm_course.specs.Throws.{ends, with_heap, ends_shown, caught, throw_to, throw_value, throw_made, throw_kind, on_result, on_outcome, with_turn}
use Rattle.vm_course.specs.Step.{Here, on_with, on_and_push, jump, jump_or_back, in_pairs, enter, get_global, of_native, call_global, call_function, call_found, call_value, give_back, make_function, act, at_slot, here_at, in_frames, take_reply, step_in, step, property_path, global_of, spent_by, binary}
use Rattle.vm_operations.specs.Machine.{request_of, asked_in, asked_by}

-- where the second waits, so does the first, or there is a request behind which it waits
record Loud (s s1 : State) : Type 0 where
  pub behind : s1.mode ≡ Waiting → (s.mode ≡ Waiting) ⊎ IsSome (asked_by s1)

-- where the second waits, so does the first, with the same trace
record Quiet (s s1 : State) : Type 0 where
  pub waits : s1.mode ≡ Waiting → s.mode ≡ Waiting
  pub trace : s1.mode ≡ Waiting → s1.trace ≡ s.trace

loud : {s s1 : State} → Quiet s s1 → Loud s s1
loud q = record { behind = λ w. inl (q.waits w) }

same : {s s1 : State} → s1.mode ≡ s.mode → Loud s s1
same m = record { behind = λ w. inl (sym m ∙ w) }

not_waiting : {A : Type 0} (e : End) → Ended e ≡ Waiting → A
not_waiting e w = cc

over : {s s1 : State} (e : End) → s1.mode ≡ Ended e → Loud s s1
over e m = record { behind = λ w. not_waiting e (sym m ∙ w) }

quiet_end : {s s1 : State} (e : End) → s1.mode ≡ Ended e → Quiet s s1
quiet_end e m = record { waits = λ w. not_waiting e (sym m ∙ w); trace = λ w. not_waiting e (sym m ∙ w) }

last_asked : (trace : List TraceItem) (request : Request) → IsSome (asked_in Waiting (trace ++ Asked request ∷ []))
last_asked trace request = go None trace
  where
    go : (o : Option TraceItem) (items : List TraceItem) → IsSome (option_and_then request_of (last_or o (items ++ Asked request ∷ [])))
    go o [] = refl
    go o (x ∷ xs) = go (Some x) xs

last_at : {A : Type 0} (x : A) (xs : List A) → last_or (Some x) xs ≡ slice_get (x ∷ xs) (length xs)
last_at x [] = refl
last_at x (y ∷ ys) = last_at y ys

-- the last of a list, by its place
pub last_is : {A : Type 0} (xs : List A) → slice_get xs (length xs - 1) ≡ last_or None xs
last_is [] = refl
last_is (x ∷ xs) = let at : length (x ∷ xs) - 1 ≡ length xs = omega arith in ap (slice_get (x ∷ xs)) at ∙ sym (last_at x xs)

-- a value that is thrown or shown
shown_quiet : (make : List ℕ → End) (v : Val) (before s : State) → before.mode ≡ s.mode → before.trace ≡ s.trace → Quiet s (ends_shown make v before s)
shown_quiet make v before s m t = go (nat_le (s.units + length (shown s.heap v)) max_units)
  where
    go : (b : Bool) → Quiet s (cond b (ends (make (shown s.heap v)) (record s { units = s.units + length (shown s.heap v) })) (ends end.MemorySpent before))
    go true = quiet_end (make (shown s.heap v)) refl
    go false = quiet_end end.MemorySpent refl

caught_quiet : (v : Val) (t : ThrowFrame) (ts : List ThrowFrame) (fs : List Frame) (s : State) → Quiet s (caught v t ts fs s)
caught_quiet v t ts [] s = record { waits = λ w. w; trace = λ w. refl }
caught_quiet v t ts (f ∷ fs) s = record { waits = λ w. w; trace = λ w. refl }

throw_quiet : (ts : List ThrowFrame) (v : Val) (before s : State) → before.mode ≡ s.mode → before.trace ≡ s.trace → Quiet s (throw_to ts v before s)
throw_quiet [] v before s m t = shown_quiet end.Threw v before s m t
throw_quiet (t ∷ ts) v before s m e = caught_quiet v t ts (keep t.frames s.frames) s

kind_quiet : (kind : Kind) (s : State) → Quiet s (throw_kind kind s)
unfolding throw_kind
kind_quiet kind s = go (thrown kind s.heap s.units)
  where
    go : (o : Outcome FunCell Val) → Quiet s (throw_made s o)
    go (op.Gives v h units) = let q = throw_quiet s.throws v s (with_heap h units s) refl refl in record { waits = q.waits; trace = q.trace }
    go (op.Throws k) = quiet_end end.MemorySpent refl
    go op.Spends = quiet_end end.MemorySpent refl

kind_waits : (kind : Kind) (s : State) → Loud s (throw_kind kind s)
kind_waits kind s = loud (kind_quiet kind s)

result_waits : {A : Type 0} (r : Result A Kind) (go : A → State → State) (s : State) → ((a : A) → Loud s (go a s)) → Loud s (on_result r go s)
result_waits (Ok a) go s k = k a
result_waits (Err kind) go s k = kind_waits kind s

outcome_waits : {A : Type 0} (o : Outcome FunCell A) (go : A → State → State) (s : State) → ((a : A) (s1 : State) → s1.mode ≡ s.mode → (go a s1).mode ≡ s.mode) → Loud s (on_outcome o go s)
outcome_waits (op.Gives a h units) go s k = same (k a (with_heap h units s) refl)
outcome_waits (op.Throws kind) go s k = kind_waits kind s
outcome_waits op.Spends go s k = over end.MemorySpent refl

turn_waits : (go : State → State) (s : State) → ((s1 : State) → s1.mode ≡ s.mode → (go s1).mode ≡ s.mode) → Loud s (with_turn go s)
turn_waits go s k = either (nat_lt s.turns max_turns)
  where
    either : (b : Bool) → Loud s (cond b (go (record s { turns = s.turns + 1 })) (ends end.TurnsSpent s))
    either true = same (k (record s { turns = s.turns + 1 }) refl)
    either false = over end.TurnsSpent refl

native_waits : (here : Here) (rest : List Val) (c : native.Called FunCell) (s : State) → Loud s (of_native here rest c s)
native_waits here rest (native.Gives v h m) s = same refl
native_waits here rest (native.Prints text m) s = same refl
native_waits here rest (native.Throws kind) s = kind_waits kind s
native_waits here rest (native.Asks request m) s = record { behind = λ w. inr (last_asked s.trace request) }
native_waits here rest native.TurnsSpent s = over end.TurnsSpent refl
native_waits here rest native.UnitsSpent s = over end.MemorySpent refl

function_waits : (here : Here) (n cell : ℕ) (f : FunCell) (params : ℕ) (rest : List Val) (s : State) → Loud s (call_function here n cell f params rest s)
function_waits here n cell f params rest s = counted (nat_lt params n)
  where
    deep : (b : Bool) → Loud s (cond b (ends end.TooDeep s) (ends end.TurnsSpent s))
    deep true = over end.TooDeep refl
    deep false = over end.TurnsSpent refl

    entered : (b : Bool) → Loud s (cond b (with_turn (enter here n cell f params rest) s) (cond (nat_lt s.turns max_turns) (ends end.TooDeep s) (ends end.TurnsSpent s)))
    entered true = turn_waits (enter here n cell f params rest) s (λ s1 e. e)
    entered false = deep (nat_lt s.turns max_turns)

    counted : (b : Bool) → Loud s (cond b (throw_kind ArgumentError s) (cond (nat_lt (length here.around) max_depth) (with_turn (enter here n cell f params rest) s) (cond (nat_lt s.turns max_turns) (ends end.TooDeep s) (ends end.TurnsSpent s))))
    counted true = kind_waits ArgumentError s
    counted false = entered (nat_lt (length here.around) max_depth)

found_waits : (code : List Slot) (here : Here) (n cell : ℕ) (f : Option FunCell) (rest : List Val) (s : State) → Loud s (call_found code here n cell f rest s)
found_waits code here n cell None rest s = kind_waits TypeError s
found_waits code here n cell (Some f) rest s = function_waits here n cell f (unwrap_or (params_at code f.place) 0) rest s

call_waits : (code : List Slot) (here : Here) (n : ℕ) (v : Val) (rest : List Val) (s : State) → Loud s (call_value code here n (v, rest) s)
call_waits code here n Null rest s = kind_waits TypeError s
call_waits code here n (Truth t) rest s = kind_waits TypeError s
call_waits code here n (Int z) rest s = kind_waits TypeError s
call_waits code here n (Ref cell) rest s = found_waits code here n cell (function_at s.heap cell) rest s

give_waits : (v : Val) (here : Here) (fs : List Frame) (s : State) → Loud s (give_back v here fs s)
give_waits v here [] s = go (nat_le (s.units + length (shown s.heap v)) max_units)
  where
    go : (b : Bool) → Loud s (cond b (ends (end.Done (shown s.heap v)) (record (record (cut_to [] s) { throws = [] }) { units = s.units + length (shown s.heap v) })) (ends end.MemorySpent s))
    go true = over (end.Done (shown s.heap v)) refl
    go false = over end.MemorySpent refl
give_waits v here (f ∷ fs) s = same refl

write_waits : (u : ℕ) (v : Val) (o : Option Upvalue) (s : State) → (write_to u v o s).mode ≡ s.mode
write_waits u v None s = refl
write_waits u v (Some (Opened p)) s = refl
write_waits u v (Some (Closed x)) s = refl

numbered_waits : (u : Option ℕ) (v : Val) (s : State) → (write_numbered u v s).mode ≡ s.mode
numbered_waits None v s = refl
numbered_waits (Some u) v s = write_waits u v (slice_get s.upvalues u) s

jump_waits : (here : Here) (d : ℤ) (s : State) → Loud s (jump_or_back here d s)
jump_waits here (pos n) s = same refl
jump_waits here (negsuc n) s = turn_waits (jump here (negsuc n)) s (λ s1 e. e)

global_waits : (fixed : Fixed) (here : Here) (ks rest : List Val) (s : State) → Loud s (get_global fixed here ks rest s)
global_waits fixed here [] rest s = same refl
global_waits fixed here (k ∷ ks) rest s = result_waits (property_path (global_of fixed s (named_text s.heap k)) ks s) (on_and_push here rest) s (λ a. same refl)

binary_waits : (b : BinaryOp) (here : Here) (s : State) → Loud s (binary b here s)
binary_waits b here s =
    let x = top_of here.floor s.stack in
    let y = top_of here.floor x.1 in
    result_waits (operated b s.heap x.0 y.0) (on_and_push here y.1) s (λ a. same refl)

global_call_waits : (f : Native) (here : Here) (operands : List Val × List Val) (s : State) → Loud s (call_global f here operands s)
global_call_waits f here operands s = go (is_fetch f && nat_le most_requests (count_by is_request s.trace))
  where
    go : (b : Bool) → Loud s (cond b (ends end.TooManyFetches s) (of_native here operands.1 (called f (reverse operands.0) s.heap (spent_by s)) s))
    go true = over end.TooManyFetches refl
    go false = native_waits here operands.1 (called f (reverse operands.0) s.heap (spent_by s)) s

get_waits : (here : Here) (s : State) → Loud s (let k = top_of here.floor s.stack in let x = top_of here.floor k.1 in on_result (accessed s.heap x.0 k.0) (on_and_push here x.1) s)
get_waits here s =
    let k = top_of here.floor s.stack in
    let x = top_of here.floor k.1 in
    result_waits (accessed s.heap x.0 k.0) (on_and_push here x.1) s (λ a. same refl)

nullish_waits : (here : Here) (s : State) (b : Bool) → Loud s (let k = top_of here.floor s.stack in let x = top_of here.floor k.1 in cond b (on_and_push here x.1 Null s) (on_result (accessed s.heap x.0 k.0) (on_and_push here x.1) s))
nullish_waits here s true = same refl
nullish_waits here s false = get_waits here s

test_waits : (d : ℤ) (here : Here) (s : State) (b : Bool) → Loud s (let t = top_of here.floor s.stack in cond b (on_with here t.1 s) (jump here d (cut_to t.1 s)))
test_waits d here s true = same refl
test_waits d here s false = same refl

null_waits : (d : ℤ) (here : Here) (s : State) (b : Bool) → Loud s (cond b (on_with here s.stack s) (jump here d s))
null_waits d here s true = same refl
null_waits d here s false = same refl

make_waits : (here : Here) (captures : List Capture) (s : State) → Loud s (make_function here captures s)
make_waits here captures s =
    let numbers = capture_all (suc (length s.stack)) here.frame (captured_by s here.frame) captures s.upvalues in
    outcome_waits (made (Fun (record { place = here.frame.place + header; captured = numbers.0 })) s.heap s.units)
    (λ v s1. record (on_and_push here s1.stack v s1) { upvalues = numbers.1 }) s (λ a s1 e. e)

act_waits : (fixed : Fixed) (code : List Slot) (p : Op) (here : Here) (s : State) → Loud s (act fixed code p here s)
unfolding act
act_waits fixed code (o.GetGlobal n) here s = global_waits fixed here (taken here.floor n s.stack).0 (taken here.floor n s.stack).1 s
act_waits fixed code (o.CallGlobal f n) here s = global_call_waits f here (taken here.floor n s.stack) s
act_waits fixed code (o.And n) here s = same refl
act_waits fixed code (o.Or n) here s = same refl
act_waits fixed code o.Not here s = same refl
act_waits fixed code o.Plus here s = binary_waits _ here s
act_waits fixed code o.Minus here s = binary_waits _ here s
act_waits fixed code o.Multiply here s = binary_waits _ here s
act_waits fixed code o.Eq here s = binary_waits _ here s
act_waits fixed code o.NotEq here s = binary_waits _ here s
act_waits fixed code o.Gt here s = binary_waits _ here s
act_waits fixed code o.GtEq here s = binary_waits _ here s
act_waits fixed code o.Lt here s = binary_waits _ here s
act_waits fixed code o.LtEq here s = binary_waits _ here s
act_waits fixed code o.IsIn here s = binary_waits _ here s
act_waits fixed code o.NotIn here s = binary_waits _ here s
act_waits fixed code o.PushTrue here s = same refl
act_waits fixed code o.PushFalse here s = same refl
act_waits fixed code o.PushNull here s = same refl
act_waits fixed code (o.Str text) here s = same refl
act_waits fixed code (o.Integer z) here s = same refl
act_waits fixed code o.Pop here s = same refl
act_waits fixed code (o.GetLocal i) here s = same refl
act_waits fixed code (o.SetLocal i) here s = same refl
act_waits fixed code o.Return here s = give_waits (top_of here.floor s.stack).0 here here.around s
act_waits fixed code (o.Jump d) here s = jump_waits here d s
act_waits fixed code (o.JumpIfFalse d) here s = test_waits d here s (truth_of s.heap (top_of here.floor s.stack).0)
act_waits fixed code (o.Dict n) here s = let t = taken here.floor (n + n) s.stack in outcome_waits (dictionary_made (in_pairs (reverse t.0)) s.heap s.units) (on_and_push here t.1) s (λ a s1 e. e)
act_waits fixed code (o.Array n) here s = let t = taken here.floor n s.stack in outcome_waits (made (Array (reverse t.0)) s.heap s.units) (on_and_push here t.1) s (λ a s1 e. e)
act_waits fixed code o.GetProperty here s = get_waits here s
act_waits fixed code o.SetProperty here s =
    let v = top_of here.floor s.stack in
    let k = top_of here.floor v.1 in
    let x = top_of here.floor k.1 in
    outcome_waits (assigned s.heap x.0 k.0 v.0 s.units) (λ u s1. on_with here x.1 s1) s (λ a s1 e. e)
act_waits fixed code (o.JumpIfStackNotNull d) here s = null_waits d here s (is_null (top_of here.floor s.stack).0)
act_waits fixed code o.GetPropertyNullish here s = nullish_waits here s (is_null (top_of here.floor (top_of here.floor s.stack).1).0)
act_waits fixed code o.Throw here s = loud (throw_quiet s.throws (top_of here.floor s.stack).0 s s refl refl)
act_waits fixed code (o.Try d) here s = same refl
act_waits fixed code o.PopTry here s = same refl
act_waits fixed code (o.Callable name params body captures) here s = make_waits here captures s
act_waits fixed code (o.CallLocal n) here s = call_waits code here n (top_of here.floor s.stack).0 (top_of here.floor s.stack).1 s
act_waits fixed code (o.GetUpvalue i) here s = same refl
act_waits fixed code (o.SetUpvalue i) here s =
    let t = top_of here.floor s.stack in
    let s1 : State = on_with here t.1 s in
    same (numbered_waits (slice_get (captured_by s1 here.frame) i) t.0 s1)
act_waits fixed code o.CloseUpvalue here s = same refl

slot_waits : (fixed : Fixed) (code : List Slot) (x : Option Slot) (f : Frame) (fs : List Frame) (s : State) → Loud s (at_slot fixed code x f fs s)
slot_waits fixed code (Some (Begins p)) f fs s = act_waits fixed code p (here_at (f.place + size p) f fs s) s
slot_waits fixed code (Some BodyEnds) f fs s = give_waits Null (here_at f.place f fs s) fs s
slot_waits fixed code (Some Operand) f fs s = give_waits Null (here_at f.place f fs s) fs s
slot_waits fixed code None f fs s = give_waits Null (here_at f.place f fs s) fs s

frames_wait : (fixed : Fixed) (code : List Slot) (fs : List Frame) (s : State) → Loud s (in_frames fixed code fs s)
frames_wait fixed code [] s = same refl
frames_wait fixed code (f ∷ fs) s = slot_waits fixed code (slice_get code f.place) f fs s

-- one operation of a machine that goes on
pub step_waits : (fixed : Fixed) (code : List Slot) (s : State) → s.mode ≡ Running → (step fixed code s).mode ≡ Waiting → IsSome (asked_by (step fixed code s))
step_waits fixed code s runs =
    subst (λ (m : Mode). (step_in m fixed code s).mode ≡ Waiting → IsSome (asked_by (step_in m fixed code s))) (sym runs) (λ w. running ((frames_wait fixed code s.frames s).behind w))
  where
    running : (s.mode ≡ Waiting) ⊎ IsSome (asked_by (in_frames fixed code s.frames s)) → IsSome (asked_by (in_frames fixed code s.frames s))
    running (inl w) = absurd (let no : Running ≡ Waiting = sym runs ∙ w in cc)
    running (inr some) = some

asked_same : (s s1 : State) → s.mode ≡ Waiting → s1.mode ≡ Waiting → s1.trace ≡ s.trace → IsSome (asked_by s) → IsSome (asked_by s1)
asked_same s s1 m m1 t some =
    subst (λ (m : Mode). IsSome (asked_in m s1.trace)) (sym m1) (subst (λ (t : List TraceItem). IsSome (asked_in Waiting t)) (sym t) (subst (λ (m : Mode). IsSome (asked_in m s.trace)) m some))

-- a reply that is taken in: where the machine waits on, it does so behind the same request
pub reply_waits : (r : Reply) (s : State) → s.mode ≡ Waiting → IsSome (asked_by s) → (take_reply (r ∷ []) s).mode ≡ Waiting → IsSome (asked_by (take_reply (r ∷ []) s))
reply_waits r s m some = go (response r.status r.body s.heap s.units)
  where
    then : Val → State → State
    then v s1 = push v (record s1 { replies = []; mode = Running })

    go : (o : Outcome FunCell Val) → (on_outcome o then s).mode ≡ Waiting → IsSome (asked_by (on_outcome o then s))
    go (op.Gives v h units) w = absurd (let no : Running ≡ Waiting = w in cc)
    go (op.Throws kind) w = asked_same s (throw_kind kind s) m w ((kind_quiet kind s).trace w) some
    go op.Spends w = not_waiting end.MemorySpent w
