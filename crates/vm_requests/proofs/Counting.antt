-- Operation by operation: no request is made but at a wait, and no reply is taken in but for one.
use Rattle.std.proofs.Common.{◌≡◌, ℕ, zero, suc, ◌+◌, ◌≤◌, ℤ, pos, negsuc, List, [], ◌∷◌, ◌++◌, length, Option, Some, None, Bool, true, false, cond, Result, Ok, Err, refl, sym, ap, ◌∙◌, subst, arith}
use Rattle.std.specs.Prelude.{◌&&◌, nat_lt, nat_le, unwrap_or, slice_get, reverse, count_by}
use Rattle.std.proofs.lemmas.List.Sums.{sum_by-append}
use Rattle.hog_value.specs.declared.cell.FunCell.{FunCell}
use Rattle.hog_value.specs.declared.native.Native.{Native}
use Rattle.hog_value.specs.declared.trace.Request.{Request}
use Rattle.hog_value.specs.declared.trace.TraceItem.{TraceItem}
use Rattle.hog_value.specs.declared.trace.TraceItem.TheVariants.{Printed, Asked}
use Rattle.hog_value.specs.declared.trace.End.{End}
use Rattle.hog_value.specs.declared.trace.End.TheVariants as end
use Rattle.hog_value.specs.declared.value.Kind.{Kind}
use Rattle.hog_value.specs.declared.value.Kind.TheVariants.{TypeError, ArgumentError}
use Rattle.hog_value.specs.Values.{Val}
use Rattle.hog_value.specs.declared.value.Value.TheVariants.{Null, Bool as Truth, Int, Ref}
use Rattle.hog_value.specs.Meters.{max_turns, max_units, max_depth}
use Rattle.hog_value.specs.Operations as op
use Rattle.hog_value.specs.Operations.{Outcome, made, truth_of}
use Rattle.hog_json.specs.Texts.{shown, named_text}
use Rattle.hog_library.specs.Called as native
use Rattle.hog_library.specs.Called.{called}
use Rattle.hog_library.specs.Cells.{thrown, response}
use Rattle.hog_tree.specs.declared.tree.BinaryOp.{BinaryOp}
use Rattle.hog_ops.specs.declared.capture.Capture.{Capture}
use Rattle.hog_ops.specs.Plain as o
use Rattle.hog_ops.specs.Plain.{Op, Ops}
use Rattle.hog_ops.specs.Table.{size}
use Rattle.hog_value.specs.Cells.{Array, Fun}
use Rattle.hog_meaning.specs.Operators.{operated, accessed, assigned, dictionary_made}
use Rattle.hog_meaning.specs.World.{Fixed, Reply}
use Rattle.hog_meaning.specs.Program.{first_cells}
use Rattle.hog_meaning.specs.Meaning.{most_requests, is_request, is_fetch, is_null}
use Rattle.vm_course.specs.State.{Slot, code_slots, Begins, BodyEnds, Operand, Upvalue, Opened, Closed, Frame, ThrowFrame, Running, Waiting, Ended, Mode, State, header, function_at, params_at}
use Rattle.vm_course.specs.Stack.{keep, push, cut_to, top_of, taken, captured_by, capture_all, write_to, write_numbered}
use Rattle.vm_course.specs.Throws.{ends, with_heap, ends_shown, caught, throw_to, throw_made, throw_kind, on_result, on_outcome, with_turn}
use Rattle.vm_course.specs.Step.{Here, on_with, on_and_push, jump, jump_or_back, in_pairs, enter, get_global, of_native, call_global, call_function, call_found, call_value, give_back, make_function, act, at_slot, here_at, in_frames, take_reply, step_in, step, property_path, global_of, spent_by, binary}
use Rattle.vm_course.specs.States.{requests_in}
use Rattle.vm_course.specs.Course.{literals_of_code, started, fixed_by, steps, machine}
use Rattle.vm_course.proofs.OnCourseReplies.{kind_same, step_leaves}
use Rattle.vm_requests.specs.Requests.{open_requests, HasAsked, RepliesAnswerRequests}

-- the requests that have a reply are no fewer in the second
record Counts (s s1 : State) : Type 0 where
  le : requests_in s.trace + open_requests s1.mode ≤ requests_in s1.trace + open_requests s.mode

abbrev Alike : State → State → Type 0
Alike s s1 = (s1.mode ≡ s.mode) × (s1.trace ≡ s.trace)

still : {s s1 : State} → s1.mode ≡ s.mode → s1.trace ≡ s.trace → Counts s s1
still m t = let requests = ap requests_in t in let unanswered = ap open_requests m in record { le = omega (arith, requests, unanswered) }

alike : {s s1 : State} → Alike s s1 → Counts s s1
alike a = still a.0 a.1

over : {s s1 : State} (e : End) → s1.mode ≡ Ended e → s1.trace ≡ s.trace → Counts s s1
over e m t = let requests = ap requests_in t in let unanswered = ap open_requests m in record { le = omega (arith, requests, unanswered) }

-- an item more
requests_more : (trace : List TraceItem) (item : TraceItem) → requests_in (trace ++ item ∷ []) ≡ requests_in trace + cond (is_request item) 1 0
requests_more trace item = omega (arith, sum_by-append (λ (x : TraceItem). cond (is_request x) 1 0) trace (item ∷ []))

printed : (trace : List TraceItem) (text : List ℕ) → requests_in (trace ++ Printed text ∷ []) ≡ requests_in trace
printed trace text = requests_more trace (Printed text) ∙ omega arith

asked : (trace : List TraceItem) (request : Request) → requests_in (trace ++ Asked request ∷ []) ≡ requests_in trace + 1
asked trace request = requests_more trace (Asked request)

said_more : {s s1 : State} (item : TraceItem) → s1.mode ≡ s.mode → requests_in s1.trace ≡ requests_in s.trace → Counts s s1
said_more item m requests = let unanswered = ap open_requests m in record { le = omega (arith, requests, unanswered) }

asks_more : {s s1 : State} → s1.mode ≡ Waiting → requests_in s1.trace ≡ requests_in s.trace + 1 → Counts s s1
asks_more m requests = let unanswered = ap open_requests m in record { le = omega (arith, requests, unanswered) }

-- a value that is thrown or shown
shown_counts : (make : List ℕ → End) (v : Val) (before s : State) → before.mode ≡ s.mode → before.trace ≡ s.trace → Counts s (ends_shown make v before s)
shown_counts make v before s m t = go (nat_le (s.units + length (shown s.heap v)) max_units)
  where
    go : (b : Bool) → Counts s (cond b (ends (make (shown s.heap v)) (record s { units = s.units + length (shown s.heap v) })) (ends end.MemorySpent before))
    go true = over (make (shown s.heap v)) refl refl
    go false = over end.MemorySpent refl t

caught_counts : (v : Val) (t : ThrowFrame) (ts : List ThrowFrame) (fs : List Frame) (s : State) → Counts s (caught v t ts fs s)
caught_counts v t ts [] s = still refl refl
caught_counts v t ts (f ∷ fs) s = still refl refl

throw_counts : (ts : List ThrowFrame) (v : Val) (before s : State) → before.mode ≡ s.mode → before.trace ≡ s.trace → Counts s (throw_to ts v before s)
throw_counts [] v before s m t = shown_counts end.Threw v before s m t
throw_counts (t ∷ ts) v before s m e = caught_counts v t ts (keep t.frames s.frames) s

kind_counts : (kind : Kind) (s : State) → Counts s (throw_kind kind s)
unfolding throw_kind
kind_counts kind s = go (thrown kind s.heap s.units)
  where
    go : (o : Outcome FunCell Val) → Counts s (throw_made s o)
    go (op.Gives v h units) = let q = throw_counts s.throws v s (with_heap h units s) refl refl in record { le = q.le }
    go (op.Throws k) = over end.MemorySpent refl refl
    go op.Spends = over end.MemorySpent refl refl

result_counts : {A : Type 0} (r : Result A Kind) (go : A → State → State) (s : State) → ((a : A) → Counts s (go a s)) → Counts s (on_result r go s)
result_counts (Ok a) go s k = k a
result_counts (Err kind) go s k = kind_counts kind s

outcome_counts : {A : Type 0} (o : Outcome FunCell A) (go : A → State → State) (s : State) → ((a : A) (s1 : State) → Alike s s1 → Alike s (go a s1)) → Counts s (on_outcome o go s)
outcome_counts (op.Gives a h units) go s k = alike (k a (with_heap h units s) (refl, refl))
outcome_counts (op.Throws kind) go s k = kind_counts kind s
outcome_counts op.Spends go s k = over end.MemorySpent refl refl

turn_counts : (go : State → State) (s : State) → ((s1 : State) → Alike s s1 → Alike s (go s1)) → Counts s (with_turn go s)
turn_counts go s k = either (nat_lt s.turns max_turns)
  where
    either : (b : Bool) → Counts s (cond b (go (record s { turns = s.turns + 1 })) (ends end.TurnsSpent s))
    either true = alike (k (record s { turns = s.turns + 1 }) (refl, refl))
    either false = over end.TurnsSpent refl refl

native_counts : (here : Here) (rest : List Val) (c : native.Called FunCell) (s : State) → Counts s (of_native here rest c s)
native_counts here rest (native.Gives v h m) s = still refl refl
native_counts here rest (native.Prints text m) s = said_more (Printed text) refl (printed s.trace text)
native_counts here rest (native.Throws kind) s = kind_counts kind s
native_counts here rest (native.Asks request m) s = asks_more refl (asked s.trace request)
native_counts here rest native.TurnsSpent s = over end.TurnsSpent refl refl
native_counts here rest native.UnitsSpent s = over end.MemorySpent refl refl

function_counts : (here : Here) (n cell : ℕ) (f : FunCell) (params : ℕ) (rest : List Val) (s : State) → Counts s (call_function here n cell f params rest s)
function_counts here n cell f params rest s = counted (nat_lt params n)
  where
    deep : (b : Bool) → Counts s (cond b (ends end.TooDeep s) (ends end.TurnsSpent s))
    deep true = over end.TooDeep refl refl
    deep false = over end.TurnsSpent refl refl

    entered : (b : Bool) → Counts s (cond b (with_turn (enter here n cell f params rest) s) (cond (nat_lt s.turns max_turns) (ends end.TooDeep s) (ends end.TurnsSpent s)))
    entered true = turn_counts (enter here n cell f params rest) s (λ s1 e. e)
    entered false = deep (nat_lt s.turns max_turns)

    counted : (b : Bool) → Counts s (cond b (throw_kind ArgumentError s) (cond (nat_lt (length here.around) max_depth) (with_turn (enter here n cell f params rest) s) (cond (nat_lt s.turns max_turns) (ends end.TooDeep s) (ends end.TurnsSpent s))))
    counted true = kind_counts ArgumentError s
    counted false = entered (nat_lt (length here.around) max_depth)

found_counts : (code : List Slot) (here : Here) (n cell : ℕ) (f : Option FunCell) (rest : List Val) (s : State) → Counts s (call_found code here n cell f rest s)
found_counts code here n cell None rest s = kind_counts TypeError s
found_counts code here n cell (Some f) rest s = function_counts here n cell f (unwrap_or (params_at code f.place) 0) rest s

call_counts : (code : List Slot) (here : Here) (n : ℕ) (v : Val) (rest : List Val) (s : State) → Counts s (call_value code here n (v, rest) s)
call_counts code here n Null rest s = kind_counts TypeError s
call_counts code here n (Truth t) rest s = kind_counts TypeError s
call_counts code here n (Int z) rest s = kind_counts TypeError s
call_counts code here n (Ref cell) rest s = found_counts code here n cell (function_at s.heap cell) rest s

give_counts : (v : Val) (here : Here) (fs : List Frame) (s : State) → Counts s (give_back v here fs s)
give_counts v here [] s = go (nat_le (s.units + length (shown s.heap v)) max_units)
  where
    go : (b : Bool) → Counts s (cond b (ends (end.Done (shown s.heap v)) (record (record (cut_to [] s) { throws = [] }) { units = s.units + length (shown s.heap v) })) (ends end.MemorySpent s))
    go true = over (end.Done (shown s.heap v)) refl refl
    go false = over end.MemorySpent refl refl
give_counts v here (f ∷ fs) s = still refl refl

write_counts : (u : ℕ) (v : Val) (o : Option Upvalue) (s : State) → Alike s (write_to u v o s)
write_counts u v None s = (refl, refl)
write_counts u v (Some (Opened p)) s = (refl, refl)
write_counts u v (Some (Closed x)) s = (refl, refl)

numbered_counts : (u : Option ℕ) (v : Val) (s : State) → Alike s (write_numbered u v s)
numbered_counts None v s = (refl, refl)
numbered_counts (Some u) v s = write_counts u v (slice_get s.upvalues u) s

jump_counts : (here : Here) (d : ℤ) (s : State) → Counts s (jump_or_back here d s)
jump_counts here (pos n) s = still refl refl
jump_counts here (negsuc n) s = turn_counts (jump here (negsuc n)) s (λ s1 e. e)

global_counts : (fixed : Fixed) (here : Here) (ks rest : List Val) (s : State) → Counts s (get_global fixed here ks rest s)
global_counts fixed here [] rest s = still refl refl
global_counts fixed here (k ∷ ks) rest s = result_counts (property_path (global_of fixed s (named_text s.heap k)) ks s) (on_and_push here rest) s (λ a. still refl refl)

binary_counts : (b : BinaryOp) (here : Here) (s : State) → Counts s (binary b here s)
binary_counts b here s =
    let x = top_of here.floor s.stack in
    let y = top_of here.floor x.1 in
    result_counts (operated b s.heap x.0 y.0) (on_and_push here y.1) s (λ a. still refl refl)

global_call_counts : (f : Native) (here : Here) (operands : List Val × List Val) (s : State) → Counts s (call_global f here operands s)
global_call_counts f here operands s = go (is_fetch f && nat_le most_requests (count_by is_request s.trace))
  where
    go : (b : Bool) → Counts s (cond b (ends end.TooManyFetches s) (of_native here operands.1 (called f (reverse operands.0) s.heap (spent_by s)) s))
    go true = over end.TooManyFetches refl refl
    go false = native_counts here operands.1 (called f (reverse operands.0) s.heap (spent_by s)) s

get_counts : (here : Here) (s : State) → Counts s (let k = top_of here.floor s.stack in let x = top_of here.floor k.1 in on_result (accessed s.heap x.0 k.0) (on_and_push here x.1) s)
get_counts here s =
    let k = top_of here.floor s.stack in
    let x = top_of here.floor k.1 in
    result_counts (accessed s.heap x.0 k.0) (on_and_push here x.1) s (λ a. still refl refl)

nullish_counts : (here : Here) (s : State) (b : Bool) → Counts s (let k = top_of here.floor s.stack in let x = top_of here.floor k.1 in cond b (on_and_push here x.1 Null s) (on_result (accessed s.heap x.0 k.0) (on_and_push here x.1) s))
nullish_counts here s true = still refl refl
nullish_counts here s false = get_counts here s

test_counts : (d : ℤ) (here : Here) (s : State) (b : Bool) → Counts s (let t = top_of here.floor s.stack in cond b (on_with here t.1 s) (jump here d (cut_to t.1 s)))
test_counts d here s true = still refl refl
test_counts d here s false = still refl refl

null_counts : (d : ℤ) (here : Here) (s : State) (b : Bool) → Counts s (cond b (on_with here s.stack s) (jump here d s))
null_counts d here s true = still refl refl
null_counts d here s false = still refl refl

make_counts : (here : Here) (captures : List Capture) (s : State) → Counts s (make_function here captures s)
make_counts here captures s =
    let numbers = capture_all (suc (length s.stack)) here.frame (captured_by s here.frame) captures s.upvalues in
    outcome_counts (made (Fun (record { place = here.frame.place + header; captured = numbers.0 })) s.heap s.units)
    (λ v s1. record (on_and_push here s1.stack v s1) { upvalues = numbers.1 }) s (λ a s1 e. e)

act_counts : (fixed : Fixed) (code : List Slot) (p : Op) (here : Here) (s : State) → Counts s (act fixed code p here s)
unfolding act
act_counts fixed code (o.GetGlobal n) here s = global_counts fixed here (taken here.floor n s.stack).0 (taken here.floor n s.stack).1 s
act_counts fixed code (o.CallGlobal f n) here s = global_call_counts f here (taken here.floor n s.stack) s
act_counts fixed code (o.And n) here s = still refl refl
act_counts fixed code (o.Or n) here s = still refl refl
act_counts fixed code o.Not here s = still refl refl
act_counts fixed code o.Plus here s = binary_counts _ here s
act_counts fixed code o.Minus here s = binary_counts _ here s
act_counts fixed code o.Multiply here s = binary_counts _ here s
act_counts fixed code o.Eq here s = binary_counts _ here s
act_counts fixed code o.NotEq here s = binary_counts _ here s
act_counts fixed code o.Gt here s = binary_counts _ here s
act_counts fixed code o.GtEq here s = binary_counts _ here s
act_counts fixed code o.Lt here s = binary_counts _ here s
act_counts fixed code o.LtEq here s = binary_counts _ here s
act_counts fixed code o.IsIn here s = binary_counts _ here s
act_counts fixed code o.NotIn here s = binary_counts _ here s
act_counts fixed code o.PushTrue here s = still refl refl
act_counts fixed code o.PushFalse here s = still refl refl
act_counts fixed code o.PushNull here s = still refl refl
act_counts fixed code (o.Str text) here s = still refl refl
act_counts fixed code (o.Integer z) here s = still refl refl
act_counts fixed code o.Pop here s = still refl refl
act_counts fixed code (o.GetLocal i) here s = still refl refl
act_counts fixed code (o.SetLocal i) here s = still refl refl
act_counts fixed code o.Return here s = give_counts (top_of here.floor s.stack).0 here here.around s
act_counts fixed code (o.Jump d) here s = jump_counts here d s
act_counts fixed code (o.JumpIfFalse d) here s = test_counts d here s (truth_of s.heap (top_of here.floor s.stack).0)
act_counts fixed code (o.Dict n) here s = let t = taken here.floor (n + n) s.stack in outcome_counts (dictionary_made (in_pairs (reverse t.0)) s.heap s.units) (on_and_push here t.1) s (λ a s1 e. e)
act_counts fixed code (o.Array n) here s = let t = taken here.floor n s.stack in outcome_counts (made (Array (reverse t.0)) s.heap s.units) (on_and_push here t.1) s (λ a s1 e. e)
act_counts fixed code o.GetProperty here s = get_counts here s
act_counts fixed code o.SetProperty here s =
    let v = top_of here.floor s.stack in
    let k = top_of here.floor v.1 in
    let x = top_of here.floor k.1 in
    outcome_counts (assigned s.heap x.0 k.0 v.0 s.units) (λ u s1. on_with here x.1 s1) s (λ a s1 e. e)
act_counts fixed code (o.JumpIfStackNotNull d) here s = null_counts d here s (is_null (top_of here.floor s.stack).0)
act_counts fixed code o.GetPropertyNullish here s = nullish_counts here s (is_null (top_of here.floor (top_of here.floor s.stack).1).0)
act_counts fixed code o.Throw here s = throw_counts s.throws (top_of here.floor s.stack).0 s s refl refl
act_counts fixed code (o.Try d) here s = still refl refl
act_counts fixed code o.PopTry here s = still refl refl
act_counts fixed code (o.Callable name params body captures) here s = make_counts here captures s
act_counts fixed code (o.CallLocal n) here s = call_counts code here n (top_of here.floor s.stack).0 (top_of here.floor s.stack).1 s
act_counts fixed code (o.GetUpvalue i) here s = still refl refl
act_counts fixed code (o.SetUpvalue i) here s =
    let t = top_of here.floor s.stack in
    let s1 : State = on_with here t.1 s in
    let a = numbered_counts (slice_get (captured_by s1 here.frame) i) t.0 s1 in
    still a.0 a.1
act_counts fixed code o.CloseUpvalue here s = still refl refl

slot_counts : (fixed : Fixed) (code : List Slot) (x : Option Slot) (f : Frame) (fs : List Frame) (s : State) → Counts s (at_slot fixed code x f fs s)
slot_counts fixed code (Some (Begins p)) f fs s = act_counts fixed code p (here_at (f.place + size p) f fs s) s
slot_counts fixed code (Some BodyEnds) f fs s = give_counts Null (here_at f.place f fs s) fs s
slot_counts fixed code (Some Operand) f fs s = give_counts Null (here_at f.place f fs s) fs s
slot_counts fixed code None f fs s = give_counts Null (here_at f.place f fs s) fs s

frames_count : (fixed : Fixed) (code : List Slot) (fs : List Frame) (s : State) → Counts s (in_frames fixed code fs s)
frames_count fixed code [] s = still refl refl
frames_count fixed code (f ∷ fs) s = slot_counts fixed code (slice_get code f.place) f fs s

-- one operation of a machine that goes on
step_counts : (fixed : Fixed) (code : List Slot) (s : State) → s.mode ≡ Running → Counts s (step fixed code s)
step_counts fixed code s runs = subst (λ (m : Mode). Counts s (step_in m fixed code s)) (sym runs) (frames_count fixed code s.frames s)

-- A run's replies are no more than its requests have, operation by operation.

module _ (replies : ℕ) (fixed : Fixed) (code : List Slot) where
  runs_on : (s : State) → s.mode ≡ Running → HasAsked replies s → HasAsked replies (step fixed code s)
  runs_on s runs has =
      let counts = (step_counts fixed code s runs).le in
      let unanswered : open_requests s.mode ≡ 0 = ap open_requests runs in
      let left : length (step fixed code s).replies ≡ length s.replies = ap length (step_leaves fixed code s runs) in
      omega (arith, has, counts, unanswered, left)

  takes_in : (rs : List Reply) (s : State) → s.replies ≡ rs → s.mode ≡ Waiting → HasAsked replies s → HasAsked replies (take_reply rs s)
  takes_in [] s left waits has = has
  takes_in (r ∷ rs) s left waits has = go (response r.status r.body s.heap s.units)
    where
      then : Val → State → State
      then v s1 = push v (record s1 { replies = rs; mode = Running })

      go : (o : Outcome FunCell Val) → HasAsked replies (on_outcome o then s)
      go (op.Gives v h units) =
          let unanswered : open_requests s.mode ≡ 1 = ap open_requests waits in
          let long : length s.replies ≡ suc (length rs) = ap length left in
          omega (arith, has, unanswered, long)
      go (op.Throws kind) =
          let counts = (kind_counts kind s).le in
          let same : length (throw_kind kind s).replies ≡ length s.replies = ap (λ (x : State). length x.replies) (kind_same s.replies kind s) in
          let unanswered : open_requests s.mode ≡ 1 = ap open_requests waits in
          omega (arith, has, counts, unanswered, same)
      go op.Spends = let unanswered : open_requests s.mode ≡ 1 = ap open_requests waits in omega (arith, has, unanswered)

  one_more : (s : State) → HasAsked replies s → HasAsked replies (step fixed code s)
  one_more s has = by_mode s.mode refl
    where
      by_mode : (m : Mode) → s.mode ≡ m → HasAsked replies (step_in m fixed code s)
      by_mode Running e = subst (λ (m : Mode). HasAsked replies (step_in m fixed code s)) e (runs_on s e has)
      by_mode Waiting e = takes_in s.replies s refl e has
      by_mode (Ended end) e = has

  all_steps : (k : ℕ) (s : State) → HasAsked replies s → HasAsked replies (steps fixed code k s)
  all_steps zero s has = has
  all_steps (suc k) s has = all_steps k (step fixed code s) (one_more s has)

begins : (replies : List Reply) (cells : Outcome FunCell Val) → HasAsked (length replies) (started replies cells)
begins replies (op.Gives v heap units) = omega arith
begins replies (op.Throws kind) = omega arith
begins replies op.Spends = omega arith

pub replies_answer_requests : RepliesAnswerRequests
unfolding machine
replies_answer_requests code globals replies k =
    let cells = first_cells (literals_of_code code) globals in
    all_steps (length replies) (fixed_by (literals_of_code code) cells) (code_slots code) k (started replies cells) (begins replies cells)
