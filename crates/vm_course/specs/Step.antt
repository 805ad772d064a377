-- What each operation does.
use Rattle.std.specs.Prelude.{ℕ, suc, ◌+◌, ◌-◌, ℤ, pos, negsuc, List, [], ◌∷◌, ◌++◌, length, replicate, reverse, Bool, true, false, not, ◌&&◌, Option, Some, None, unwrap_or, if◌then◌else◌, ◌==◌, nat_lt, nat_le, slice_get, slice_range, count_by, Result, Ok, Err}
use Rattle.std.specs.List.{list_all, list_any}
use Rattle.hog_value.specs.declared.cell.FunCell.{FunCell}
use Rattle.hog_value.specs.declared.native.Native.{Native}
use Rattle.hog_value.specs.declared.trace.End.TheVariants as end
use Rattle.hog_value.specs.declared.trace.TraceItem.{TraceItem}
use Rattle.hog_value.specs.declared.trace.TraceItem.TheVariants.{Printed, Asked}
use Rattle.hog_value.specs.declared.value.Kind.{Kind}
use Rattle.hog_value.specs.declared.value.Kind.TheVariants.{TypeError, ArgumentError}
use Rattle.hog_value.specs.Values.{Val}
use Rattle.hog_value.specs.declared.value.Value.TheVariants.{Null, Bool as Truth, Int, Ref}
use Rattle.hog_value.specs.Meters.{Spent, max_turns, max_depth}
use Rattle.hog_value.specs.Cells.{Array, Fun}
use Rattle.hog_value.specs.Operations.{made, truth_of, key_of}
use Rattle.hog_json.specs.Texts.{named_text}
use Rattle.hog_library.specs.Called.{called}
use Rattle.hog_library.specs.Called as native
use Rattle.hog_library.specs.Cells.{response}
use Rattle.hog_tree.specs.declared.tree.BinaryOp.{BinaryOp}
use Rattle.hog_tree.specs.declared.tree.BinaryOp.TheVariants as b
use Rattle.hog_ops.specs.declared.capture.Capture.{Capture}
use Rattle.hog_ops.specs.Plain as o
use Rattle.hog_ops.specs.Plain.{Op, Ops}
use Rattle.hog_ops.specs.Table.{size}
use Rattle.hog_meaning.specs.Operators.{operated, accessed, assigned, dictionary_made}
use Rattle.hog_meaning.specs.Meaning.{place_in, most_requests, is_request, is_fetch, is_null}
use Rattle.hog_meaning.specs.World.{Fixed, Reply}
use Rattle.vm_course.specs.State.{Slot, Begins, BodyEnds, Operand, header, Frame, ThrowFrame, Running, Waiting, Ended, Mode, State, function_at, params_at}
use Rattle.vm_course.specs.Stack.{value_at, with_value, or_null, cut_to, push, keep, floor_of, top_of, taken, captured_by, upvalue_of, upvalue_value, write_upvalue, capture_all}
use Rattle.vm_course.specs.Throws.{ends, with_heap, ends_shown, goto, throw_value, throw_kind, on_result, on_outcome, with_turn}

-- Where an operation stands: its frame, the frames around it, the place behind it, and the height below which it has no operands.
pub record Here : Type 0 where
  pub frame : Frame
  pub around : List Frame
  pub behind : ℕ
  pub floor : ℕ

-- on to the next operation, with this much of the stack left, and this value on it
abbrev pub on_with : Here → List Val → State → State
on_with here rest s = goto here.behind here.frame here.around (cut_to rest s)

abbrev pub on_and_push : Here → List Val → Val → State → State
on_and_push here rest v s = push v (on_with here rest s)

-- the place at a distance
abbrev pub place_at : ℕ → ℤ → ℕ
place_at behind (pos n) = behind + n
place_at behind (negsuc n) = behind - suc n

abbrev pub jump : Here → ℤ → State → State
jump here d s = goto (place_at here.behind d) here.frame here.around s

-- only a jump goes back, and it spends a turn before it does
abbrev pub jump_or_back : Here → ℤ → State → State
jump_or_back here (pos n) s = jump here (pos n) s
jump_or_back here (negsuc n) s = with_turn (jump here (negsuc n)) s

-- operators: the left operand is on the top
abbrev pub binary : BinaryOp → Here → State → State
binary op here s =
    let x = top_of here.floor s.stack in
    let y = top_of here.floor x.1 in
    on_result (operated op s.heap x.0 y.0) (on_and_push here y.1) s

-- a value, and then its properties by these keys in order
abbrev pub property_path : Result Val Kind → List Val → State → Result Val Kind
property_path (Err kind) ks s = Err kind
property_path (Ok v) [] s = Ok v
property_path (Ok v) (k ∷ ks) s = property_path (accessed s.heap v k) ks s

-- a global by its name, which is a text
abbrev pub global_of : Fixed → State → Option (List ℕ) → Result Val Kind
global_of fixed s None = Err TypeError
global_of fixed s (Some name) = key_of s.heap fixed.globals name

abbrev pub get_global : Fixed → Here → List Val → List Val → State → State
get_global fixed here [] rest s = on_and_push here rest Null s
get_global fixed here (name ∷ keys) rest s =
    on_result (property_path (global_of fixed s (named_text s.heap name)) keys s) (on_and_push here rest) s

-- natives

abbrev pub spent_by : State → Spent
spent_by s = record { turns = s.turns; units = s.units; depth = length s.frames - 1 }

abbrev pub with_spent : Spent → State → State
with_spent m s = record s { turns = m.turns; units = m.units }

abbrev pub said : TraceItem → State → State
said item s = record s { trace = s.trace ++ item ∷ [] }

-- what comes of a native; a request stops the machine until a reply is there
abbrev pub of_native : Here → List Val → native.Called FunCell → State → State
of_native here rest (native.Gives v h m) s = on_and_push here rest v (with_spent m (with_heap h m.units s))
of_native here rest (native.Prints text m) s = on_and_push here rest Null (said (Printed text) (with_spent m s))
of_native here rest (native.Throws kind) s = throw_kind kind s
of_native here rest (native.Asks request m) s =
    let asked : State = on_with here rest (said (Asked request) (with_spent m s)) in
    record asked { mode = Waiting }
of_native here rest native.TurnsSpent s = ends end.TurnsSpent s
of_native here rest native.UnitsSpent s = ends end.MemorySpent s

-- the topmost operand is the last argument; `fetch` with 100 requests behind it ends the run
abbrev pub call_global : Native → Here → List Val × List Val → State → State
call_global n here operands s =
    if is_fetch n && nat_le most_requests (count_by is_request s.trace) then ends end.TooManyFetches s
    else of_native here operands.1 (called n (reverse operands.0) s.heap (spent_by s)) s

-- calls

-- the stack with so many arguments above the floor: those that are missing are null, and the deepest
abbrev pub with_arguments : ℕ → ℕ → List Val → List Val
with_arguments floor n stack =
    let there = length stack - floor in
    if nat_le n there then stack else slice_range stack 0 there ++ (replicate (n - there) Null ++ keep floor stack)

-- what stays on the stack in a call: where the arguments are all there all of it, and where some are missing what is under
-- the operands
abbrev pub in_place : ℕ → ℕ → List Val → List Val
in_place floor n stack = if nat_le n (length stack - floor) then stack else keep floor stack

-- The function is taken off. Its arguments are the callee's first locals, and parameters without one are null. Arguments
-- that are all there stay where they are, with what is open at their places; where some are missing the operands are taken
-- off, which closes what is open at their places, and then they are put on again.
abbrev pub enter : Here → ℕ → ℕ → FunCell → ℕ → List Val → State → State
enter here n cell f params rest s =
    let arguments = with_arguments here.floor n rest in
    let there : State = cut_to (in_place here.floor n rest) s in
    record there {
      stack = replicate (params - n) Null ++ arguments;
      frames = record { place = f.place; base = length arguments - n; function = Some cell } ∷ record here.frame { place = here.behind } ∷ here.around;
    }

-- arguments are counted, then a turn and a depth are asked for, and then both are spent
abbrev pub call_function : Here → ℕ → ℕ → FunCell → ℕ → List Val → State → State
call_function here n cell f params rest s =
    if nat_lt params n then throw_kind ArgumentError s
    else (if nat_lt (length here.around) max_depth then with_turn (enter here n cell f params rest) s
    else (if nat_lt s.turns max_turns then ends end.TooDeep s else ends end.TurnsSpent s))

abbrev pub call_found : List Slot → Here → ℕ → ℕ → Option FunCell → List Val → State → State
call_found code here n cell None rest s = throw_kind TypeError s
call_found code here n cell (Some f) rest s = call_function here n cell f (unwrap_or (params_at code f.place) 0) rest s

abbrev pub call_value : List Slot → Here → ℕ → Val × List Val → State → State
call_value code here n (Null, rest) s = throw_kind TypeError s
call_value code here n (Truth t, rest) s = throw_kind TypeError s
call_value code here n (Int z, rest) s = throw_kind TypeError s
call_value code here n (Ref cell, rest) s = call_found code here n cell (function_at s.heap cell) rest s

-- the throw frames of the frames around alone
abbrev pub throws_around : ℕ → List ThrowFrame → List ThrowFrame
throws_around frames [] = []
throws_around frames (t ∷ ts) = if nat_lt t.frames frames then t ∷ ts else throws_around frames ts

-- A frame gives its value to the one around it; the program's ends the run, and it keeps its frame and an empty stack.
abbrev pub give_back : Val → Here → List Frame → State → State
give_back v here [] s = ends_shown end.Done v s (record (cut_to [] s) { throws = [] })
give_back v here (g ∷ gs) s =
    push v (record (cut_to (keep here.frame.base s.stack) s) { frames = g ∷ gs; throws = throws_around (suc (length (g ∷ gs))) s.throws })

-- a new function: it goes on the stack first, so that it may capture its own place
abbrev pub make_function : Here → List Capture → State → State
make_function here captures s =
    let numbers = capture_all (suc (length s.stack)) here.frame (captured_by s here.frame) captures s.upvalues in
    on_outcome (made (Fun (record { place = here.frame.place + header; captured = numbers.0 })) s.heap s.units)
    (λ v s1. record (on_and_push here s1.stack v s1) { upvalues = numbers.1 }) s

-- pairs of a dictionary that is written out, from their values in order
abbrev pub in_pairs : List Val → List (Val × Val)
in_pairs [] = []
in_pairs (v ∷ []) = []
in_pairs (k ∷ v ∷ vs) = (k, v) ∷ in_pairs vs

-- what a pair of throw frame and frame is taken away by
abbrev pub without_try : ℕ → List ThrowFrame → List ThrowFrame
without_try frames [] = []
without_try frames (t ∷ ts) = if t.frames == frames then ts else t ∷ ts

-- the truth of all values, and of any
abbrev pub all_true : State → List Val → Bool
all_true s = list_all (truth_of s.heap)

abbrev pub any_true : State → List Val → Bool
any_true s = list_any (truth_of s.heap)

-- One operation. Its operands come off the top; those that are missing are null.
unfoldable pub act : Fixed → List Slot → Op → Here → State → State
act fixed code (o.GetGlobal n) here s = let t = taken here.floor n s.stack in get_global fixed here t.0 t.1 s
act fixed code (o.CallGlobal f n) here s = call_global f here (taken here.floor n s.stack) s
act fixed code (o.And n) here s = let t = taken here.floor n s.stack in on_and_push here t.1 (Truth (all_true s t.0)) s
act fixed code (o.Or n) here s = let t = taken here.floor n s.stack in on_and_push here t.1 (Truth (any_true s t.0)) s
act fixed code o.Not here s = let t = top_of here.floor s.stack in on_and_push here t.1 (Truth (not (truth_of s.heap t.0))) s
act fixed code o.Plus here s = binary b.Plus here s
act fixed code o.Minus here s = binary b.Minus here s
act fixed code o.Multiply here s = binary b.Times here s
act fixed code o.Eq here s = binary b.Equal here s
act fixed code o.NotEq here s = binary b.NotEqual here s
act fixed code o.Gt here s = binary b.Greater here s
act fixed code o.GtEq here s = binary b.GreaterEqual here s
act fixed code o.Lt here s = binary b.Less here s
act fixed code o.LtEq here s = binary b.LessEqual here s
act fixed code o.IsIn here s = binary b.IsIn here s
act fixed code o.NotIn here s = binary b.NotIn here s
act fixed code o.PushTrue here s = on_and_push here s.stack (Truth true) s
act fixed code o.PushFalse here s = on_and_push here s.stack (Truth false) s
act fixed code o.PushNull here s = on_and_push here s.stack Null s
act fixed code (o.Str text) here s = on_and_push here s.stack (Ref (place_in fixed.literals text)) s
act fixed code (o.Integer z) here s = on_and_push here s.stack (Int z) s
act fixed code o.Pop here s = on_with here (top_of here.floor s.stack).1 s
act fixed code (o.GetLocal i) here s = on_and_push here s.stack (or_null (value_at s.stack (here.frame.base + i))) s
act fixed code (o.SetLocal i) here s =
    let t = top_of here.floor s.stack in
    let there : State = on_with here t.1 s in
    record there { stack = with_value there.stack (here.frame.base + i) t.0 }
act fixed code o.Return here s = give_back (top_of here.floor s.stack).0 here here.around s
act fixed code (o.Jump d) here s = jump_or_back here d s
act fixed code (o.JumpIfFalse d) here s =
    let t = top_of here.floor s.stack in
    if truth_of s.heap t.0 then on_with here t.1 s else jump here d (cut_to t.1 s)
act fixed code (o.Dict n) here s =
    let t = taken here.floor (n + n) s.stack in on_outcome (dictionary_made (in_pairs (reverse t.0)) s.heap s.units) (on_and_push here t.1) s
act fixed code (o.Array n) here s =
    let t = taken here.floor n s.stack in on_outcome (made (Array (reverse t.0)) s.heap s.units) (on_and_push here t.1) s
act fixed code o.GetProperty here s =
    let k = top_of here.floor s.stack in
    let x = top_of here.floor k.1 in
    on_result (accessed s.heap x.0 k.0) (on_and_push here x.1) s
act fixed code o.SetProperty here s =
    let v = top_of here.floor s.stack in
    let k = top_of here.floor v.1 in
    let x = top_of here.floor k.1 in
    on_outcome (assigned s.heap x.0 k.0 v.0 s.units) (λ u s1. on_with here x.1 s1) s
act fixed code (o.JumpIfStackNotNull d) here s = if is_null (top_of here.floor s.stack).0 then on_with here s.stack s else jump here d s
act fixed code o.GetPropertyNullish here s =
    let k = top_of here.floor s.stack in
    let x = top_of here.floor k.1 in
    if is_null x.0 then on_and_push here x.1 Null s else on_result (accessed s.heap x.0 k.0) (on_and_push here x.1) s
act fixed code o.Throw here s = throw_value (top_of here.floor s.stack).0 s
act fixed code (o.Try d) here s =
    let there : State = on_with here s.stack s in
    record there { throws = record { frames = length s.frames; height = length s.stack; catch = place_at here.behind d } ∷ s.throws }
act fixed code o.PopTry here s =
    let there : State = on_with here s.stack s in
    record there { throws = without_try (length s.frames) s.throws }
act fixed code (o.Callable name params body captures) here s = make_function here captures s
act fixed code (o.CallLocal n) here s = call_value code here n (top_of here.floor s.stack) s
act fixed code (o.GetUpvalue i) here s = on_and_push here s.stack (upvalue_value s.stack (upvalue_of s here.frame i)) s
act fixed code (o.SetUpvalue i) here s =
    let t = top_of here.floor s.stack in
    write_upvalue here.frame i t.0 (on_with here t.1 s)
act fixed code o.CloseUpvalue here s = on_with here (top_of here.floor s.stack).1 s

-- what stands at the place of the innermost frame; the end of a body, and that of the program, returns null
abbrev pub here_at : ℕ → Frame → List Frame → State → Here
here_at behind f fs s = record { frame = f; around = fs; behind = behind; floor = floor_of f s }

abbrev pub at_slot : Fixed → List Slot → Option Slot → Frame → List Frame → State → State
at_slot fixed code (Some (Begins op)) f fs s = act fixed code op (here_at (f.place + size op) f fs s) s
at_slot fixed code (Some BodyEnds) f fs s = give_back Null (here_at f.place f fs s) fs s
at_slot fixed code (Some Operand) f fs s = give_back Null (here_at f.place f fs s) fs s
at_slot fixed code None f fs s = give_back Null (here_at f.place f fs s) fs s

abbrev pub in_frames : Fixed → List Slot → List Frame → State → State
in_frames fixed code [] s = s
in_frames fixed code (f ∷ fs) s = at_slot fixed code (slice_get code f.place) f fs s

-- at a wait the next operation takes in the next reply; where its response doesn't fit, the run has ended
abbrev pub take_reply : List Reply → State → State
take_reply [] s = s
take_reply (r ∷ rs) s = on_outcome (response r.status r.body s.heap s.units) (λ v s1. push v (record s1 { replies = rs; mode = Running })) s

abbrev pub step_in : Mode → Fixed → List Slot → State → State
step_in Running fixed code s = in_frames fixed code s.frames s
step_in Waiting fixed code s = take_reply s.replies s
step_in (Ended e) fixed code s = s

-- one operation more; a machine that has ended, or that waits with no reply left, stays as it is
abbrev pub step : Fixed → List Slot → State → State
step fixed code s = step_in s.mode fixed code s
