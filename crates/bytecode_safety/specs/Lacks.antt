-- Whether the next operation would have to make something up: an operand, a local, an upvalue, a try, a function's body, or
-- the operation itself.
use Rattle.std.specs.Prelude.{ℕ, suc, ◌+◌, ◌*◌, List, [], ◌∷◌, length, Bool, true, false, not, ◌||◌, ◌==◌, Option, Some, None, is_some, if◌then◌else◌, nat_lt, slice_get}
use Rattle.std.specs.List.{list_any}
use Rattle.hog_value.specs.declared.cell.FunCell.{FunCell}
use Rattle.hog_value.specs.Values.{Val}
use Rattle.hog_value.specs.declared.value.Value.TheVariants.{Null, Bool as Truth, Int, Ref}
use Rattle.hog_value.specs.Cells.{HeapOf}
use Rattle.hog_ops.specs.declared.capture.Capture.{Capture}
use Rattle.hog_ops.specs.Plain.{Op, GetGlobal, CallGlobal, And, Or, Not, Plus, Minus, Multiply, Eq, NotEq, Gt, GtEq, Lt, LtEq, IsIn, NotIn, PushTrue, PushFalse, PushNull, Str, Integer, Pop, GetLocal, SetLocal, Return, Jump, JumpIfFalse, Dict, Array, GetProperty, SetProperty, JumpIfStackNotNull, GetPropertyNullish, Throw, Try, PopTry, Callable, CallLocal, GetUpvalue, SetUpvalue, CloseUpvalue}
use Rattle.hog_ops.specs.Table.{size}
use Rattle.vm_course.specs.State.{Slot, Begins, BodyEnds, Operand, Upvalue, Opened, Closed, Frame, ThrowFrame, Running, Waiting, Ended, Mode, State, function_at, params_at}
use Rattle.vm_course.specs.Stack.{value_at, cut_to, top_of, captured_by, upvalue_of}
use Rattle.vm_course.specs.Step.{Here, here_at}

-- how many operands an operation takes off or looks at
abbrev pub needs : Op → ℕ
needs (GetGlobal n) = n
needs (CallGlobal native n) = n
needs (And n) = n
needs (Or n) = n
needs Not = 1
needs Plus = 2
needs Minus = 2
needs Multiply = 2
needs Eq = 2
needs NotEq = 2
needs Gt = 2
needs GtEq = 2
needs Lt = 2
needs LtEq = 2
needs IsIn = 2
needs NotIn = 2
needs PushTrue = 0
needs PushFalse = 0
needs PushNull = 0
needs (Str text) = 0
needs (Integer z) = 0
needs Pop = 1
needs (GetLocal i) = 0
needs (SetLocal i) = 1
needs Return = 1
needs (Jump d) = 0
needs (JumpIfFalse d) = 1
needs (Dict n) = 2 * n
needs (Array n) = n
needs GetProperty = 2
needs SetProperty = 3
needs (JumpIfStackNotNull d) = 1
needs GetPropertyNullish = 2
needs Throw = 1
needs (Try d) = 0
needs PopTry = 0
needs (Callable name params body captures) = 0
needs (CallLocal n) = suc n
needs (GetUpvalue i) = 0
needs (SetUpvalue i) = 1
needs CloseUpvalue = 1

abbrev pub is_none : {A : Type 0} → Option A → Bool
is_none o = not (is_some o)

abbrev pub lacks_upvalue : List Val → Option Upvalue → Bool
lacks_upvalue stack None = true
lacks_upvalue stack (Some (Opened p)) = is_none (value_at stack p)
lacks_upvalue stack (Some (Closed v)) = false

-- a local of the frame stands below `height`
abbrev pub lacks_capture : ℕ → Frame → List ℕ → Capture → Bool
lacks_capture height f captured c = if c.local then not (nat_lt (f.base + c.index) height) else is_none (slice_get captured c.index)

-- the last throw frame is none of this frame
abbrev pub lacks_try : ℕ → List ThrowFrame → Bool
lacks_try frames [] = true
lacks_try frames (t ∷ ts) = not (t.frames == frames)

-- a function whose body stands nowhere
abbrev pub lacks_body : List Slot → Option FunCell → Bool
lacks_body code None = false
lacks_body code (Some f) = is_none (params_at code f.place)

abbrev pub lacks_callee : List Slot → HeapOf FunCell → Val → Bool
lacks_callee code heap Null = false
lacks_callee code heap (Truth b) = false
lacks_callee code heap (Int z) = false
lacks_callee code heap (Ref c) = lacks_body code (function_at heap c)

-- besides operands
abbrev pub lacks_other : List Slot → Op → Here → State → Bool
lacks_other code (GetLocal i) here s = is_none (value_at s.stack (here.frame.base + i))
lacks_other code (SetLocal i) here s = is_none (value_at (top_of here.floor s.stack).1 (here.frame.base + i))
lacks_other code (GetUpvalue i) here s = lacks_upvalue s.stack (upvalue_of s here.frame i)
lacks_other code (SetUpvalue i) here s =
    let rest = (top_of here.floor s.stack).1 in lacks_upvalue rest (upvalue_of (cut_to rest s) here.frame i)
lacks_other code PopTry here s = lacks_try (length s.frames) s.throws
lacks_other code (CallLocal n) here s = lacks_callee code s.heap (top_of here.floor s.stack).0
lacks_other code (Callable name params body captures) here s =
    list_any (lacks_capture (suc (length s.stack)) here.frame (captured_by s here.frame)) captures
lacks_other code o here s = false

-- a frame that stands at no operation lacks that
abbrev pub lacks_at : List Slot → Option Slot → Frame → List Frame → State → Bool
lacks_at code (Some (Begins op)) f fs s =
    let here : Here = here_at (f.place + size op) f fs s in
    nat_lt (length s.stack) (here.floor + needs op) || lacks_other code op here s
lacks_at code (Some BodyEnds) f fs s = true
lacks_at code (Some Operand) f fs s = true
lacks_at code None f fs s = true

abbrev pub lacks_in_frames : List Slot → List Frame → State → Bool
lacks_in_frames code [] s = true
lacks_in_frames code (f ∷ fs) s = lacks_at code (slice_get code f.place) f fs s

-- a machine that waits or has ended has no next operation of the code
abbrev pub lacks_in : Mode → List Slot → State → Bool
lacks_in Running code s = lacks_in_frames code s.frames s
lacks_in Waiting code s = false
lacks_in (Ended e) code s = false

abbrev pub lacks : List Slot → State → Bool
lacks code s = lacks_in s.mode code s
