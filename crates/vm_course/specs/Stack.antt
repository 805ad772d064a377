-- How values come on the stack and leave it, and what becomes of upvalues then.
use Rattle.std.specs.Prelude.{ℕ, zero, suc, ◌+◌, ◌-◌, max, List, [], ◌∷◌, ◌++◌, length, map, drop, Option, Some, None, option_and_then, option_map, unwrap_or, if◌then◌else◌, ◌==◌, nat_lt, slice_get, slice_set}
use Rattle.hog_value.specs.declared.cell.FunCell.{FunCell}
use Rattle.hog_value.specs.Values.{Val}
use Rattle.hog_value.specs.declared.value.Value.TheVariants.{Null}
use Rattle.hog_ops.specs.declared.capture.Capture.{Capture}
use Rattle.vm_course.specs.State.{Upvalue, Opened, Closed, Frame, ThrowFrame, State, function_at}

-- what stands at a place, counted from the bottom
abbrev pub value_at : List Val → ℕ → Option Val
value_at [] n = None
value_at (v ∷ vs) n = if length vs == n then Some v else value_at vs n

-- the stack with another value at a place; where there is none nothing changes
abbrev pub with_value : List Val → ℕ → Val → List Val
with_value [] n x = []
with_value (v ∷ vs) n x = if length vs == n then x ∷ vs else v ∷ with_value vs n x

abbrev pub or_null : Option Val → Val
or_null v = unwrap_or v Null

-- an upvalue that is open at this height or above it takes its value along
abbrev pub close : ℕ → List Val → Upvalue → Upvalue
close height stack (Closed v) = Closed v
close height stack (Opened p) = if nat_lt p height then Opened p else Closed (or_null (value_at stack p))

-- The stack is cut to what is left of it: whatever takes values off the stack goes through here.
abbrev pub cut_to : List Val → State → State
cut_to rest s = record s { stack = rest; upvalues = map (close (length rest) s.stack) s.upvalues }

abbrev pub push : Val → State → State
push v s = record s { stack = v ∷ s.stack }

-- the values from the bottom up to a height
abbrev pub keep : {A : Type 0} → ℕ → List A → List A
keep height xs = drop (length xs - height) xs

-- Below this height nothing is an operand of the innermost frame: below its base, or what stood before the last of its
-- throw frames.
abbrev pub height_of : ℕ → List ThrowFrame → ℕ
height_of frames [] = 0
height_of frames (t ∷ ts) = if t.frames == frames then t.height else 0

abbrev pub floor_of : Frame → State → ℕ
floor_of f s = max f.base (height_of (length s.frames) s.throws)

-- the topmost operand, which is null where it is missing, and the stack under it
abbrev pub top_of : ℕ → List Val → Val × List Val
top_of floor [] = (Null, [])
top_of floor (v ∷ vs) = if nat_lt (length vs) floor then (Null, v ∷ vs) else (v, vs)

-- so many operands, the topmost first, and the stack under them
abbrev pub taken : ℕ → ℕ → List Val → List Val × List Val
taken floor zero stack = ([], stack)
taken floor (suc n) stack =
    let one = top_of floor stack in
    let others = taken floor n one.1 in
    (one.0 ∷ others.0, others.1)

-- upvalues

-- the number of the upvalue that is open at a place
abbrev pub one_on : Option ℕ → Option ℕ
one_on n = option_map (λ i. i + 1) n

abbrev pub find_open : List Upvalue → ℕ → Option ℕ
find_open [] p = None
find_open (Closed v ∷ us) p = one_on (find_open us p)
find_open (Opened q ∷ us) p = if q == p then Some 0 else one_on (find_open us p)

abbrev pub captured_in : Option FunCell → List ℕ
captured_in None = []
captured_in (Some c) = c.captured

-- the numbers of the upvalues that a frame's function has captured
abbrev pub captured_by : State → Frame → List ℕ
captured_by s f = captured_in (option_and_then (function_at s.heap) f.function)

abbrev pub upvalue_of : State → Frame → ℕ → Option Upvalue
upvalue_of s f i = option_and_then (slice_get s.upvalues) (slice_get (captured_by s f) i)

abbrev pub upvalue_value : List Val → Option Upvalue → Val
upvalue_value stack None = Null
upvalue_value stack (Some (Opened p)) = or_null (value_at stack p)
upvalue_value stack (Some (Closed v)) = v

-- writing to an upvalue: at the place where it is open, or into what it has taken along
abbrev pub write_to : ℕ → Val → Option Upvalue → State → State
write_to u v None s = s
write_to u v (Some (Opened p)) s = record s { stack = with_value s.stack p v }
write_to u v (Some (Closed old)) s = record s { upvalues = slice_set s.upvalues u (Closed v) }

abbrev pub write_numbered : Option ℕ → Val → State → State
write_numbered None v s = s
write_numbered (Some u) v s = write_to u v (slice_get s.upvalues u) s

abbrev pub write_upvalue : Frame → ℕ → Val → State → State
write_upvalue f i v s = write_numbered (slice_get (captured_by s f) i) v s

-- Taking a variable for a new function: a place that is captured while it is open keeps its upvalue. What isn't there
-- makes a closed upvalue of null.
abbrev pub or_opened : ℕ → List Upvalue → Option ℕ → ℕ × List Upvalue
or_opened p us (Some u) = (u, us)
or_opened p us None = (length us, us ++ Opened p ∷ [])

abbrev pub or_closed : List Upvalue → Option ℕ → ℕ × List Upvalue
or_closed us (Some u) = (u, us)
or_closed us None = (length us, us ++ Closed Null ∷ [])

-- the places on the stack are those below `height`
abbrev pub capture_one : ℕ → Frame → List ℕ → Capture → List Upvalue → ℕ × List Upvalue
capture_one height f captured c us =
    if c.local
    then (if nat_lt (f.base + c.index) height then or_opened (f.base + c.index) us (find_open us (f.base + c.index)) else or_closed us None)
    else or_closed us (slice_get captured c.index)

abbrev pub capture_all : ℕ → Frame → List ℕ → List Capture → List Upvalue → List ℕ × List Upvalue
capture_all height f captured [] us = ([], us)
capture_all height f captured (c ∷ cs) us =
    let one = capture_one height f captured c us in
    let others = capture_all height f captured cs one.1 in
    (one.0 ∷ others.0, others.1)
