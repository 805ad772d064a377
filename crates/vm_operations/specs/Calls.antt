-- Functions that are called, and what new ones capture.
use Rattle.std.specs.Prelude.{ℕ, suc, List, length, Option, None, option_map}
use Rattle.hog_value.specs.declared.cell.FunCell.{FunCell}
use Rattle.hog_value.specs.declared.value.Value.TheVariants.{Null, Bool as Truth, Int, Ref}
use Rattle.hog_value.specs.Values.{Val}
use Rattle.hog_value.specs.Cells.{HeapOf}
use Rattle.hog_ops.specs.declared.capture.Capture.{Capture}
use Rattle.vm_course.specs.State.{Upvalue, State, function_at}
use Rattle.vm_course.specs.Stack.{captured_by, capture_all, push}
use Rattle.vm_course.specs.Throws.{goto}
use Rattle.vm_course.specs.Step.{Here}
use Rattle.vm_frames.specs.Parts.{innermost}
use Rattle.vm_operations.specs.declared.calls.Callee.{Callee}

-- the function that a value is, where it is one
abbrev pub callee_of : ℕ → FunCell → Callee
callee_of cell f = record { cell = cell; place = f.place }

abbrev pub callee_in : HeapOf FunCell → Val → Option Callee
callee_in h Null = None
callee_in h (Truth b) = None
callee_in h (Int z) = None
callee_in h (Ref cell) = option_map (callee_of cell) (function_at h cell)

-- the numbers of what a new function captures, and the upvalues then
abbrev pub captured_all : List Capture → State → List ℕ × List Upvalue
captured_all captures s = capture_all (suc (length s.stack)) (innermost s.frames) (captured_by s (innermost s.frames)) captures s.upvalues

-- the value goes on the stack, and the frame on
abbrev pub push_and_go : Here → Val → State → State
push_and_go here v s = push v (goto here.behind here.frame here.around s)
