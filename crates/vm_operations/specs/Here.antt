-- Where the machine stands, and what it keeps.
use Rattle.std.specs.Prelude.{◌≡◌, ℕ, List, length, All}
use Rattle.hog_value.specs.declared.trace.End.TheVariants as end
use Rattle.hog_value.specs.declared.value.Stop.{Stop}
use Rattle.hog_value.specs.declared.value.Stop.TheVariants as made
use Rattle.hog_value.specs.declared.value.SetStop.{SetStop}
use Rattle.hog_value.specs.declared.value.SetStop.TheVariants as stop
use Rattle.hog_value.specs.Values.{NamesBelow}
use Rattle.hog_value.specs.Cells.{IsCovered}
use Rattle.hog_value.specs.declared.trace.TraceItem.TheVariants.{Printed, Asked}
use Rattle.hog_value.specs.declared.value.Value.TheVariants.{Null}
use Rattle.hog_library.specs.declared.call.NativeAnswer.{NativeAnswer}
use Rattle.hog_library.specs.declared.call.NativeAnswer.TheVariants as answer
use Rattle.hog_library.specs.declared.call.CallStop.{CallStop}
use Rattle.hog_library.specs.declared.call.CallStop.TheVariants as call
use Rattle.hog_ops.specs.Plain.{Op, GetGlobal, Str}
use Rattle.hog_meaning.specs.Meaning.{place_in}
use Rattle.hog_meaning.specs.World.{Fixed}
use Rattle.vm_frames.specs.Parts.{innermost, others_of, ClosedBelow}
use Rattle.vm_course.specs.State.{Slot, Waiting, State}
use Rattle.vm_course.specs.Stack.{keep}
use Rattle.vm_course.specs.Throws.{ends, throw_kind}
use Rattle.vm_course.specs.Step.{Here, here_at, on_with, on_and_push, said, act}

-- where an operation of the innermost frame stands, whose end is at a place
abbrev pub here_of : ℕ → State → Here
here_of behind s = here_at behind (innermost s.frames) (others_of s.frames) s

-- what every machine keeps: its values name cells of its heap, and at least eight units are spent for each cell
pub record IsFit (s : State) : Type 0 where
  pub values : All (NamesBelow (length s.heap)) s.stack
  pub taken : All (ClosedBelow (length s.heap)) s.upvalues
  pub covered : IsCovered s.heap s.units

-- an operation was done, whose end is at a place
abbrev pub Does : Op → ℕ → State → State → Type 0
Does op behind before after = (fixed : Fixed) (code : List Slot) → after ≡ act fixed code op (here_of behind before) before

-- An operation on the heap has stopped: its kind was thrown, or memory is spent. Want of memory ends no run.
abbrev pub IsStopped : SetStop → State → State → Type 0
IsStopped (stop.Thrown kind) before after = after ≡ throw_kind kind before
IsStopped stop.UnitsSpent before after = after ≡ ends end.MemorySpent before
IsStopped stop.OutOfMemory before after = ⊥

-- why making a cell stopped, as why setting does
abbrev pub set_stop : Stop → SetStop
set_stop made.UnitsSpent = stop.UnitsSpent
set_stop made.OutOfMemory = stop.OutOfMemory

-- the answer of a native is taken, with so much of the stack left
abbrev pub answer_taken : ℕ → ℕ → NativeAnswer → State → State
answer_taken behind rest (answer.Gives v) s = on_and_push (here_of behind s) (keep rest s.stack) v s
answer_taken behind rest (answer.Prints text) s = on_and_push (here_of behind s) (keep rest s.stack) Null (said (Printed text) s)
answer_taken behind rest (answer.Throws kind) s = throw_kind kind s
answer_taken behind rest (answer.Asks request) s =
    let asked : State = on_with (here_of behind s) (keep rest s.stack) (said (Asked request) s) in
    record asked { mode = Waiting }

-- A native's call has stopped. Want of memory ends no run.
abbrev pub IsCallStopped : CallStop → State → State → Type 0
IsCallStopped call.TurnsSpent before after = after ≡ ends end.TurnsSpent before
IsCallStopped call.UnitsSpent before after = after ≡ ends end.MemorySpent before
IsCallStopped call.OutOfMemory before after = ⊥

-- GET_GLOBAL was done, where the cell of the globals has a number
abbrev pub ReadsGlobal : ℕ → ℕ → ℕ → State → State → Type 0
ReadsGlobal globals n behind before after =
    (fixed : Fixed) (code : List Slot) → fixed.globals ≡ globals → after ≡ act fixed code (GetGlobal n) (here_of behind before) before

-- STRING was done, where the text's literal has a number
abbrev pub PushesText : List ℕ → ℕ → ℕ → State → State → Type 0
PushesText text cell behind before after =
    (fixed : Fixed) (code : List Slot) → place_in fixed.literals text ≡ cell → after ≡ act fixed code (Str text) (here_of behind before) before
