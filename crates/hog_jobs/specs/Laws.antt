-- What the laws of runs on course say.
use Rattle.std.specs.Prelude.{◌≡◌, ℕ, ◌<◌, ◌^◌, ◌⊎◌, List, drop, true, Some, slice_get}
use Rattle.hog_value.specs.declared.trace.TraceItem.{TraceItem}
use Rattle.hog_ops.specs.Plain.{Ops}
use Rattle.hog_ops.specs.Valid.{IsCode}
use Rattle.hog_meaning.specs.World.{Reply}
use Rattle.vm_course.specs.State.{Running, Waiting, Mode}
use Rattle.vm_course.specs.Run.{RunState, begun, run_for, resumed}
use Rattle.vm_course.specs.States.{is_state}
use Rattle.hog_program.specs.Program.{HasCode}
use Rattle.cyclotron_jobs.specs.declared.row.After.TheVariants.{Hog}
use Rattle.hog_jobs.specs.Course.{IsRunAt, ComesNext}

-- the start is the first operation
abbrev pub RunsBegin : Type 0
RunsBegin = (code : Ops) (globals : List ℕ) (replies : List Reply) → IsRunAt code globals replies 1 (begun code globals)

-- a slice leads from a run on course to one
abbrev pub RunsGoOn : Type 0
RunsGoOn = (code : Ops) (globals : List ℕ) (replies : List Reply) (n : ℕ) (r : RunState)
    → IsRunAt code globals replies r.ops r → IsRunAt code globals replies (run_for code n r).ops (run_for code n r)

-- so does the next reply at a wait
abbrev pub RunsTakeReplies : Type 0
RunsTakeReplies = (code : Ops) (globals : List ℕ) (replies : List Reply) (reply : Reply) (r : RunState)
    → IsRunAt code globals replies r.ops r → r.state.mode ≡ Waiting → slice_get replies r.used ≡ Some reply
    → IsRunAt code globals replies (resumed reply r).ops (resumed reply r)

-- there is one run at most after so many operations
abbrev pub OneRun : Type 0
OneRun = (code : Ops) (globals : List ℕ) (replies : List Reply) (ops : ℕ) (a b : RunState)
    → IsRunAt code globals replies ops a → IsRunAt code globals replies ops b → a ≡ b

-- the machine runs, or waits for a reply that is there
abbrev pub GoesOn : Mode → List Reply → ℕ → Type 0
GoesOn m replies used = (m ≡ Running) ⊎ ((m ≡ Waiting) × (reply : Reply) × (slice_get replies used ≡ Some reply))

-- so does each after which more operations come
abbrev pub HogGoesOn : Type 0
HogGoesOn = (m : Mode) (replies : List Reply) (used : ℕ) (trace : List TraceItem)
    → ComesNext m (drop used replies) trace Hog → GoesOn m replies used

-- A run on course, whose turns are within their limit, has done fewer than 2^63 operations.
abbrev pub FewOperations : Type 0
FewOperations = (text : List ℕ) (code : Ops) (globals : List ℕ) (replies : List Reply) (ops : ℕ) (r : RunState)
    → HasCode text code → IsCode code → is_state r ≡ true → IsRunAt code globals replies ops r → ops < 2 ^ 63
