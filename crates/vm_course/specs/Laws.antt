-- What the laws of codes and runs say.
use Rattle.std.specs.Prelude.{◌≡◌, ℕ, ◌+◌, ◌≤◌, ◌<◌, List, length, true, Some, slice_get}
use Rattle.hog_ops.specs.Plain.{Op, Ops}
use Rattle.hog_ops.specs.Table.{size, span}
use Rattle.hog_ops.specs.Valid.{IsCode}
use Rattle.hog_meaning.specs.World.{Fixed, Reply}
use Rattle.vm_course.specs.State.{Slot, Begins, code_slots, Running, Waiting, State}
use Rattle.vm_course.specs.Step.{step}
use Rattle.vm_course.specs.Run.{RunState, begun, one_more, run_for, resumed, IsRunOf}
use Rattle.vm_course.specs.Belongs.{belongs}
use Rattle.vm_course.specs.Fits.{OpFits}

-- two slices leave what one of as many operations leaves
abbrev pub SlicesCompose : Type 0
SlicesCompose = (code : Ops) (a b : ℕ) (r : RunState) → run_for code (a + b) r ≡ run_for code b (run_for code a r)

-- How many operations a slice does: all of them where the run goes on behind it, and one at least where it goes on before. It
-- takes in no reply, and where the run doesn't go on it changes nothing.
pub record SliceCounts (code : Ops) (n : ℕ) (r : RunState) : Type 0 where
  pub at_most : (run_for code n r).ops ≤ r.ops + n
  pub all_done : (run_for code n r).state.mode ≡ Running → (run_for code n r).ops ≡ r.ops + n
  pub goes_on : 1 ≤ n → r.state.mode ≡ Running → r.ops < (run_for code n r).ops
  pub used : (run_for code n r).used ≡ r.used
  pub rests : (r.state.mode ≡ Running → ⊥) → run_for code n r ≡ r

abbrev pub SlicesCount : Type 0
SlicesCount = (code : Ops) (n : ℕ) (r : RunState) → SliceCounts code n r

-- each operation of a code fits, and a code has as many places as elements, and the two of its header
abbrev pub CodesFit : Type 0
CodesFit = (code : Ops) (p : ℕ) (op : Op) → IsCode code → slice_get (code_slots code) p ≡ Some (Begins op) → OpFits (code_slots code) (p + size op) op

abbrev pub CodesCount : Type 0
CodesCount = (code : Ops) → length (code_slots code) ≡ 2 + span code

-- no operation takes a cell away
abbrev pub HeapGrows : Type 0
HeapGrows = (fixed : Fixed) (code : List Slot) (s : State) → length s.heap ≤ length (step fixed code s).heap

-- a run begins as one that belongs to its code, and goes on so
abbrev pub BeginsBelonging : Type 0
BeginsBelonging = (code : Ops) (globals : List ℕ) → IsCode code → belongs code (begun code globals) ≡ true

abbrev pub KeepsBelonging : Type 0
KeepsBelonging = (code : Ops) (r : RunState) → IsCode code → belongs code r ≡ true → belongs code (one_more code r) ≡ true

abbrev pub SlicesBelong : Type 0
SlicesBelong = (code : Ops) (n : ℕ) (r : RunState) → IsCode code → belongs code r ≡ true → belongs code (run_for code n r) ≡ true

abbrev pub RepliesBelong : Type 0
RepliesBelong = (code : Ops) (reply : Reply) (r : RunState) → belongs code r ≡ true → belongs code (resumed reply r) ≡ true

-- A run that begins on globals is theirs, on any replies; one that goes on is theirs still, and one that waits for a reply that
-- is there, and takes it in.
abbrev pub BeginsOnCourse : Type 0
BeginsOnCourse = (code : Ops) (globals : List ℕ) (replies : List Reply) → IsRunOf code globals replies (begun code globals)

abbrev pub SlicesOnCourse : Type 0
SlicesOnCourse = (code : Ops) (globals : List ℕ) (replies : List Reply) (n : ℕ) (r : RunState) → IsRunOf code globals replies r → IsRunOf code globals replies (run_for code n r)

abbrev pub RepliesOnCourse : Type 0
RepliesOnCourse = (code : Ops) (globals : List ℕ) (replies : List Reply) (reply : Reply) (r : RunState)
    → IsRunOf code globals replies r → r.state.mode ≡ Waiting → slice_get replies r.used ≡ Some reply → IsRunOf code globals replies (resumed reply r)
