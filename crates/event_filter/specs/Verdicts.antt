-- What filters say.
use Rattle.std.specs.Prelude.{◌≡◌, ℕ, List, [], codes, bytes_eq, Option, Some, None, if◌then◌else◌}
use Rattle.hog_value.specs.declared.trace.End.{End}
use Rattle.hog_value.specs.declared.trace.End.TheVariants.{Done, Threw, TurnsSpent, MemorySpent, TooDeep, TooManyFetches}
use Rattle.hog_json.specs.Lines.{end_line, waiting}
use Rattle.hog_tree.specs.Plain.{Stms}
use Rattle.hog_meaning.specs.Program.{meaning}
use Rattle.vm_course.specs.Course.{end_in}
use Rattle.vm_course.specs.State.{State}
use Rattle.hogvm.specs.declared.steps.StartStop.{StartStop}
use Rattle.hogvm.specs.declared.steps.StartStop.TheVariants as start
use Rattle.hog_program.specs.Build.{IsBuilt}
use Rattle.event_filter.specs.declared.filter.FilterStop.{FilterStop}
use Rattle.event_filter.specs.declared.filter.FilterStop.TheVariants as stop
use Rattle.event_filter.specs.declared.filter.Verdict.{Verdict}
use Rattle.event_filter.specs.declared.filter.Verdict.TheVariants.{Yes, No, Broken}

-- the verdict at an end: yes where the result is shown as `true`, no at another result, and broken at an end without one
abbrev pub verdict_at : End → Verdict
verdict_at (Done text) = if bytes_eq text (codes "true") then Yes else No
verdict_at end = Broken (end_line end)

-- a filter that waits for a reply is broken, as none comes
abbrev pub verdict_by : Option End → Verdict
verdict_by None = Broken waiting
verdict_by (Some end) = verdict_at end

-- what the whole program of a filter says of globals: the verdict at the end of its meaning without replies
abbrev pub verdict_of : Stms → List ℕ → Verdict
verdict_of whole globals = verdict_by (meaning whole globals []).end

-- The filter is built, and says this of the globals.
pub record Says (filter globals : List ℕ) (verdict : Verdict) : Type 0 where
  pub whole : Stms
  pub is_built : IsBuilt filter whole
  pub is : verdict ≡ verdict_of whole globals

-- The text is built, and this state has shown all of its meaning on the globals without replies: its trace, and its end, which
-- isn't there where it waits.
pub record ShowsAll (source globals : List ℕ) (state : State) : Type 0 where
  pub whole : Stms
  pub is_built : IsBuilt source whole
  pub is : meaning whole globals [] ≡ record { trace = state.trace; end = end_in state.mode }

abbrev pub stop_of : StartStop → FilterStop
stop_of start.NotAnObject = stop.NotAnObject
stop_of start.OutOfMemory = stop.OutOfMemory
