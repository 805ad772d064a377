-- The kinds of the three meanings of a course, of which definitions of histories and rows speak.
use Rattle.std.specs.Prelude.{ℕ, List}
use Rattle.hog_value.specs.declared.trace.Shown.{Shown}
use Rattle.cyclotron_jobs.specs.declared.input.JobInput.{JobInput}
use Rattle.cyclotron_jobs.specs.declared.input.Reply.{Reply}
use Rattle.cyclotron_jobs.specs.declared.row.After.{After}

-- which inputs it takes
abbrev pub InputRule : Type 1
InputRule = JobInput → Type 0

-- which saved text, which trace with its end and which After a job may have with these replies after so many operations
abbrev pub CourseRule : Type 1
CourseRule = JobInput → List Reply → ℕ → List ℕ → Shown → After → Type 0

-- which replies may come at a place among the replies
abbrev pub ReplyRule : Type 1
ReplyRule = JobInput → ℕ → Reply → Type 0
