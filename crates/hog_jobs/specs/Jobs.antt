-- What it is for a job to be on course.
use Rattle.std.specs.Prelude.{ℕ, List}
use Rattle.hog_value.specs.declared.trace.Shown.{Shown}
use Rattle.cyclotron_jobs.specs.declared.input.JobInput.{JobInput}
use Rattle.cyclotron_jobs.specs.declared.input.Reply.{Reply}
use Rattle.cyclotron_jobs.specs.declared.row.After.{After}
use Rattle.hog_jobs.specs.Course.{replies_of, StandsAt}
use Rattle.hog_jobs.specs.Inputs.{IsInput}

-- The job's input is one that it may begin with, and this is where the machine of its code stands on its globals and replies.
pub record IsCourse (input : JobInput) (replies : List Reply) (ops : ℕ) (saved : List ℕ) (shown : Shown) (next : After) : Type 0 where
  pub taken : IsInput input
  pub stands : StandsAt taken.code input.globals (replies_of replies) ops saved shown next
