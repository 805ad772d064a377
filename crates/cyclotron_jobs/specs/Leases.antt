-- What contracts see of a lease, of a run and of an answered request.
use Rattle.std.specs.Prelude.{ℕ, List, Option}
use Rattle.hog_value.specs.declared.trace.Request.{Request}
use Rattle.hog_value.specs.declared.trace.Shown.{Shown}
use Rattle.lock_ids.specs.declared.lock.LockId.{LockId}
use Rattle.cyclotron_jobs.specs.declared.input.JobInput.{JobInput}
use Rattle.cyclotron_jobs.specs.declared.input.Reply.{Reply}
use Rattle.cyclotron_jobs.specs.declared.row.QueueName.{QueueName}
use Rattle.cyclotron_jobs.specs.declared.row.After.{After}

-- a lease, with what its row had shown at the take
pub record LeaseOf : Type 0 where
  pub lock : LockId
  pub queue : QueueName
  pub input : JobInput
  pub replies : List Reply
  pub ops : ℕ
  pub tries : ℕ
  pub saved : List ℕ
  pub asks : Option Request
  pub shown : Shown

-- a run from one number of operations to another
pub record AdvanceOf : Type 0 where
  pub input : JobInput
  pub replies : List Reply
  pub from : ℕ
  pub to : ℕ
  pub saved : List ℕ
  pub shown : Shown
  pub after : After

-- a reply to a job that had these replies and operations
pub record AnsweredOf : Type 0 where
  pub input : JobInput
  pub replies : List Reply
  pub from : ℕ
  pub reply : Reply
