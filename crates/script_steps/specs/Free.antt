-- Jobs of scripts take any reply.
use Rattle.std.specs.Prelude.{◌≡◌, Option, IfSome}
use Rattle.std.specs.List.{All}
use Rattle.cyclotron_jobs.specs.declared.input.JobInput.{JobInput}
use Rattle.cyclotron_jobs.specs.declared.input.Answers.TheVariants.{Free}
use Rattle.cyclotron_jobs.specs.declared.row.Row.{Row}
use Rattle.script_steps.specs.declared.said.Held.{Held}
use Rattle.script_steps.specs.Play.{Stage}

-- the job's replies come from outside, and from no list
abbrev pub IsFree : JobInput → Type 0
IsFree input = input.answers ≡ Free

-- so it is of the job whose lease a worker holds, where it holds one
abbrev pub HandIsFree : Option Held → Type 0
HandIsFree hand = IfSome hand (λ held. IsFree held.lease.input)

-- so it is of all jobs
pub record AreFree (stage : Stage) : Type 0 where
  pub rows : All (λ (row : Row). IsFree row.input) stage.rows
  pub hands : All HandIsFree stage.hands
