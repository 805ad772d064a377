-- Which steps are fit to be played.
use Rattle.std.specs.Prelude.{◌≡◌, ◌≤◌}
use Rattle.hog_ops.specs.Plain.{Ops}
use Rattle.hog_program.specs.Program.{HasCode}
use Rattle.cyclotron_jobs.specs.declared.input.Answers.TheVariants.{Free}
use Rattle.hog_jobs.specs.Inputs.{IsGlobals}
use Rattle.script_reader.specs.Elements.{most_worker, most_moment, most_slice, most_job}
use Rattle.script_reader.specs.declared.step.Step.{Step}
use Rattle.script_reader.specs.declared.step.Step.TheVariants.{Enqueue, Take, Beat, Work, Answer, Flush, Sweep, Lose, Forge, Back}

-- Its numbers are in their ranges. The globals of an enqueue are those that a job may have, and its job takes any reply.
abbrev pub IsInRange : Step → Type 0
IsInRange (Enqueue input priority at) = IsGlobals input.globals × (input.answers ≡ Free) × (at ≤ most_moment)
IsInRange (Take worker on now) = (worker ≤ most_worker) × (now ≤ most_moment)
IsInRange (Beat worker now) = (worker ≤ most_worker) × (now ≤ most_moment)
IsInRange (Work worker slice) = (worker ≤ most_worker) × (1 ≤ slice) × (slice ≤ most_slice)
IsInRange (Answer worker reply) = worker ≤ most_worker
IsInRange (Flush worker) = worker ≤ most_worker
IsInRange (Sweep now) = now ≤ most_moment
IsInRange (Lose worker) = worker ≤ most_worker
IsInRange (Forge worker job draw) = (worker ≤ most_worker) × (job ≤ most_job) × (draw ≤ most_moment)
IsInRange (Back worker at) = (worker ≤ most_worker) × (at ≤ most_moment)

-- the source of the step is built, and has a code, where it has one
abbrev pub Builds : Step → Type 0
Builds (Enqueue input priority at) = (code : Ops) × HasCode input.source code
Builds (Take worker on now) = Unit {0}
Builds (Beat worker now) = Unit {0}
Builds (Work worker slice) = Unit {0}
Builds (Answer worker reply) = Unit {0}
Builds (Flush worker) = Unit {0}
Builds (Sweep now) = Unit {0}
Builds (Lose worker) = Unit {0}
Builds (Forge worker job draw) = Unit {0}
Builds (Back worker at) = Unit {0}

-- So an enqueue of a fit step has an input that a job may begin with.
pub record IsFit (step : Step) : Type 0 where
  pub ranges : IsInRange step
  pub builds : Builds step
