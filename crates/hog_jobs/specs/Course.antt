-- Where the machine of a job stands after so many operations, what is saved of it, and what comes next.
use Rattle.std.specs.Prelude.{◌≡◌, ℕ, zero, suc, ◌≤◌, List, [], ◌∷◌, ◌++◌, length, map, drop}
use Rattle.std.specs.Str.{IsUtf8}
use Rattle.hog_value.specs.declared.trace.Request.{Request}
use Rattle.hog_value.specs.declared.trace.Shown.{Shown}
use Rattle.hog_value.specs.declared.trace.TraceItem.{TraceItem}
use Rattle.hog_value.specs.declared.trace.TraceItem.TheVariants.{Asked}
use Rattle.hog_ops.specs.Plain.{Ops}
use Rattle.hog_meaning.specs.World as world
use Rattle.vm_course.specs.State.{Running, Waiting, Ended, Mode}
use Rattle.vm_course.specs.Course.{shown_by}
use Rattle.vm_course.specs.Run.{RunState, IsRunOf}
use Rattle.vm_state.specs.Laws.{IsMachineOf}
use Rattle.vm_state.specs.Text.{state_text}
use Rattle.cyclotron_jobs.specs.declared.input.Reply.{Reply}
use Rattle.cyclotron_jobs.specs.declared.row.After.{After}
use Rattle.cyclotron_jobs.specs.declared.row.After.TheVariants.{Hog, Fetch, Finished}
use Rattle.cyclotron_jobs.specs.Course.{shows_nothing}

-- a job's replies as the machine takes them in
abbrev pub reply_of : Reply → world.Reply
reply_of reply = record { status = reply.status; body = reply.body }

abbrev pub replies_of : List Reply → List world.Reply
replies_of replies = map reply_of replies

-- The run that the machine of a code has behind it after so many operations, the first of which is the start. No more replies
-- are used than there are.
pub record IsRunAt (code : Ops) (globals : List ℕ) (replies : List world.Reply) (ops : ℕ) (run : RunState) : Type 0 where
  pub course : IsRunOf code globals replies run
  pub count : run.ops ≡ ops
  pub few : run.used ≤ length replies

-- The machine waits for the reply to the request that it showed last.
pub record AsksLast (trace : List TraceItem) (next : After) : Type 0 where
  pub before : List TraceItem
  pub request : Request
  pub last : trace ≡ before ++ Asked request ∷ []
  pub fetches : next ≡ Fetch request

-- what comes next, by the replies that are left and by what was shown
abbrev pub ComesNext : Mode → List world.Reply → List TraceItem → After → Type 0
ComesNext Running left trace next = next ≡ Hog
ComesNext Waiting [] trace next = AsksLast trace next
ComesNext Waiting (reply ∷ left) trace next = next ≡ Hog
ComesNext (Ended e) left trace next = next ≡ Finished

-- What is saved of a run is its text, and the run is a machine of the code, so the text loads.
pub record IsSaved (code : Ops) (globals : List ℕ) (replies : List world.Reply) (ops : ℕ) (saved : List ℕ) (shown : Shown) (next : After) : Type 0 where
  pub run : RunState
  pub at : IsRunAt code globals replies ops run
  pub machine : IsMachineOf code run
  pub text : saved ≡ state_text run
  pub utf8 : IsUtf8 saved
  pub seen : shown ≡ shown_by run.state
  pub after : ComesNext run.state.mode (drop run.used replies) run.state.trace next

-- Before the first operation nothing is saved, nothing was shown, and the job is to be run.
abbrev pub StandsAt : Ops → List ℕ → List world.Reply → ℕ → List ℕ → Shown → After → Type 0
StandsAt code globals replies zero saved shown next = (saved ≡ []) × (shown ≡ shows_nothing) × (next ≡ Hog)
StandsAt code globals replies (suc k) saved shown next = IsSaved code globals replies (suc k) saved shown next
