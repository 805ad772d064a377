-- How many replies a job of a queue has that waits for one.
use Rattle.std.proofs.Common.{◌≡◌, ℕ, zero, suc, ◌-◌, ◌<◌, ◌≤◌, List, [], ◌∷◌, length, Bool, true, false, refl, ap, ◌∙◌, arith}
use Rattle.std.specs.Prelude.{◌&&◌, drop}
use Rattle.std.proofs.lemmas.Bool.{leb-true}
use Rattle.std.proofs.lemmas.List.{length-map}
use Rattle.hog_value.specs.declared.trace.Request.{Request}
use Rattle.hog_value.specs.declared.trace.Shown.{Shown}
use Rattle.hog_value.specs.declared.trace.TraceItem.{TraceItem}
use Rattle.hog_meaning.specs.Meaning.{most_requests}
use Rattle.hog_meaning.specs.World as world
use Rattle.vm_course.specs.Course.{machine}
use Rattle.vm_course.specs.Run.{RunState}
use Rattle.vm_course.specs.State.{Running, Waiting, Ended, Mode, State}
use Rattle.vm_course.specs.States.{requests_in, is_state}
use Rattle.vm_requests.specs.Requests.{open_requests, RepliesAnswerRequests}
use Rattle.cyclotron_jobs.specs.declared.input.JobInput.{JobInput}
use Rattle.cyclotron_jobs.specs.declared.input.Reply.{Reply}
use Rattle.cyclotron_jobs.specs.declared.row.After.TheVariants.{Fetch}
use Rattle.hog_jobs.specs.Course.{reply_of, replies_of, ComesNext, StandsAt}
use Rattle.hog_jobs.specs.CourseRuns.{mode_there, trace_there, left_there}
use Rattle.hog_jobs.specs.Inputs.{IsInput}
use Rattle.job_lines.specs.Laws.{FewReplies}

left : (a b : Bool) → (a && b) ≡ true → a ≡ true
left true b e = refl
left false b e = e

right : (a b : Bool) → (a && b) ≡ true → b ≡ true
right true b e = e
right false b e = absurd cc

requests_few : (r : RunState) → is_state r ≡ true → requests_in r.state.trace ≤ most_requests
unfolding is_state
requests_few r is = leb-true _ _ (right _ _ (left _ _ (left _ _ (left _ _ (left _ _ is)))))

record HasNone (m : Mode) (rest : List world.Reply) : Type 0 where
  waiting : m ≡ Waiting
  none : rest ≡ []

waits_by : (m : Mode) (rest : List world.Reply) (trace : List TraceItem) (request : Request) → ComesNext m rest trace (Fetch request) → HasNone m rest
waits_by Running rest trace request is = absurd cc
waits_by Waiting [] trace request is = record { waiting = refl; none = refl }
waits_by Waiting (r ∷ rs) trace request is = absurd cc
waits_by (Ended end) rest trace request is = absurd cc

module _ (law : RepliesAnswerRequests) where
  stood : (input : JobInput) (replies : List Reply) (ops : ℕ) (saved : List ℕ) (shown : Shown) (request : Request) (taken : IsInput input)
      → StandsAt taken.code input.globals (replies_of replies) ops saved shown (Fetch request) → length replies < most_requests
  stood input replies zero saved shown request taken stands = let bad = stands.2 in absurd cc
  stood input replies (suc k) saved shown request taken stands =
      let code = taken.code in
      let globals = input.globals in
      let given = replies_of replies in
      let run = stands.run in
      let at : State = machine code globals given (suc k - 1) in
      let w = waits_by run.state.mode (drop run.used given) run.state.trace request stands.after in
      let asked = law code globals given (suc k - 1) in
      let mode : at.mode ≡ Waiting = mode_there code globals given (suc k) run stands.at ∙ w.waiting in
      let open_one : open_requests at.mode ≡ 1 = ap open_requests mode in
      let none : length at.replies ≡ 0 = ap length (left_there code globals given (suc k) run stands.at ∙ w.none) in
      let trace : requests_in at.trace ≡ requests_in run.state.trace = ap requests_in (trace_there code globals given (suc k) run stands.at) in
      let few = requests_few run stands.machine.state in
      let same = length-map replies reply_of in
      omega (arith, asked, open_one, none, trace, few, same)

  pub few_replies : FewReplies
  few_replies input replies ops saved shown request is = stood input replies ops saved shown request is.taken is.stands
