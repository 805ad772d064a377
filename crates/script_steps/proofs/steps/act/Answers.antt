use Rattle.std.proofs.Common.{◌≡◌, ℕ, get_or, Some, None, Option, IfOk, refl, sym, ◌∙◌, subst, arith}
use Rattle.std.specs.Prelude.{slice_set}
use Rattle.std.proofs.lemmas.Result.{IfOk-weaker}
use Rattle.std.proofs.lemmas.Option.{slice_get-get_or}
use Rattle.script_steps.specs.Play.{ActsFor, ByNone, ByWorker, ActsAt, Stage, scene_of, stage_of, worker_of}
use Rattle.script_steps.proofs.steps.act.Goals as goal

pub returns-in-Some-clause-acts : goal.returns-in-Some-clause-acts
returns-in-Some-clause-acts g c =
    let s = c.args.step.now in
    let hands = c.args.hands.now in
    let worker = c.in-Some.worker in
    let hand = get_or hands worker c.index-hands-worker.result in
    let left = c.act_by.new.hand in
    let old : Stage = stage_of c.args.queue.now hands in
    let new : Stage = stage_of c.act_by.new.queue (slice_set hands worker left) in
    let by : worker_of s ≡ Some worker = sym c.worker_of.ensures.value ∙ c.in-Some.is in
    let there = slice_get-get_or hands worker c.index-hands-worker.result (omega (arith, c.in-Some.ensures.within, c.requires.hands)) in
    subst (λ (w : Option ℕ). IfOk c.act_by.result (λ said. ActsFor w (ActsAt s) old said new)) (sym by)
    (IfOk-weaker c.act_by.result (λ said. ActsAt s (scene_of c.args.queue.now hand) said (scene_of c.act_by.new.queue left)) (λ said. ByWorker (ActsAt s) worker old said new)
    (λ said moves. record { hand = hand; there = there; left = left; act = moves; hands = refl }) c.act_by.ensures.acts)

pub returns-in-None-clause-acts : goal.returns-in-None-clause-acts
returns-in-None-clause-acts g c =
    let s = c.args.step.now in
    let hands = c.args.hands.now in
    let old : Stage = stage_of c.args.queue.now hands in
    let new : Stage = stage_of c.act_alone.new.queue hands in
    let by : worker_of s ≡ None = sym c.worker_of.ensures.value ∙ c.in-None.is in
    subst (λ (w : Option ℕ). IfOk c.act_alone.result (λ said. ActsFor w (ActsAt s) old said new)) (sym by)
    (IfOk-weaker c.act_alone.result (λ said. ActsAt s (scene_of c.args.queue.now None) said (scene_of c.act_alone.new.queue None)) (λ said. ByNone (ActsAt s) old said new)
    (λ said moves. record { act = moves; hands = refl }) c.act_alone.ensures.acts)
