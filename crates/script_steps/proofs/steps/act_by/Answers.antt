use Rattle.std.proofs.Common.{◌≤◌, IfOk, sym, subst, arith}
use Rattle.std.proofs.lemmas.Result.{IfOk-weaker}
use Rattle.script_reader.specs.declared.step.Step.{Step}
use Rattle.script_steps.specs.Play.{ActsAt, Replies, RoseBy, Works, faults_in, scene_of}
use Rattle.script_steps.proofs.PlayLemmas.{works_rose, replies_rose, loses_rose, forges_rose}
use Rattle.script_steps.proofs.steps.act_by.Goals as goal

pub returns-in-Work-clause-acts : goal.returns-in-Work-clause-acts
returns-in-Work-clause-acts g c =
    let queue = c.args.queue.now in
    subst (λ (s : Step). IfOk c.work_on.result (λ said. ActsAt s (scene_of queue c.args.hand.now) said (scene_of queue c.work_on.new.hand))) (sym c.in-Work.is) (c.work_on.ensures queue.rows queue.history)

pub returns-in-Work-clause-faults : goal.returns-in-Work-clause-faults
returns-in-Work-clause-faults g c =
    let queue = c.args.queue.now in
    let count = g.K.Keeper.faults queue.keeper in
    let old = scene_of queue c.args.hand.now in
    let new = scene_of queue c.work_on.new.hand in
    let same : count ≤ count = omega arith in
    IfOk-weaker c.work_on.result (λ said. Works c.in-Work.slice old said new) (λ said. RoseBy (faults_in said) count count)
    (λ said works. works_rose c.in-Work.slice old new said count count works same) (c.work_on.ensures queue.rows queue.history)

pub returns-in-Answer-clause-acts : goal.returns-in-Answer-clause-acts
returns-in-Answer-clause-acts g c =
    let queue = c.args.queue.now in
    subst (λ (s : Step). IfOk c.answer.result (λ said. ActsAt s (scene_of queue c.args.hand.now) said (scene_of queue c.answer.new.hand))) (sym c.in-Answer.is) (c.answer.ensures queue.rows queue.history)

pub returns-in-Answer-clause-faults : goal.returns-in-Answer-clause-faults
returns-in-Answer-clause-faults g c =
    let queue = c.args.queue.now in
    let count = g.K.Keeper.faults queue.keeper in
    let old = scene_of queue c.args.hand.now in
    let new = scene_of queue c.answer.new.hand in
    let same : count ≤ count = omega arith in
    IfOk-weaker c.answer.result (λ said. Replies c.in-Answer.reply old said new) (λ said. RoseBy (faults_in said) count count)
    (λ said replies. replies_rose c.in-Answer.reply old new said count count replies same) (c.answer.ensures queue.rows queue.history)

pub returns-in-Lose-clause-faults : goal.returns-in-Lose-clause-faults
returns-in-Lose-clause-faults g c =
    let queue = c.args.queue.now in
    let count = g.K.Keeper.faults queue.keeper in
    let same : count ≤ count = omega arith in
    loses_rose (scene_of queue c.args.hand.now) (scene_of queue c.lose.new.hand) c.lose.result count count (c.lose.ensures queue.rows queue.history) same

pub returns-in-Forge-clause-faults : goal.returns-in-Forge-clause-faults
returns-in-Forge-clause-faults g c =
    let queue = c.args.queue.now in
    let count = g.K.Keeper.faults queue.keeper in
    let same : count ≤ count = omega arith in
    forges_rose c.of.result (scene_of queue c.args.hand.now) (scene_of queue c.forge.new.hand) c.forge.result count count (c.forge.ensures queue.rows queue.history) same
