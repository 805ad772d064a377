use Rattle.std.proofs.Common.{◌≡◌, None, Some, take, sym, ap, ◌∙◌}
use Rattle.serde_json.specs.View.{view}
use Rattle.event_plans.specs.Function.{answer_of}
use Rattle.event_plans.specs.Members.{read_all, views}
use Rattle.event_plans.proofs.Lists.{read_none, read_push, split_at, views_more}
use Rattle.event_plans.proofs.function.answers_of.Goals as goal

pub returns-in_default : goal.returns-in_default
returns-in_default c =
    let vs = c.args.values.now in
    let i = c.loop-value.value-index in
    let v = c.value-item.result in
    let split = split_at vs i v c.loop-value-test.true c.value-item.is in
    sym (ap (read_all answer_of) split.1 ∙ read_none answer_of (views (take i vs)) (view v) split.0 (sym c.in_ok-answer.ensures ∙ c.in_default.is))

pub loop-value-preserved : goal.loop-value-preserved
loop-value-preserved c =
    let vs = c.args.values.now in
    let i = c.loop-value.value-index in
    let v = c.value-item.result in
    ap (read_all answer_of) (views_more vs i v c.loop-value-test.true c.value-item.is)
    ∙ read_push answer_of (views (take i vs)) (view v) c.loop-value.answers.items c.in-Some.answer c.loop-value.invariant (sym c.in_ok-answer.ensures ∙ c.in-Some.is)
    ∙ ap Some (sym c.in_ok-push.ensures.items)
