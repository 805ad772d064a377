use Rattle.std.proofs.Common.{◌≡◌, None, Some, [], ◌∷◌, ◌++◌, take, sym, ap, ◌∙◌}
use Rattle.std.specs.Prelude.{option_map}
use Rattle.serde_json.specs.View.{view}
use Rattle.event_plans.specs.Drafts.{function_of, functions_of}
use Rattle.event_plans.specs.Function.{function_in}
use Rattle.event_plans.specs.Members.{read_all, views}
use Rattle.event_plans.proofs.Lists.{map_push, read_none, read_push, split_at, views_more}
use Rattle.event_plans.proofs.draft.Draft.functions.Goals as goal

pub returns-in_default : goal.returns-in_default
returns-in_default c =
    let vs = c.args.values.now in
    let i = c.loop-value.value-index in
    let v = c.value-item.result in
    let split = split_at vs i v c.loop-value-test.true c.value-item.is in
    sym (ap (read_all function_in) split.1
    ∙ read_none function_in (views (take i vs)) (view v) split.0 (sym c.in_ok-function.ensures ∙ ap (option_map function_of) c.in_default.is))

pub loop-value-preserved : goal.loop-value-preserved
loop-value-preserved c =
    let vs = c.args.values.now in
    let i = c.loop-value.value-index in
    let v = c.value-item.result in
    let fs = c.loop-value.functions.items in
    let f = c.in-Some.function in
    ap (read_all function_in) (views_more vs i v c.loop-value-test.true c.value-item.is)
    ∙ read_push function_in (views (take i vs)) (view v) (functions_of fs) (function_of f) c.loop-value.invariant
    (sym c.in_ok-function.ensures ∙ ap (option_map function_of) c.in-Some.is)
    ∙ ap Some (sym (map_push function_of fs f) ∙ ap functions_of (sym c.in_ok-push.ensures.items))
