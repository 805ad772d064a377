use Rattle.std.proofs.Common.{◌≡◌, ◌+◌, length, arith, sym, ap, ◌∙◌}
use Rattle.std.proofs.lemmas.List.{length-map}
use Rattle.event_plans.specs.Drafts.{data_of, function_of}
use Rattle.made_plans.proofs.PlanLemmas.{made_length}
use Rattle.made_plans.proofs.plan.made_draft.Goals as goal

pub invariant_of-result-clause-few_events : goal.invariant_of-result-clause-few_events
invariant_of-result-clause-few_events c =
    let events = c.in_ok-made_events.field-0.items in
    let count : length events ≡ c.args.n + 1000 =
    sym (length-map events data_of) ∙ ap length c.in_ok-made_events.ensures ∙ made_length c.args.n in
    omega (arith, count, c.requires)

pub invariant_of-result-clause-few_functions : goal.invariant_of-result-clause-few_functions
invariant_of-result-clause-few_functions c =
    let functions = c.in_ok-made_functions.field-0.items in
    let count : length functions ≡ 3 =
    sym (length-map functions function_of) ∙ ap length c.in_ok-made_functions.ensures in
    omega (arith, count)
