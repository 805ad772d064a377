use Rattle.std.proofs.Common.{◌≡◌, ◌+◌, ◌∷◌, ◌++◌, [], map, arith, sym, ap, ◌∙◌}
use Rattle.std.proofs.lemmas.List.FromFn.{map-range_with_len_more}
use Rattle.std.specs.List.{range_with_len}
use Rattle.event_plans.proofs.Lists.{map_push}
use Rattle.event_plans.specs.Drafts.{data_of, datas_of}
use Rattle.made_plans.specs.Made.{made_event, made_events}
use Rattle.made_plans.proofs.events.made_events.Goals as goal

pub loop-i-preserved : goal.loop-i-preserved
loop-i-preserved c =
    let made = made_event c.args.n in
    let i = c.loop-i.i in
    let e = c.in_ok-made_event.field-0 in
    ap datas_of c.in_ok-push.ensures.items
    ∙ map_push data_of c.loop-i.events.items e
    ∙ ap (λ ds. ds ++ data_of e ∷ []) c.loop-i.invariant
    ∙ ap (λ d. map made (range_with_len 0 i) ++ d ∷ []) c.in_ok-made_event.ensures
    ∙ sym (map-range_with_len_more made 0 i i (omega arith))

pub returns : goal.returns
unfolding made_events
returns c =
    let n = c.args.n in
    let all : c.loop-i.i ≡ n + 1000 = omega (arith, c.loop-i.auto.i-end, c.loop-i-test.false) in
    c.loop-i.invariant ∙ ap (λ k. map (made_event n) (range_with_len 0 k)) all
