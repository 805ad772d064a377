use Rattle.std.proofs.Common.{◌≡◌, ◌∙◌, List, true, false, sym, ap}
use Rattle.std.specs.Prelude.{not}
use Rattle.event_destinations.specs.Seen.{of_destinations}
use Rattle.event_destinations.specs.declared.destination.Destination.{Destination}
use Rattle.event_plans.specs.Drafts.{datas_of, draft_of, functions_of}
use Rattle.event_plans.specs.declared.event.Event.{Event}
use Rattle.event_reader.specs.Gathering.{GathersAll}
use Rattle.event_reader.proofs.Answered.{gathers_of, is_nothing, too_large, too_many}
use Rattle.event_reader.proofs.reader.plan_of.Goals as goal

pub returns-then-is_none-clause-stop : goal.returns-then-is_none-clause-stop
returns-then-is_none-clause-stop c =
    let d = draft_of c.args.draft in
    let g = c.in_ok-gathered.gathered in
    let all = gathers_of d (datas_of c.as_slice.result.now) (of_destinations c.as_slice-2.result.now) g
    (ap (λ (es : List Event). datas_of es) c.as_slice.ensures.value)
    (ap (λ (ds : List Destination). of_destinations ds) c.as_slice-2.ensures.value ∙ c.in_ok-destinations.ensures.functions) c.in_ok-gathered.ensures in
    λ _. too_many d g c.in_ok-destinations.ensures.ready all (is_nothing g.places (c.is_none.ensures ∙ ap not c.if-is_none.true))

pub returns-then-is_none-2-clause-stop : goal.returns-then-is_none-2-clause-stop
returns-then-is_none-2-clause-stop c =
    let d = draft_of c.args.draft in
    let g = c.in_ok-gathered.gathered in
    let all = gathers_of d (datas_of c.as_slice.result.now) (of_destinations c.as_slice-2.result.now) g
    (ap (λ (es : List Event). datas_of es) c.as_slice.ensures.value)
    (ap (λ (ds : List Destination). of_destinations ds) c.as_slice-2.ensures.value ∙ c.in_ok-destinations.ensures.functions) c.in_ok-gathered.ensures in
    λ _. too_large d g c.in_ok-destinations.ensures.ready all (c.is_none.ensures ∙ ap not c.if-is_none.false)
    (is_nothing g.room (c.is_none-2.ensures ∙ ap not c.if-is_none-2.true))
