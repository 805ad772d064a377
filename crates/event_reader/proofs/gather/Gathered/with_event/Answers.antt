use Rattle.std.proofs.Common.{◌≡◌, ◌+◌, ◌≤◌, ◌∷◌, [], ◌++◌, List, length, take, sym, ap, ◌∙◌, subst, arith}
use Rattle.std.proofs.lemmas.List.{length-map, take_all}
use Rattle.event_destinations.specs.Seen.{of_destinations}
use Rattle.event_destinations.specs.declared.destination.Destination.{Destination}
use Rattle.event_plans.specs.Drafts.{data_of, function_of}
use Rattle.event_plans.specs.Function.{FunctionOf}
use Rattle.event_reader.specs.Gathering.{AddsRow}
use Rattle.event_reader.proofs.Rows.{before_more, map_more, row_more}
use Rattle.event_reader.proofs.gather.Gathered.with_event.Goals as goal

pub loop-n-preserved : goal.loop-n-preserved
loop-n-preserved c =
    let ds = c.args.destinations.now in
    let n = c.loop-n.n in
    let d = c.index-destinations-n.result in
    let event = data_of c.args.event.now in
    let see = λ (x : Destination). function_of x.function in
    let more = map_more see ds n d c.loop-n-test.true c.index-destinations-n.is in
    subst (λ (fs : List FunctionOf). AddsRow c.args.place event fs c.args.self c.in_ok-gathered.gathered) (sym more)
    (row_more c.args.place event (take n (of_destinations ds)) (function_of d.function) n c.in_ok-meeting.meeting c.args.self c.loop-n.gathered c.in_ok-gathered.gathered
    (before_more see ds n c.loop-n-test.true) c.loop-n.invariant c.in_ok-meeting.ensures.meets c.in_ok-gathered.ensures)

pub returns : goal.returns
returns c =
    let ds = c.args.destinations.now in
    let all : take c.loop-n.n (of_destinations ds) ≡ of_destinations ds =
    take_all c.loop-n.n (of_destinations ds) (omega (arith, length-map ds (λ (x : Destination). function_of x.function), c.loop-n-test.false)) in
    subst (λ (fs : List FunctionOf). AddsRow c.args.place (data_of c.args.event.now) fs c.args.self c.loop-n.gathered) all c.loop-n.invariant
