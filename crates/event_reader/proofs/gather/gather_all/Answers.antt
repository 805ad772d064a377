use Rattle.std.proofs.Common.{◌≡◌, ◌+◌, ◌≤◌, List, length, take, sym, ap, ◌∙◌, subst}
use Rattle.serde_json.specs.Data.{Data}
use Rattle.event_destinations.specs.Seen.{of_destinations}
use Rattle.event_plans.specs.Drafts.{data_of, datas_of}
use Rattle.event_reader.specs.Gathering.{GathersAll}
use Rattle.event_reader.proofs.Rows.{all_more, before_more, map_more}
use Rattle.event_reader.proofs.gather.gather_all.Goals as goal

pub loop-e-preserved : goal.loop-e-preserved
loop-e-preserved c =
    let es = c.args.events.now in
    let e = c.loop-e.e in
    let event = c.index-events-e.result in
    let fs = of_destinations c.args.destinations.now in
    subst (λ (ds : List Data). GathersAll ds fs c.in_ok-gathered.gathered) (sym (map_more data_of es e event c.loop-e-test.true c.index-events-e.is))
    (all_more (take e (datas_of es)) (data_of event) fs e c.loop-e.gathered c.in_ok-gathered.gathered (before_more data_of es e c.loop-e-test.true) c.loop-e.invariant
    c.in_ok-gathered.ensures)
