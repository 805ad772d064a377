use Rattle.std.proofs.Common.{◌≡◌}
use Rattle.serde_json.specs.Data.{depth}
use Rattle.serde_json.specs.Find.{get}
use Rattle.serde_json.specs.View.{view}
use Rattle.event_plans.proofs.Depths.{get_depth, nested_by}
use Rattle.event_plans.proofs.member.member.Goals as goal

pub returns-clause-nested : goal.returns-clause-nested
returns-clause-nested c =
    let d = view c.args.value.now in
    nested_by c.get.result (λ v. view v.now) (depth d) (get c.args.name.now d) c.get.ensures (λ found there. get_depth c.args.name.now d found there)
