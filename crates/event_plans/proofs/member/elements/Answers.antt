use Rattle.std.proofs.Common.{◌≡◌, Some, sym, ap, subst, ◌∙◌}
use Rattle.serde_json.specs.Data.{depth}
use Rattle.serde_json.specs.View.{view}
use Rattle.event_plans.specs.Members.{AreWithin, views}
use Rattle.event_plans.proofs.Depths.{elements_are, within_array}
use Rattle.event_plans.proofs.member.elements.Goals as goal

pub returns-in-Some-clause-elements : goal.returns-in-Some-clause-elements
returns-in-Some-clause-elements c =
    ap (λ vs. Some (views vs)) c.as_slice.ensures.value ∙ sym (elements_are (view c.args.value.now) c.in-Some.list.now.items c.in-Some.ensures)

pub returns-in-Some-clause-nested : goal.returns-in-Some-clause-nested
returns-in-Some-clause-nested c =
    subst (AreWithin (depth (view c.args.value.now))) (sym c.as_slice.ensures.value) (within_array (view c.args.value.now) c.in-Some.list.now.items c.in-Some.ensures)
