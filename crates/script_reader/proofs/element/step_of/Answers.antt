use Rattle.std.proofs.Common.{sym, subst}
use Rattle.serde_json.specs.View.{view}
use Rattle.script_reader.specs.Elements.{AreShallow}
use Rattle.script_reader.proofs.Lists.{shallow}
use Rattle.script_reader.proofs.element.step_of.Goals as goal

pub step_among-requires : goal.step_among-requires
step_among-requires c =
    subst AreShallow (sym c.as_slice.ensures.value) (shallow (view c.args.element.now) c.in-Some.values.now.items c.in-Some.ensures c.requires)
