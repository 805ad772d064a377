use Rattle.std.proofs.Common.{◌∙◌}
use Rattle.bytecode_check.proofs.Kept.{looked_up}
use Rattle.bytecode_check.proofs.shapes.PlaceShapes.get.Goals as goal

pub returns-clause-shape : goal.returns-clause-shape
returns-clause-shape c = (looked_up c.self.inside.map.entries c.args.self.now c.args.place c.copied.result c.self.view_is c.self.invariant (c.copied.ensures ∙ c.get.ensures.value)).0

pub returns-clause-known : goal.returns-clause-known
returns-clause-known c = (looked_up c.self.inside.map.entries c.args.self.now c.args.place c.copied.result c.self.view_is c.self.invariant (c.copied.ensures ∙ c.get.ensures.value)).1

pub returns-clause-grown : goal.returns-clause-grown
returns-clause-grown c = (looked_up c.self.inside.map.entries c.args.self.now c.args.place c.copied.result c.self.view_is c.self.invariant (c.copied.ensures ∙ c.get.ensures.value)).2
