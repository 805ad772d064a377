use Rattle.std.proofs.Common.{◌∙◌}
use Rattle.bytecode_check.proofs.Kept.{same_is}
use Rattle.bytecode_check.proofs.shapes.PlaceShapes.is_same.Goals as goal

pub returns : goal.returns
returns c = c.eq.ensures ∙ same_is c.args.self.now c.args.one c.args.other c.requires.one c.requires.other
