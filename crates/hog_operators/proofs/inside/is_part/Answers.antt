use Rattle.std.proofs.Common.{ap₂, ◌∙◌}
use Rattle.hog_meaning.specs.Operators.{is_part}
use Rattle.hog_operators.proofs.Parts.{contains_is}
use Rattle.hog_operators.proofs.inside.is_part.Goals as goal

pub returns : goal.returns
returns c = contains_is _ _ _ c.contains.ensures.cases ∙ ap₂ is_part c.as_str-2.ensures c.as_str.ensures
