use Rattle.hog_spelling.proofs.Nested.{passed_late}
use Rattle.hog_spelling.proofs.laws.nested_is_late.Goals as goal

pub returns : goal.returns
returns c = passed_late
