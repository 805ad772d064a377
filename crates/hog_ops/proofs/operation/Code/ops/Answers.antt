use Rattle.std.proofs.Common.{◌∙◌}
use Rattle.hog_ops.specs.View.{ops_of_one}
use Rattle.hog_ops.proofs.operation.Code.ops.Goals as goal

pub returns-clause-same : goal.returns-clause-same
returns-clause-same c = λ xs e. c.as_slice.ensures.value ∙ ops_of_one c.self.inside.ops.items xs (c.self.view_is ∙ e)
