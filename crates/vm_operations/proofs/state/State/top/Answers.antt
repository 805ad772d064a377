use Rattle.std.proofs.Common.{subst, length}
use Rattle.hog_value.specs.Values.{NamesBelow}
use Rattle.vm_course.specs.State.{State}
use Rattle.vm_operations.proofs.state.State.top.Goals as goal

pub returns-clause-names : goal.returns-clause-names
returns-clause-names c =
    subst (λ (s : State). NamesBelow (length s.heap) c.top.result.0) c.self.view_is (c.top.ensures.names _ c.self.invariant.values)
