use Rattle.std.proofs.Common.{length, All, subst}
use Rattle.std.specs.Prelude.{IfOk}
use Rattle.hog_value.specs.Values.{NamesBelow}
use Rattle.vm_course.specs.State.{State}
use Rattle.vm_operations.proofs.state.State.popped.Goals as goal

pub returns-clause-names : goal.returns-clause-names
returns-clause-names c =
    subst (λ (x : State). IfOk c.popped.result (λ r. All (NamesBelow (length x.heap)) r.0.items)) c.self.view_is (c.popped.ensures.names _ c.self.invariant.values)
