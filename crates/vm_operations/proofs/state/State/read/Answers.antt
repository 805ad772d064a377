use Rattle.std.proofs.Common.{length, sym, subst}
use Rattle.hog_value.specs.Values.{NamesBelow}
use Rattle.vm_course.specs.State.{State}
use Rattle.vm_operations.proofs.Fit.{named_or_null}
use Rattle.vm_operations.proofs.state.State.read.Goals as goal

pub returns-in-Opened-clause-names : goal.returns-in-Opened-clause-names
returns-in-Opened-clause-names c =
    let n = length c.self.inside.heap in
    subst (λ (s : State). NamesBelow (length s.heap) c.unwrap_or.result) c.self.view_is
    (subst (NamesBelow n) (sym c.unwrap_or.ensures) (named_or_null n c.at.result (c.at.ensures.names n c.self.invariant.values)))
