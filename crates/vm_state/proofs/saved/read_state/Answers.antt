use Rattle.std.proofs.Common.{sym, ap, ◌∙◌}
use Rattle.vm_state.specs.declared.parts.Written as read
use Rattle.vm_state.specs.Parts.{state_of, written_of}
use Rattle.vm_course.specs.States.{is_state}
use Rattle.vm_state.proofs.Formats.{stands}
use Rattle.vm_state.proofs.Outcomes.{IfOk_two}
use Rattle.vm_state.proofs.saved.read_state.Goals as goal

pub returns-clause-state : goal.returns-clause-state
returns-clause-state c =
    IfOk_two c.where_state.result c.where_state.ensures.stands c.where_state.ensures.same
    (λ x is same. ap (λ (w : read.Written). is_state (state_of w.parts)) same ∙ stands (written_of c.in_ok-w.w) (sym c.in_ok-stands.ensures ∙ is))
