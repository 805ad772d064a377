use Rattle.std.proofs.Common.{sym, ◌∙◌}
use Rattle.vm_state.proofs.Outcomes.{IfOk_then}
use Rattle.vm_state.proofs.Parted.{is_held}
use Rattle.vm_state.proofs.standing.parts_stand.Goals as goal

pub returns : goal.returns
returns c = IfOk_then c.parts_hold.result c.parts_hold.ensures (λ b is. is ∙ sym (is_held c.args.p.now))
