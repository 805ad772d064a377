use Rattle.std.proofs.Common.{◌&&◌, sym, ap, ◌∙◌}
use Rattle.vm_frames.specs.Reading.{Reading}
use Rattle.vm_state.specs.Parts.{places_hold, literals_hold}
use Rattle.vm_state.proofs.Outcomes.{IfOk_then}
use Rattle.vm_state.proofs.Parted.{belongs_held}
use Rattle.vm_state.proofs.belonging.parts_belong.Goals as goal

pub returns : goal.returns
returns c =
    let p = c.args.p.now in
    IfOk_then c.parts_hold.result c.parts_hold.ensures
    (λ b is code same. is ∙ ap (λ (t : Reading). places_hold t.slots p && literals_hold t.literals p) same ∙ sym (belongs_held code p))
