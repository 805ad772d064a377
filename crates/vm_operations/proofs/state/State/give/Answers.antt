use Rattle.std.proofs.Common.{sym, ◌∙◌}
use Rattle.vm_course.specs.Step.{act}
use Rattle.vm_operations.specs.Here.{here_of}
use Rattle.vm_operations.proofs.Landing.{on_ok}
use Rattle.vm_operations.proofs.Tops.{by_one}
use Rattle.vm_course.specs.Step.{give_back}
use Rattle.vm_frames.specs.Parts.{others_of}
use Rattle.vm_operations.proofs.state.State.give.Goals as goal

pub returns : goal.returns
unfolding act
returns c =
    let s = c.args.self.now in
    let b = c.args.behind in
    let t = c.top-v.result in
    on_ok c.give_back.result (λ is fixed code.
    is ∙ sym (by_one s b _ _ c.floor-floor.ensures c.len-all.ensures (λ v rest. give_back v (here_of b s) (others_of s.frames) s) t.0 t.1 c.top-v.ensures.is)) (c.give_back.ensures b)
