use Rattle.std.proofs.Common.{sym, ◌∙◌}
use Rattle.vm_course.specs.Step.{act}
use Rattle.vm_course.specs.Throws.{throw_value}
use Rattle.vm_operations.proofs.Landing.{on_ok}
use Rattle.vm_operations.proofs.Tops.{by_one}
use Rattle.vm_operations.proofs.state.State.throw.Goals as goal

pub returns : goal.returns
unfolding act
returns c = λ b.
    let s = c.args.self.now in
    let t = c.top-v.result in
    on_ok c.throw_value.result (λ is fixed code.
    is ∙ sym (by_one s b _ _ c.floor-floor.ensures c.len-all.ensures (λ v rest. throw_value v s) t.0 t.1 c.top-v.ensures.is)) c.throw_value.ensures
