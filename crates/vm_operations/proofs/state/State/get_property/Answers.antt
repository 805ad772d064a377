use Rattle.std.proofs.Common.{sym, ap, ◌∙◌}
use Rattle.vm_course.specs.State.{State}
use Rattle.vm_course.specs.Step.{act, on_and_push}
use Rattle.vm_course.specs.Stack.{keep}
use Rattle.vm_course.specs.Throws.{on_result}
use Rattle.vm_operations.specs.Here.{here_of}
use Rattle.vm_operations.proofs.Landing.{on_ok}
use Rattle.vm_operations.proofs.Tops.{by_two}
use Rattle.hog_meaning.specs.Operators.{accessed}
use Rattle.vm_operations.proofs.state.State.get_property.Goals as goal

pub returns : goal.returns
unfolding act
returns c =
    let s = c.args.self.now in
    let b = c.args.behind in
    let t = c.top-key.result in
    let u = c.top-base.result in
    let value = c.access-v.ensures.value ∙ ap (λ (x : State). accessed x.heap u.0 t.0) c.self.view_is in
    on_ok c.settle.result (λ is fixed code.
    is
    ∙ ap (λ r. on_result r (on_and_push (here_of b s) (keep u.1 s.stack)) s) value
    ∙ sym (by_two s b _ _ c.floor-floor.ensures c.len-all.ensures (λ k x rest. on_result (accessed s.heap x k) (on_and_push (here_of b s) rest) s) t.0 u.0 t.1 u.1 c.top-key.ensures.is c.top-base.ensures.is)) c.settle.ensures
