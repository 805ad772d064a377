use Rattle.std.proofs.Common.{List, sym, ap, ◌∙◌}
use Rattle.hog_value.specs.Values.{Val}
use Rattle.vm_course.specs.State.{State}
use Rattle.vm_course.specs.Step.{act, on_and_push}
use Rattle.vm_course.specs.Stack.{keep}
use Rattle.vm_course.specs.Throws.{on_result}
use Rattle.vm_operations.specs.Here.{here_of}
use Rattle.vm_operations.proofs.Landing.{on_ok}
use Rattle.vm_operations.proofs.Tops.{by_two}
use Rattle.std.proofs.Common.{cond}
use Rattle.hog_value.specs.declared.value.Value.TheVariants.{Null}
use Rattle.hog_meaning.specs.Operators.{accessed}
use Rattle.hog_meaning.specs.Meaning.{is_null}
use Rattle.vm_operations.proofs.Tops.{null_is, other_is}
use Rattle.vm_operations.proofs.state.State.get_property_nullish.Goals as goal

pub returns-in-Null : goal.returns-in-Null
unfolding act
returns-in-Null c =
    let s = c.args.self.now in
    let b = c.args.behind in
    let t = c.top-key.result in
    let u = c.top-base.result in
    let go : Val → Val → List Val → State = λ k x rest. cond (is_null x) (on_and_push (here_of b s) rest Null s) (on_result (accessed s.heap x k) (on_and_push (here_of b s) rest) s) in
    on_ok c.go_on_with.result (λ is fixed code.
    is
    ∙ sym (by_two s b _ _ c.floor-floor.ensures c.len-all.ensures go t.0 u.0 t.1 u.1 c.top-key.ensures.is c.top-base.ensures.is ∙ null_is u.0 _ _ c.in-Null.is)) c.go_on_with.ensures

pub returns-in_default : goal.returns-in_default
unfolding act
returns-in_default c =
    let s = c.args.self.now in
    let b = c.args.behind in
    let t = c.top-key.result in
    let u = c.top-base.result in
    let go : Val → Val → List Val → State = λ k x rest. cond (is_null x) (on_and_push (here_of b s) rest Null s) (on_result (accessed s.heap x k) (on_and_push (here_of b s) rest) s) in
    let value = c.access-v.ensures.value ∙ ap (λ (x : State). accessed x.heap u.0 t.0) c.self.view_is in
    on_ok c.settle.result (λ is fixed code.
    is
    ∙ ap (λ r. on_result r (on_and_push (here_of b s) (keep u.1 s.stack)) s) value
    ∙ sym (by_two s b _ _ c.floor-floor.ensures c.len-all.ensures go t.0 u.0 t.1 u.1 c.top-key.ensures.is c.top-base.ensures.is ∙ other_is u.0 _ _ c.in_default.not-Null)) c.settle.ensures
