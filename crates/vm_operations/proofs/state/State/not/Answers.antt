use Rattle.std.proofs.Common.{sym, ap, ◌∙◌}
use Rattle.vm_course.specs.State.{State}
use Rattle.vm_course.specs.Step.{act, on_and_push}
use Rattle.vm_course.specs.Stack.{keep}
use Rattle.vm_operations.specs.Here.{here_of}
use Rattle.vm_operations.proofs.Landing.{on_ok}
use Rattle.vm_operations.proofs.Tops.{by_one}
use Rattle.std.specs.Prelude.{not}
use Rattle.hog_value.specs.declared.value.Value.TheVariants.{Bool as Truth}
use Rattle.hog_value.specs.Operations.{truth_of}
use Rattle.vm_operations.proofs.state.State.not.Goals as goal

pub returns : goal.returns
unfolding act
returns c =
    let s = c.args.self.now in
    let b = c.args.behind in
    let t = c.top-v.result in
    let truth = c.truth-truth.ensures ∙ ap (λ (x : State). truth_of x.heap t.0) c.self.view_is in
    on_ok c.go_on_with.result (λ is fixed code.
    is
    ∙ ap (λ v. on_and_push (here_of b s) (keep t.1 s.stack) (Truth (not v)) s) truth
    ∙ sym (by_one s b _ _ c.floor-floor.ensures c.len-all.ensures (λ v rest. on_and_push (here_of b s) rest (Truth (not (truth_of s.heap v))) s) t.0 t.1 c.top-v.ensures.is)) c.go_on_with.ensures
