use Rattle.std.proofs.Common.{List, sym, ap, ap₂, ◌∙◌}
use Rattle.std.specs.List.{list_all}
use Rattle.hog_value.specs.declared.value.Value.TheVariants.{Bool as Truth}
use Rattle.hog_value.specs.Values.{Val}
use Rattle.hog_value.specs.Operations.{truth_of}
use Rattle.vm_course.specs.State.{State}
use Rattle.vm_course.specs.Stack.{keep, taken, floor_of}
use Rattle.vm_course.specs.Step.{act, on_and_push, all_true}
use Rattle.vm_frames.specs.Parts.{innermost}
use Rattle.vm_operations.specs.Here.{here_of}
use Rattle.vm_operations.proofs.Landing.{on_ok}
use Rattle.vm_operations.proofs.state.State.and.Goals as goal

pub returns : goal.returns
unfolding act
returns c =
    let s = c.args.self.now in
    let b = c.args.behind in
    let taken_is = ap (λ k. taken (floor_of (innermost s.frames) s) k s.stack) (sym c.from.ensures) ∙ c.in_ok-values.ensures.is in
    let truth = c.all_true-truth.ensures ∙ ap₂ (λ (x : State) vs. list_all (truth_of x.heap) vs) c.self.view_is c.as_slice.ensures.value in
    on_ok c.go_on_with.result (λ is fixed code.
    is
    ∙ ap (λ v. on_and_push (here_of b s) (keep c.in_ok-values.rest s.stack) (Truth v) s) truth
    ∙ sym (ap (λ (t : List Val × List Val). on_and_push (here_of b s) t.1 (Truth (all_true s t.0)) s) taken_is)) c.go_on_with.ensures
