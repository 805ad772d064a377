use Rattle.std.proofs.Common.{List, sym, ap, ap₂, ◌∙◌}
use Rattle.hog_value.specs.Values.{Val}
use Rattle.vm_course.specs.State.{State}
use Rattle.vm_course.specs.Step.{act, on_with}
use Rattle.vm_course.specs.Stack.{keep}
use Rattle.vm_operations.specs.Here.{here_of}
use Rattle.vm_operations.proofs.Tops.{by_one}
use Rattle.std.proofs.Common.{cond}
use Rattle.hog_value.specs.Operations.{truth_of}
use Rattle.vm_course.specs.Stack.{cut_to}
use Rattle.vm_course.specs.Step.{jump}
use Rattle.std.proofs.lemmas.Int.{to_z-of_z}
use Rattle.std.specs.Int.{w64}
use Rattle.vm_operations.proofs.state.State.jump_if_false.Goals as goal

pub returns-then-truth : goal.returns-then-truth
unfolding act
returns-then-truth c = λ fixed code.
    let s = c.args.self.now in
    let b = c.args.behind in
    let d = c.args.distance in
    let t = c.top-v.result in
    let go : Val → List Val → State = λ v rest. cond (truth_of s.heap v) (on_with (here_of b s) rest s) (jump (here_of b s) d (cut_to rest s)) in
    let truth = ap (λ (x : State). truth_of x.heap t.0) (sym c.self.view_is) ∙ sym c.truth.ensures ∙ c.if-truth.true in
    c.go_on.ensures
    ∙ sym (by_one s b _ _ c.floor-floor.ensures c.len-all.ensures go t.0 t.1 c.top-v.ensures.is
    ∙ ap (λ x. cond x (on_with (here_of b s) (keep t.1 s.stack) s) (jump (here_of b s) d (cut_to (keep t.1 s.stack) s))) truth)

pub returns : goal.returns
unfolding act
returns c = λ fixed code.
    let s = c.args.self.now in
    let b = c.args.behind in
    let d = c.args.distance in
    let t = c.top-v.result in
    let go : Val → List Val → State = λ v rest. cond (truth_of s.heap v) (on_with (here_of b s) rest s) (jump (here_of b s) d (cut_to rest s)) in
    let truth = ap (λ (x : State). truth_of x.heap t.0) (sym c.self.view_is) ∙ sym c.truth.ensures ∙ c.if-truth.false in
    c.jump_by.ensures
    ∙ ap₂ (λ (x : State) z. jump (here_of b x) z x) c.cut.ensures (to_z-of_z w64 d c.ranges.distance)
    ∙ sym (by_one s b _ _ c.floor-floor.ensures c.len-all.ensures go t.0 t.1 c.top-v.ensures.is
    ∙ ap (λ x. cond x (on_with (here_of b s) (keep t.1 s.stack) s) (jump (here_of b s) d (cut_to (keep t.1 s.stack) s))) truth)
