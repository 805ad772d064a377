use Rattle.std.proofs.Common.{List, sym, ap, ◌∙◌}
use Rattle.hog_value.specs.Values.{Val}
use Rattle.vm_course.specs.State.{State}
use Rattle.vm_course.specs.Step.{act, on_with}
use Rattle.vm_operations.specs.Here.{here_of}
use Rattle.vm_operations.proofs.Tops.{by_one}
use Rattle.std.proofs.Common.{cond}
use Rattle.hog_meaning.specs.Meaning.{is_null}
use Rattle.vm_course.specs.Step.{jump}
use Rattle.vm_frames.proofs.Lists.{keep-all}
use Rattle.vm_operations.proofs.Tops.{null_is, other_is}
use Rattle.std.proofs.lemmas.Int.{to_z-of_z}
use Rattle.std.specs.Int.{w64}
use Rattle.vm_operations.proofs.state.State.jump_if_stack_not_null.Goals as goal

pub returns-in-Null : goal.returns-in-Null
unfolding act
returns-in-Null c = λ fixed code.
    let s = c.args.self.now in
    let b = c.args.behind in
    let t = c.top-v.result in
    let go : Val → List Val → State = λ v rest. cond (is_null v) (on_with (here_of b s) s.stack s) (jump (here_of b s) c.args.distance s) in
    c.go_on.ensures
    ∙ ap (λ ys. on_with (here_of b s) ys s) (keep-all s.stack _ c.len-all.ensures)
    ∙ sym (by_one s b _ _ c.floor-floor.ensures c.len-all.ensures go t.0 t.1 c.top-v.ensures.is ∙ null_is t.0 _ _ c.in-Null.is)

pub returns-in_default : goal.returns-in_default
unfolding act
returns-in_default c = λ fixed code.
    let s = c.args.self.now in
    let b = c.args.behind in
    let t = c.top-v.result in
    let go : Val → List Val → State = λ v rest. cond (is_null v) (on_with (here_of b s) s.stack s) (jump (here_of b s) c.args.distance s) in
    c.jump_by.ensures
    ∙ ap (λ z. jump (here_of b s) z s) (to_z-of_z w64 c.args.distance c.ranges.distance)
    ∙ sym (by_one s b _ _ c.floor-floor.ensures c.len-all.ensures go t.0 t.1 c.top-v.ensures.is ∙ other_is t.0 _ _ c.in_default.not-Null)
