use Rattle.std.proofs.Common.{◌<◌, length, refl, arith, ap, ◌∙◌}
use Rattle.hog_value.specs.Meters.{max_depth}
use Rattle.vm_course.specs.State.{State}
use Rattle.vm_course.specs.Stack.{keep}
use Rattle.vm_course.specs.Step.{enter}
use Rattle.vm_frames.specs.Parts.{others_of}
use Rattle.vm_operations.specs.Here.{here_of}
use Rattle.vm_operations.proofs.Calling.{few_arguments, entered}
use Rattle.vm_operations.proofs.Landing.{on_ok}
use Rattle.vm_operations.proofs.state.State.call_function.Goals as goal

pub returns-then-params-n : goal.returns-then-params-n
returns-then-params-n c = λ f there.
    on_ok c.throw_kind.result (λ is. is ∙ few_arguments (here_of c.args.behind c.args.self.now) c.args.n c.args.callee.cell f c.args.params (keep c.args.rest c.args.self.now.stack) c.args.self.now c.if-params-n.true) c.throw_kind.ensures

pub returns : goal.returns
returns c = λ f there.
    let s = c.args.self.now in
    let b = c.args.behind in
    let e = c.if-not-spend_turn.ensures in
    let enters : State → State = λ x. enter (here_of b x) c.args.n c.args.callee.cell f c.args.params (keep c.args.rest x.stack) x in
    let around = ap (λ (x : State). length (others_of x.frames)) c.self.view_is in
    let few : length (others_of s.frames) < max_depth = omega (arith, around, c.len.ensures.count, c.from.ensures, c.if-len-from.false) in
    on_ok c.enter.result (λ is.
    is
    ∙ ap enters e.spent
    ∙ entered (here_of b s) c.args.n c.args.callee.cell f c.args.params (keep c.args.rest s.stack) s (omega (arith, c.if-params-n.false)) few (e.left.0 refl)) (c.enter.ensures f there)
