use Rattle.std.proofs.Common.{length, arith, ap, ◌∙◌}
use Rattle.vm_course.specs.State.{State}
use Rattle.vm_course.specs.Stack.{keep}
use Rattle.vm_frames.specs.Parts.{others_of}
use Rattle.vm_frames.proofs.Lists.{length-keep}
use Rattle.vm_operations.proofs.Calling.{enter_is}
use Rattle.vm_operations.proofs.Landing.{on_ok}
use Rattle.vm_operations.proofs.state.State.enter.Goals as goal

pub enter_frame-requires : goal.enter_frame-requires
enter_frame-requires c =
    let others : State → _ = λ (x : State). length (others_of x.frames) in
    let around = ap others c.in_ok-base.ensures.stack ∙ ap others c.go_to.ensures ∙ ap others c.cut_from.ensures in
    omega (arith, around, c.requires.depth)

pub returns : goal.returns
returns c = λ f there.
    let s = c.args.self.now in
    let height = c.height_in_place.ensures (keep c.args.rest s.stack) (length-keep s.stack c.args.rest c.requires.rest) in
    on_ok c.enter_frame.result (λ is.
    enter_is s c.args.behind c.args.n c.args.callee.cell f c.args.params c.args.rest _ _ _ _ _ _ _ _ there c.floor-floor.ensures height c.cut_from.ensures c.go_to.ensures c.in_ok-base.ensures.stack c.in_ok-base.ensures.base is) c.enter_frame.ensures
