use Rattle.std.proofs.Common.{◌≡◌, ◌∷◌, ap, sym, ◌∙◌}
use Rattle.hog_ops.specs.View.{op_of}
use Rattle.hog_meaning.specs.World.{Fixed}
use Rattle.vm_course.specs.State.{Frame, State}
use Rattle.vm_course.specs.Step.{act}
use Rattle.vm_operations.specs.Here.{here_of}
use Rattle.vm_operations.proofs.Landing.{on_ok}
use Rattle.vm_operations.proofs.Steps.{begins, begins_none}
use Rattle.vm_operations.proofs.state.State.step.Goals as goal

pub returns-in-None : goal.returns-in-None
returns-in-None c =
    let code = c.args.table.now in
    let s = c.args.self.now in
    let fixed : Fixed = record { literals = code.literals; globals = c.args.globals } in
    let frames = sym (ap (λ (x : State). x.frames) c.self.view_is) ∙ ap (λ (f : Frame). f ∷ c.self.inside.around) (sym c.frame.view_is) in
    on_ok c.give_back.result (λ is. is ∙ begins_none fixed code.slots s _ _ c.requires.runs frames c.in-None.ensures.none) (c.give_back.ensures c.frame.inside.place)

pub returns-in-Some : goal.returns-in-Some
returns-in-Some c =
    let code = c.args.table.now in
    let s = c.args.self.now in
    let fixed : Fixed = record { literals = code.literals; globals = c.args.globals } in
    let op = op_of c.in-Some.begin.op.now in
    let frames = sym (ap (λ (x : State). x.frames) c.self.view_is) ∙ ap (λ (f : Frame). f ∷ c.self.inside.around) (sym c.frame.view_is) in
    on_ok c.perform.result (λ is. is ∙ ap (λ n. act fixed code.slots op (here_of n s) s) c.in-Some.ensures.behind
    ∙ begins fixed code.slots s _ _ c.requires.runs frames op c.in-Some.ensures.begins) c.perform.ensures
