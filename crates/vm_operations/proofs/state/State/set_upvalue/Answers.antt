use Rattle.std.proofs.Common.{sym, ap, ◌∙◌}
use Rattle.vm_course.specs.State.{State}
use Rattle.vm_course.specs.Step.{act, on_with}
use Rattle.vm_operations.specs.Here.{here_of}
use Rattle.vm_operations.proofs.Tops.{by_one}
use Rattle.std.specs.Prelude.{slice_get}
use Rattle.vm_course.specs.Stack.{captured_by, write_numbered, write_upvalue}
use Rattle.vm_frames.specs.Parts.{innermost}
use Rattle.vm_operations.proofs.state.State.set_upvalue.Goals as goal

pub returns-in-Some : goal.returns-in-Some
unfolding act
returns-in-Some c = λ fixed code.
    let s = c.args.self.now in
    let b = c.args.behind in
    let i = c.args.index in
    let t = c.top-v.result in
    let write : State → State = λ x. write_numbered (slice_get (captured_by x (innermost x.frames)) i) t.0 x in
    c.write.ensures
    ∙ ap (λ o. write_numbered o t.0 c.go_on.new.self) (sym c.in-Some.is ∙ c.captured.ensures)
    ∙ ap write c.go_on.ensures
    ∙ sym (by_one s b _ _ c.floor-floor.ensures c.len-all.ensures (λ v rest. write_upvalue (innermost s.frames) i v (on_with (here_of b s) rest s)) t.0 t.1 c.top-v.ensures.is)

pub returns-in-None : goal.returns-in-None
unfolding act
returns-in-None c = λ fixed code.
    let s = c.args.self.now in
    let b = c.args.behind in
    let i = c.args.index in
    let t = c.top-v.result in
    let write : State → State = λ x. write_numbered (slice_get (captured_by x (innermost x.frames)) i) t.0 x in
    ap (λ o. write_numbered o t.0 c.go_on.new.self) (sym c.in-None.is ∙ c.captured.ensures)
    ∙ ap write c.go_on.ensures
    ∙ sym (by_one s b _ _ c.floor-floor.ensures c.len-all.ensures (λ v rest. write_upvalue (innermost s.frames) i v (on_with (here_of b s) rest s)) t.0 t.1 c.top-v.ensures.is)
