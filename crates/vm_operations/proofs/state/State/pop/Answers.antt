use Rattle.std.proofs.Common.{sym, ◌∙◌}
use Rattle.vm_course.specs.Step.{act, on_with}
use Rattle.vm_operations.specs.Here.{here_of}
use Rattle.vm_operations.proofs.Tops.{by_one}
use Rattle.vm_operations.proofs.state.State.pop.Goals as goal

pub returns-clause-pop : goal.returns-clause-pop
unfolding act
returns-clause-pop c = λ fixed code.
    let s = c.args.self.now in
    let b = c.args.behind in
    let t = c.top-rest.result in
    c.go_on.ensures ∙ sym (by_one s b _ _ c.floor-floor.ensures c.len-all.ensures (λ v rest. on_with (here_of b s) rest s) t.0 t.1 c.top-rest.ensures.is)

pub returns-clause-close : goal.returns-clause-close
unfolding act
returns-clause-close c = λ fixed code.
    let s = c.args.self.now in
    let b = c.args.behind in
    let t = c.top-rest.result in
    c.go_on.ensures ∙ sym (by_one s b _ _ c.floor-floor.ensures c.len-all.ensures (λ v rest. on_with (here_of b s) rest s) t.0 t.1 c.top-rest.ensures.is)
