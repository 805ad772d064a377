use Rattle.std.proofs.Common.{ap, ◌∙◌}
use Rattle.vm_course.specs.Step.{act, on_and_push}
use Rattle.vm_operations.specs.Here.{here_of}
use Rattle.vm_operations.proofs.Landing.{on_ok}
use Rattle.vm_operations.proofs.state.State.get_local.Goals as goal

pub returns : goal.returns
unfolding act
returns c =
    let s = c.args.self.now in
    on_ok c.push_value.result (λ is fixed code. is ∙ ap (λ v. on_and_push (here_of c.args.behind s) s.stack v s) c.local-v.ensures.value) c.push_value.ensures
