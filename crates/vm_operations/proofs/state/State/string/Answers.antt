use Rattle.std.proofs.Common.{ap, sym, ◌∙◌}
use Rattle.hog_value.specs.declared.value.Value.TheVariants.{Ref}
use Rattle.vm_course.specs.Step.{act, on_and_push}
use Rattle.vm_operations.specs.Here.{here_of}
use Rattle.vm_operations.proofs.Landing.{on_ok}
use Rattle.vm_operations.proofs.state.State.string.Goals as goal

pub returns : goal.returns
unfolding act
returns c =
    let s = c.args.self.now in
    on_ok c.push_value.result (λ is fixed code same. is ∙ ap (λ n. on_and_push (here_of c.args.behind s) s.stack (Ref n) s) (sym same)) c.push_value.ensures
