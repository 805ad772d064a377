use Rattle.std.proofs.Common.{◌≡◌, ◌≤◌, [], ◌∷◌, true, arith, ap, sym, ◌∙◌}
use Rattle.vm_course.specs.Step.{take_reply}
use Rattle.vm_course.specs.Belongs.{belongs}
use Rattle.hog_meaning.specs.World.{Reply}
use Rattle.vm_operations.specs.Machine.{MachineView}
use Rattle.hogvm.proofs.Slices.{on_ok, used_most}
use Rattle.hogvm.proofs.steps.MachineSteps.resume.Goals as goal

pub returns-clause-belongs : goal.returns-clause-belongs
returns-clause-belongs c = λ code old.
    let reply : Reply = record { status = c.args.reply.now.status; body = c.args.reply.now.body } in
    on_ok c.take_reply.result (λ is. ap (λ (m : MachineView). belongs code m.run) is ∙ c.replies_belong.ensures code reply c.args.self.now.run old) c.take_reply.ensures.done

pub returns-clause-replies : goal.returns-clause-replies
returns-clause-replies c =
    let reply : Reply = record { status = c.args.reply.now.status; body = c.args.reply.now.body } in
    let most = used_most (take_reply (reply ∷ []) c.args.self.now.run.state).mode c.args.self.now.run.used in
    on_ok c.take_reply.result (λ is. let same = ap (λ (m : MachineView). m.run.used) is in omega (arith, same, most)) c.take_reply.ensures.done
