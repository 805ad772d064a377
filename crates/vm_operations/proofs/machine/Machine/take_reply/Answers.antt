use Rattle.std.proofs.Common.{◌+◌, ap, ◌∙◌}
use Rattle.hog_meaning.specs.World.{Reply}
use Rattle.vm_course.specs.Run.{RunState}
use Rattle.vm_operations.specs.Machine.{MachineView}
use Rattle.vm_operations.proofs.Standing.{stands_replied, on_fresh}
use Rattle.vm_operations.proofs.machine.Machine.take_reply.Goals as goal

pub invariant_of-self : goal.invariant_of-self
invariant_of-self c =
    let i = c.self.inside in
    let reply : Reply = record { status = c.args.status; body = c.args.body.now } in
    let r : RunState = record { ops = i.ops; used = i.used; globals = i.globals; state = i.state } in
    on_fresh i.spent (stands_replied c.heap_grows.ensures reply r c.take_reply.new.self (i.ops + 1) c.used_after-self-inside.result (ap (λ (m : MachineView). m.run.state.mode) c.self.view_is ∙ c.requires.waits) c.in-Ok.ensures) c.self.invariant
