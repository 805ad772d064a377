use Rattle.std.proofs.Common.{ap, ◌∙◌}
use Rattle.vm_course.specs.Run.{RunState}
use Rattle.vm_course.specs.Belongs.{belongs}
use Rattle.hogvm.proofs.steps.MachineSteps.start.Goals as goal

pub returns-clause-belongs : goal.returns-clause-belongs
returns-clause-belongs c =
    ap (λ (r : RunState). belongs c.args.code.now r) c.in_ok-begin.ensures.begun ∙ c.begins_belonging.ensures c.args.code.now c.args.globals.now c.ops-ops.ensures.code
