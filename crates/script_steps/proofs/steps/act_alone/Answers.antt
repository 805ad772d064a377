use Rattle.script_reader.specs.Steps.{IsFit}
use Rattle.script_reader.specs.declared.step.Step.TheVariants.{Enqueue}
use Rattle.script_steps.proofs.steps.act_alone.Goals as goal

pub enqueue-requires : goal.enqueue-requires
enqueue-requires g c =
    let fit : IsFit (Enqueue c.in-Enqueue.input c.in-Enqueue.priority c.in-Enqueue.at) = rw c.in-Enqueue.is at c.requires.fit in
    record { code = fit.builds.0; source = fit.builds.1; globals = fit.ranges.0 }
