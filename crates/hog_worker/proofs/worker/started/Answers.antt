use Rattle.hog_worker.proofs.Leased.{begins_up}
use Rattle.hog_worker.proofs.worker.started.Goals as goal

pub returns-in-Ok-clause-up : goal.returns-in-Ok-clause-up
returns-in-Ok-clause-up c = λ replies.
    begins_up c.args.program.now.code c.args.globals.now replies c.runs_begin.ensures c.in-Ok.machine.run c.in-Ok.ensures.begun c.in-Ok.ensures.belongs
