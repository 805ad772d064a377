use Rattle.job_pool.proofs.Gone.{gone-not}
use Rattle.job_pool.proofs.pool.run_jobs.Goals as goal

pub run_from-requires-clause-began : goal.run_from-requires-clause-began
run_from-requires-clause-began g c κs within = gone-not c.args.queue
