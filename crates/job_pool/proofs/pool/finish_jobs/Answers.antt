use Rattle.job_pool.proofs.Gone.{gone-not}
use Rattle.job_pool.proofs.pool.finish_jobs.Goals as goal

pub finish_from-requires-clause-began : goal.finish_from-requires-clause-began
finish_from-requires-clause-began g c = gone-not c.args.queue
