use Rattle.std.proofs.Common.{◌-◌, length}
use Rattle.job_pool.proofs.shared.first_open.Given as goal

abbrev pub decreases-jobs : goal.decreases-jobs
decreases-jobs g l = length l.queue.rows - l.job
