use Rattle.job_pool.specs.Pool.{stand_of}
use Rattle.job_pool.proofs.pool.run_jobs.Given as goal

-- the queue stands as it was handed in, and the moments are the clock's
abbrev pub ghosts-run_from : goal.ghosts-run_from
ghosts-run_from g a = record { start = stand_of g.K.Keeper.faults a.queue; moments = g.T.Clock.shows }
