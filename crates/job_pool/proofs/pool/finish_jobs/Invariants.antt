use Rattle.job_pool.specs.Pool.{stand_of}
use Rattle.job_pool.proofs.pool.finish_jobs.Given as goal

-- the queue stands as it was handed in, and the moments are the clock's
abbrev pub ghosts-finish_from : goal.ghosts-finish_from
ghosts-finish_from g a = record { start = stand_of g.K.Keeper.faults a.queue; moments = g.T.Clock.shows }
