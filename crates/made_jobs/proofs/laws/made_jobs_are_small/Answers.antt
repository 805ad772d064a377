use Rattle.made_jobs.proofs.NoRefusal.{jobs_small}
use Rattle.made_jobs.proofs.laws.made_jobs_are_small.Goals as goal

pub returns : goal.returns
returns c = jobs_small c.globals_size.ensures.size c.made_is_checked.ensures.events
