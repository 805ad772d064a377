use Rattle.made_jobs.proofs.NoRefusal.{is_a_plan}
use Rattle.made_jobs.proofs.laws.made_is_a_plan.Goals as goal

pub returns : goal.returns
returns c =
    let built = c.sources_are_built.ensures in
    is_a_plan built.echo built.high built.sum built.filter c.all_or_first_stop.ensures c.made_jobs_are_small.ensures
