use Rattle.hog_jobs.proofs.RowLemmas.{queues_agree}
use Rattle.hog_jobs.proofs.laws.keeps_the_meaning.Goals as goal

pub returns : goal.returns
returns c = queues_agree c.rows_agree.ensures
