use Rattle.hog_jobs.proofs.ShortRuns as short
use Rattle.hog_jobs.proofs.laws.few_operations.Goals as goal

pub returns : goal.returns
returns c = short.few_operations c.course_is_short.ensures
