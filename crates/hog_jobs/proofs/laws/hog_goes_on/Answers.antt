use Rattle.hog_jobs.specs.CourseRuns.{hog_runs}
use Rattle.hog_jobs.proofs.laws.hog_goes_on.Goals as goal

pub returns : goal.returns
returns c = hog_runs
