use Rattle.hog_jobs.specs.CourseRuns as runs
use Rattle.hog_jobs.proofs.laws.one_run.Goals as goal

pub returns : goal.returns
returns c = runs.one_run
