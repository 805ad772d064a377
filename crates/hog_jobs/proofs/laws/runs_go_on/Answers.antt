use Rattle.hog_jobs.specs.CourseRuns as runs
use Rattle.hog_jobs.proofs.laws.runs_go_on.Goals as goal

pub returns : goal.returns
returns c = runs.slices_at
