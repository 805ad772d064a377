use Rattle.hog_jobs.specs.CourseRuns as runs
use Rattle.hog_jobs.proofs.laws.runs_begin.Goals as goal

pub returns : goal.returns
returns c = runs.begins_at
