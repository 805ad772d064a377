use Rattle.hog_jobs.proofs.RowLemmas as rows
use Rattle.hog_jobs.proofs.laws.rows_agree.Goals as goal

pub returns : goal.returns
returns c = rows.rows_agree c.course_shows_meaning.ensures
