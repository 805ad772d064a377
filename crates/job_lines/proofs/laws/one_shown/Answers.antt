use Rattle.job_lines.proofs.RowLemmas as rows
use Rattle.job_lines.proofs.laws.one_shown.Goals as goal

pub returns : goal.returns
returns c = rows.one_shown c.one_meaning.ensures
