use Rattle.job_lines.proofs.RowLemmas as rows
use Rattle.job_lines.proofs.laws.rows_show_lines.Goals as goal

pub returns : goal.returns
returns c = rows.rows_show_lines c.replies_are_listed.ensures c.more_replies.ensures
