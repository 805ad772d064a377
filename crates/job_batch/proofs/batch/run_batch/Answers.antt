use Rattle.job_batch.proofs.BatchLemmas.{all_completed, all_lines}
use Rattle.job_batch.proofs.batch.run_batch.Goals as goal

pub returns-in-Ok-clause-completed : goal.returns-in-Ok-clause-completed
returns-in-Ok-clause-completed g c = all_completed c.args.batch.items c.work_on-end.new.queue.rows c.in-Ok.ensures.ended

pub returns-in-Ok-clause-lines : goal.returns-in-Ok-clause-lines
returns-in-Ok-clause-lines g c =
    let rows = c.work_on-end.new.queue.rows in
    let history = c.work_on-end.new.queue.history in
    let keeps = c.keeps_the_meaning.ensures rows history c.history.ensures.kept in
    all_lines c.rows_show_lines.ensures c.args.batch.items rows history keeps c.requires.can_run c.in-Ok.ensures.ended
