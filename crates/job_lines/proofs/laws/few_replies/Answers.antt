use Rattle.job_lines.proofs.WaitLemmas as waits
use Rattle.job_lines.proofs.laws.few_replies.Goals as goal

pub returns : goal.returns
returns c = waits.few_replies c.replies_answer_requests.ensures
