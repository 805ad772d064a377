use Rattle.job_lines.proofs.ReplyLemmas as replies
use Rattle.job_lines.proofs.laws.replies_are_listed.Goals as goal

pub returns : goal.returns
returns c = replies.replies_are_listed
