use Rattle.vm_requests.proofs.Counting.{replies_answer_requests}
use Rattle.vm_requests.proofs.laws.replies_answer_requests.Goals as goal

pub returns : goal.returns
returns c = replies_answer_requests
