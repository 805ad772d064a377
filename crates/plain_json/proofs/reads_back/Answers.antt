use Rattle.plain_json.proofs.Inverse.{reads_back}
use Rattle.plain_json.proofs.reads_back.Goals as goal

pub returns : goal.returns
returns c = reads_back
