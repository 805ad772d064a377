use Rattle.script_reader.proofs.ScriptOrNone.{one}
use Rattle.script_reader.proofs.laws.one_script.Goals as goal

pub returns : goal.returns
returns c = one
