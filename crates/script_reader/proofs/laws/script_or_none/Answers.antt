use Rattle.script_reader.proofs.ScriptOrNone.{script_or_none}
use Rattle.script_reader.proofs.laws.script_or_none.Goals as goal

pub returns : goal.returns
returns c = script_or_none c.built_or_unbuilt.ensures
