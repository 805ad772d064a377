use Rattle.bytecode_json.proofs.Decoded.{short_array}
use Rattle.serde_json.specs.View.{view}
use Rattle.bytecode_json.proofs.decoder.decode_text.Goals as goal

pub code_from-requires : goal.code_from-requires
code_from-requires c = short_array c.args.text.now (view c.in-Ok.v) c.requires c.in-Ok.ensures.ok.1
