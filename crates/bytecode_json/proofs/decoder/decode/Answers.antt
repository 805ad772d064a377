use Rattle.std.proofs.Common.{◌≡◌, List, ℕ, Some, Ok, Err, Result, IfOk, ap, ◌∙◌, subst}
use Rattle.std.specs.Str.{IsUtf8}
use Rattle.serde_json.specs.Data.{Data}
use Rattle.serde_json.specs.Read.{read}
use Rattle.serde_json.specs.Written.{compact_text}
use Rattle.hog_ops.specs.Plain.{Ops}
use Rattle.bytecode_front.specs.declared.stop.CodeStop.{CodeStop}
use Rattle.bytecode_builder.specs.Placed.{Answers}
use Rattle.bytecode_json.specs.Text.{code_text, decode_of}
use Rattle.bytecode_json.proofs.Decoded.{decode_back}
use Rattle.bytecode_json.proofs.Same.{decode_same}
use Rattle.bytecode_json.proofs.decoder.decode.Goals as goal

-- a code that was decoded spells as its array
spelled : (r : Result Ops CodeStop) (text : List ℕ) → IfOk r (λ _. IsUtf8 text) → (IsUtf8 text → Answers r (decode_of text)) → IfOk r (λ ops. (d : Data) × (read text ≡ Some d) × (code_text ops ≡ compact_text d))
spelled (Ok ops) text utf8 h = decode_same text ops (h utf8)
spelled (Err e) text utf8 h = tt

pub returns-clause-same : goal.returns-clause-same
returns-clause-same c = spelled c.decode_text.result c.args.text.now c.decode_text.ensures.utf8 c.decode_text.ensures.exact
