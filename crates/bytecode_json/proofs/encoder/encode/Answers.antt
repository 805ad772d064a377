use Rattle.std.proofs.Common.{◌≡◌, ap, ◌∙◌}
use Rattle.std.specs.Prelude.{string_bytes}
use Rattle.serde_json.specs.View.{view}
use Rattle.bytecode_json.specs.Text.{code_text, decode_of}
use Rattle.bytecode_json.proofs.Decoded.{decode_back, code_spelled}
use Rattle.bytecode_json.proofs.encoder.encode.Goals as goal

pub returns-clause-text : goal.returns-clause-text
returns-clause-text c =
    let ops = c.args.c.now in
    c.from_string.ensures ∙ code_spelled ops (view c.in_ok-code_value.field-0) (string_bytes c.in_ok-text.text) c.in_ok-code_value.ensures.fits c.ops-ops.ensures.code.short c.in_ok-code_value.ensures.data c.in_ok-text.ensures.text

pub returns-clause-decodes : goal.returns-clause-decodes
returns-clause-decodes c =
    let ops = c.args.c.now in
    let spelled = code_spelled ops (view c.in_ok-code_value.field-0) (string_bytes c.in_ok-text.text) c.in_ok-code_value.ensures.fits c.ops-ops.ensures.code.short c.in_ok-code_value.ensures.data c.in_ok-text.ensures.text in
    ap decode_of (c.from_string.ensures ∙ spelled) ∙ decode_back ops c.ops-ops.ensures.code c.in_ok-code_value.ensures.fits
