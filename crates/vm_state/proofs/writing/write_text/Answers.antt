use Rattle.std.proofs.Common.{ap, ◌∙◌}
use Rattle.vm_state.proofs.Outcomes.{IfOk_then}
use Rattle.serde_json.specs.Written.{compact_text, has_float}
use Rattle.plain_json.proofs.Fine.{no_float}
use Rattle.state_forms.specs.Shapes.{list}
use Rattle.vm_state.specs.Layout.{saved_data}
use Rattle.vm_state.specs.Text.{text_in}
use Rattle.vm_state.proofs.Plain.{saved_fine}
use Rattle.vm_state.proofs.writing.write_text.Goals as goal

pub returns : goal.returns
unfolding text_in
returns c =
    IfOk_then c.to_string.result c.to_string.ensures.text
    (λ t says m fits same.
    let e = c.in_ok-elements.ensures ∙ ap list same in
    says (ap has_float e ∙ no_float (saved_data c.args.format m) (saved_fine c.args.format m fits).plain) ∙ ap compact_text e)
