use Rattle.std.proofs.Common.{◌≡◌, IfOk, string_bytes, ap, subst, ◌∙◌}
use Rattle.uuid.specs.Text.{hyphenated_text, lower}
use Rattle.made_plans.specs.Made.{made_uuid}
use Rattle.made_plans.proofs.events.made_uuid.Goals as goal

pub returns : goal.returns
unfolding made_uuid
returns c =
    let text = c.encode_lower-text.ensures.text ∙ ap (hyphenated_text lower) (c.hyphenated.ensures ∙ c.from_u128.ensures) in
    subst (λ t. IfOk c.from_str.result (λ s. string_bytes s ≡ t)) text c.from_str.ensures.ok
