use Rattle.std.proofs.Common.{◌≡◌, Some, sym, ap, ◌∙◌}
use Rattle.uuid.specs.Text.{hyphenated_text, lower}
use Rattle.event_plans.proofs.Uuids.{uuid_none, uuid_some}
use Rattle.event_plans.proofs.event.uuid_of.Goals as goal

pub returns-in_default : goal.returns-in_default
returns-in_default c = sym (uuid_none c.args.text.now (λ bytes is. let bad = c.in_default.ensures.ok.1 (bytes, is) in absurd cc))

pub returns : goal.returns
returns c =
    ap Some (c.in_ok-owned.ensures ∙ c.encode_lower-text.ensures.text ∙ ap (hyphenated_text lower) c.hyphenated.ensures)
    ∙ sym (uuid_some c.args.text.now c.in-Ok.id (sym c.in-Ok.ensures.bytes))
