-- What `uuid` reads of a text.
use Rattle.std.proofs.Common.{◌≡◌, ℕ, List, Option, Some, None, refl, ap}
use Rattle.std.specs.Prelude.{option_map}
use Rattle.uuid.specs.Text.{hyphenated_text, lower, parsed}
use Rattle.event_plans.specs.Event.{uuid_of}

none_by : (o : Option (List ℕ)) → ((bytes : List ℕ) → o ≡ Some bytes → ⊥) → option_map (hyphenated_text lower) o ≡ None
none_by None none = refl
none_by (Some bytes) none = absurd (none bytes refl)

pub uuid_none : (text : List ℕ) → ((bytes : List ℕ) → parsed text ≡ Some bytes → ⊥) → uuid_of text ≡ None
unfolding uuid_of
uuid_none text none = none_by (parsed text) none

pub uuid_some : (text bytes : List ℕ) → parsed text ≡ Some bytes → uuid_of text ≡ Some (hyphenated_text lower bytes)
unfolding uuid_of
uuid_some text bytes is = ap (option_map (hyphenated_text lower)) is
