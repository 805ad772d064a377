-- What a call took of the bytes that a source has left. These are `before` and `after` the call, and are
-- Some where the source tells them.
use Rattle.std.specs.Prelude.{◌≡◌, ℕ, ◌≤◌, List, ◌++◌, drop, Option, Some}
use Rattle.std.specs.Option.{ForSome}

-- bytes from the front, at most as many
abbrev pub TakesAtMost : ℕ → Option (List ℕ) → Option (List ℕ) → Type 0
TakesAtMost most before after =
    ForSome before (λ left. (n : ℕ) × (n ≤ most) × (after ≡ Some (drop n left)))

-- bytes that went from the front of `whole` to the end of a text
pub record AreMoved (whole : List ℕ) (after : Option (List ℕ)) (old new : List ℕ) : Type 0 where
  pub moved : List ℕ
  pub rest : List ℕ
  pub parts : whole ≡ moved ++ rest
  pub left : after ≡ Some rest
  pub text : new ≡ old ++ moved

-- bytes went from the source to the end of a text
abbrev pub ReadsInto : Option (List ℕ) → Option (List ℕ) → List ℕ → List ℕ → Type 0
ReadsInto before after old new = ForSome before (λ left. AreMoved left after old new)
