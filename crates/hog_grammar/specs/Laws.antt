-- What holds of the tokens and the bad places of a text.
use Rattle.std.specs.Prelude.{◌≡◌, ℕ, List, ◌⊎◌}
use Rattle.std.specs.Str.{IsUtf8}
use Rattle.hog_grammar.specs.declared.token.Fault.{Fault}
use Rattle.hog_grammar.specs.declared.token.Token.{Token}
use Rattle.hog_grammar.specs.Pieces.{IsTokensOf}
use Rattle.hog_grammar.specs.Faults.{IsBadPlace, IsFirstFault}

-- A text has at most one list of tokens.
abbrev pub OneList : Type 0
OneList = (text : List ℕ) (a b : List Token) → IsTokensOf text a → IsTokensOf text b → a ≡ b

-- A text that is UTF-8 has a list of tokens or a first bad place.
abbrev pub TokensOrFault : Type 0
TokensOrFault = (text : List ℕ) → IsUtf8 text → ((list : List Token) × IsTokensOf text list) ⊎ ((f : Fault) × (at : ℕ) × IsFirstFault text f at)

-- A text that has a list of tokens has no bad place.
abbrev pub NotBoth : Type 0
NotBoth = (text : List ℕ) (list : List Token) (f : Fault) (at : ℕ) → IsTokensOf text list → IsBadPlace text f at → ⊥

-- A text has at most one first fault.
abbrev pub OneFirstFault : Type 0
OneFirstFault = (text : List ℕ) (f g : Fault) (at place : ℕ) → IsFirstFault text f at → IsFirstFault text g place → (f ≡ g) × (at ≡ place)
