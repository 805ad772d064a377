-- What stands before a place of a text.
use Rattle.std.specs.Prelude.{ℕ, nat_le, count_by, List}
use Rattle.hog_grammar.specs.declared.token.Token.{Token}

-- how many of the tokens end at that place or before it
abbrev pub tokens_before : ℕ → List Token → ℕ
tokens_before at list = count_by (λ (t : Token). nat_le t.to at) list
