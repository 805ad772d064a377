-- The pairs of a dictionary that is written out.
use Rattle.std.specs.Prelude.{ℕ, List, [], ◌∷◌, Option, Some, None, Result, Ok, Err}
use Rattle.hog_value.specs.declared.value.Kind.{Kind}
use Rattle.hog_value.specs.declared.value.Kind.TheVariants.{TypeError}
use Rattle.hog_value.specs.Values.{Val}

-- keys and values in turn, as pairs
abbrev pub in_turn : List Val → List (Val × Val)
in_turn [] = []
in_turn (v ∷ []) = []
in_turn (k ∷ v ∷ vs) = (k, v) ∷ in_turn vs

-- pairs that were found; there are none where a key is no text
abbrev pub pairs_given : Option (List (List ℕ × Val)) → Result (List (List ℕ × Val)) Kind
pairs_given None = Err TypeError
pairs_given (Some ps) = Ok ps
