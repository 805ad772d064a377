-- Examples, computed.
use Rattle.std.specs.Prelude.{◌≡◌, codes, pos, negsuc, [], ◌∷◌, false, Some, None}
use Rattle.std.proofs.Common.{refl}
use Rattle.hog_value.specs.declared.native.Native.TheVariants.{Keys, Fetch}
use Rattle.hog_value.specs.declared.value.Kind.TheVariants.{TypeError}
use Rattle.hog_value.specs.declared.value.Value.TheVariants.{Int, Ref}
use Rattle.hog_value.specs.Meters.{Spent}
use Rattle.hog_value.specs.Cells.{HeapOf, Text, Array, Dict}
use Rattle.hog_value.specs.Operations.{made}
use Rattle.hog_library.specs.Texts.{pieces, replaced, trimmed, number_in, is_allowed, begins_with}
use Rattle.hog_library.specs.Cells.{array_of_texts}
use Rattle.hog_library.specs.Natives.{keys_called}
use Rattle.hog_library.specs.Called.{Gives, Throws, TurnsSpent, called, fetch_called}

no_overlap : pieces (codes "aa") (codes "aaab") ≡ [] ∷ codes "ab" ∷ []
unfolding pieces begins_with
no_overlap = refl

from_the_left : replaced (codes "aaaa") (codes "aa") (codes "b") ≡ codes "bb"
unfolding replaced pieces begins_with
from_the_left = refl

both_ends : trimmed (codes " \t a b \n") ≡ codes "a b"
unfolding trimmed
both_ends = refl

least : number_in (codes "-9223372036854775808") ≡ Some (negsuc 9223372036854775807)
unfolding number_in
least = refl

too_large : number_in (codes "9223372036854775808") ≡ None
unfolding number_in
too_large = refl

twenty_digits : number_in (codes "00000000000000000001") ≡ None
unfolding number_in
twenty_digits = refl

no_host : is_allowed (codes "https:///") ≡ false
unfolding is_allowed begins_with
no_host = refl

-- a dictionary with a key, its text, and nothing spent but their cost
abbrev keyed : HeapOf (Unit {0})
keyed = Dict ((codes "k", Int (pos 7)) ∷ []) ∷ Text (codes "k") ∷ []

abbrev spent : Spent
spent = record { turns = 0; units = 34; depth = 0 }

new_texts : called Keys (Ref 0 ∷ []) keyed spent
    ≡ Gives (Ref 3) (Dict ((codes "k", Int (pos 7)) ∷ []) ∷ Text (codes "k") ∷ Text (codes "k") ∷ Array (Ref 2 ∷ []) ∷ []) (record { turns = 0; units = 59; depth = 0 })
unfolding called keys_called array_of_texts made
new_texts = refl

not_a_dictionary : called Fetch (Ref 1 ∷ Int (pos 1) ∷ []) keyed spent ≡ Throws TypeError
unfolding called fetch_called
not_a_dictionary = refl

no_turn_left : called Fetch (Ref 1 ∷ []) keyed (record spent { turns = 100000 }) ≡ TurnsSpent
unfolding called fetch_called
no_turn_left = refl
