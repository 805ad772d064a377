-- Examples, computed.
use Rattle.std.specs.Prelude.{◌≡◌, codes, pos, ◌∷◌, []}
use Rattle.std.specs.Fmt.{digits}
use Rattle.std.proofs.Common.{refl}
use Rattle.serde_json.proofs.OnLiterals.{serde_json_on_literals}
use Rattle.hog_value.specs.declared.value.Kind.TheVariants.{JsonError}
use Rattle.hog_value.specs.declared.value.Value.TheVariants.{Null, Int, Ref}
use Rattle.hog_value.specs.Cells.{HeapOf, Text, Array, Dict, Fun}
use Rattle.hog_value.specs.Operations.{Gives, Throws, Spends, made}
use Rattle.hog_json.specs.Texts.{shown, json_text_of, text_in, shown_byte}
use Rattle.hog_json.specs.Reading.{json_cells, kept_value}
use Rattle.hog_json.specs.Nulled.{nulled}
use Rattle.serde_json.specs.Data.{array, item, no_items, null, number, unsigned}

-- a text, an array of it and itself, and a function
abbrev looped : HeapOf (Unit {0})
looped = Text (codes "it's") ∷ Array (Ref 0 ∷ Ref 1 ∷ Ref 2 ∷ Int (pos 7) ∷ []) ∷ Dict ((codes "k", Ref 1) ∷ []) ∷ Fun tt ∷ []

text_alone : shown looped (Ref 0) ≡ codes "it's"
unfolding shown
text_alone = refl

cycle : shown looped (Ref 1) ≡ codes "['it\\'s', <cycle>, {'k': <cycle>}, 7]"
unfolding shown text_in shown_byte digits
cycle = refl

in_json : json_text_of looped (Ref 2) ≡ codes "{\"k\":[\"it's\",null,null,7]}"
unfolding json_text_of text_in digits serde_json_on_literals
in_json = refl

inner_first : json_cells {F = Unit {0}} (codes "[\"a\",1.5,[]]") [] 0 ≡ Gives (Ref 2) (Text (codes "a") ∷ Array [] ∷ Array (Ref 0 ∷ Null ∷ Ref 1 ∷ []) ∷ []) 49
unfolding json_cells made serde_json_on_literals
inner_first = refl

in_order_of_keys : json_cells {F = Unit {0}} (codes "{\"b\":true,\"a\":1,\"b\":2}") [] 0 ≡ Gives (Ref 0) (Dict ((codes "a", Int (pos 1)) ∷ (codes "b", Int (pos 2)) ∷ []) ∷ []) 42
unfolding json_cells made serde_json_on_literals
in_order_of_keys = refl

all_or_none : json_cells {F = Unit {0}} (codes "[[],[]]") [] 4194300 ≡ Spends
unfolding json_cells made serde_json_on_literals
all_or_none = refl

not_json : json_cells {F = Unit {0}} (codes "[1,]") [] 0 ≡ Throws JsonError
unfolding json_cells serde_json_on_literals
not_json = refl

not_whole : nulled (kept_value (codes "[1,-0,1e2,9223372036854775808]")) ≡ array (item (number (unsigned 1)) (item null (item null (item null no_items))))
unfolding kept_value serde_json_on_literals
not_whole = refl
