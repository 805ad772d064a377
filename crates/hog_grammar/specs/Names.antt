-- The names of a text: its words that are not reserved, properties aside, in order and each with its place.
use Rattle.std.specs.Prelude.{ℕ, List, [], ◌∷◌, Bool, true, false}
use Rattle.hog_tree.specs.Plain.{Word}
use Rattle.hog_tree.specs.declared.tree.Named.{Named}
use Rattle.hog_grammar.specs.declared.token.Token.{Token}
use Rattle.hog_grammar.specs.Terminal.{Terminal, terminal_of}
use Rattle.hog_grammar.specs.Terminal as k

abbrev pub name_at : ℕ → Word → Named
name_at place w = record { at = place; word = w }

-- the name that a token at that place is, if it is one, before others; right after a `.` or `?.` a word names a property
abbrev pub with_name : Bool → Terminal → ℕ → List Named → List Named
with_name false (k.Word w) at names = name_at at w ∷ names
with_name _ _ at names = names

-- `.` and `?.`
abbrev pub is_dot : Terminal → Bool
is_dot k.Dot = true
is_dot k.NullishDot = true
is_dot _ = false

-- the names of these tokens, where they stand right after a `.` or `?.` or not
abbrev pub names_after : Bool → List ℕ → List Token → List Named
names_after dot text [] = []
names_after dot text (t ∷ ts) = with_name dot (terminal_of text t) t.from (names_after (is_dot (terminal_of text t)) text ts)

-- the names of the tokens of a text
abbrev pub names_in : List ℕ → List Token → List Named
names_in text list = names_after false text list
