-- The names of a `for .. in`.
use Rattle.std.specs.Prelude.{List, [], ◌∷◌, ◌++◌}
use Rattle.hog_tree.specs.Names.{option_name}
use Rattle.hog_tree.specs.declared.tree.Named.{Named}
use Rattle.hog_terms.specs.declared.words.Bound.{Bound}

-- in the order of the text
abbrev pub names_of : Bound → List Named
names_of b = option_name b.key ++ b.value ∷ []
