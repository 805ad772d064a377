-- The names in sight at a point of the source, as an environment.
use Rattle.std.specs.Prelude.{ℕ, List, [], ◌∷◌, if◌then◌else◌}
use Rattle.std.specs.List.{flat_map}
use Rattle.hog_tree.specs.Plain.{Word}
use Rattle.hog_scope.specs.Scopes.{Scope, Known}

-- the names of a scope that are seen, with the numbers of their declarations
abbrev pub seen_in : Scope → List (Word × ℕ)
seen_in [] = []
seen_in ((w, x) ∷ scope) = if x.is_seen then (w, x.number) ∷ seen_in scope else seen_in scope

-- the names in sight with the numbers of their declarations, from the inside out
abbrev pub environment : Known → List (Word × ℕ)
environment k = flat_map seen_in (k.scope ∷ k.around)
