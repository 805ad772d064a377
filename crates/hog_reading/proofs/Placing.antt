-- The names of one part after another.
use Rattle.std.proofs.Common.{◌≡◌, List, [], ◌∷◌, ◌++◌, sym, ap, ◌∙◌, append_assoc}
use Rattle.std.specs.List.{flat_map}
use Rattle.std.proofs.lemmas.List.{flat_map_more}
use Rattle.hog_tree.specs.declared.tree.Named.{Named}

-- of a list of parts and of one more
pub placed_more : {X : Type 0} (f : X → List Named) (xs ys : List X) (x : X) (all middle rest : List Named) → ys ≡ xs ++ x ∷ []
    → all ≡ flat_map f xs ++ middle → middle ≡ f x ++ rest → all ≡ flat_map f ys ++ rest
placed_more f xs ys x all middle rest is front back =
    front ∙ ap (λ z. flat_map f xs ++ z) back ∙ sym (append_assoc (flat_map f xs) (f x) rest)
    ∙ ap (λ z. z ++ rest) (flat_map_more f [] xs x ∙ ap (flat_map f) (sym is))

-- of a list of names and of one more
pub placed_name : (ns ms : List Named) (n : Named) (all middle rest : List Named) → ms ≡ ns ++ n ∷ [] → all ≡ ns ++ middle → middle ≡ n ∷ rest → all ≡ ms ++ rest
placed_name ns ms n all middle rest is front back =
    front ∙ ap (λ z. ns ++ z) back ∙ sym (append_assoc ns (n ∷ []) rest) ∙ ap (λ z. z ++ rest) (sym is)
