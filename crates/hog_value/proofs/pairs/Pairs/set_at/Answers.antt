use Rattle.std.proofs.Common.{◌≡◌, ℕ, zero, suc, List, [], ◌∷◌, refl, ap, sym, subst}
use Rattle.std.specs.Prelude.{bytes_eq}
use Rattle.std.specs.List.{IsDistinct}
use Rattle.std.specs.Map.{keys_of}
use Rattle.indexmap.specs.IndexMap.{set_value_at}
use Rattle.hog_value.proofs.pairs.Pairs.set_at.Goals as goal

-- setting a value keeps the keys
keys_of-set_value_at : {K X : Type 0} (es : List (K × X)) (i : ℕ) (v : X) → keys_of (set_value_at es i v) ≡ keys_of es
keys_of-set_value_at [] i v = refl
keys_of-set_value_at (e ∷ es) zero v = refl
keys_of-set_value_at (e ∷ es) (suc i) v = ap (λ keys. e.0 ∷ keys) (keys_of-set_value_at es i v)

pub invariant_of-self : goal.invariant_of-self
invariant_of-self c =
    subst (IsDistinct bytes_eq) (sym (keys_of-set_value_at c.self.inside.map.entries c.args.place c.args.v)) c.self.invariant

pub returns-clause-distinct : goal.returns-clause-distinct
returns-clause-distinct c =
    subst (IsDistinct bytes_eq) (sym (keys_of-set_value_at c.self.inside.map.entries c.args.place c.args.v)) c.self.invariant
