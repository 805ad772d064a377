-- The entries of a scope's map, as contracts see them.
use Rattle.std.proofs.Common.{◌≡◌, ℕ, List, [], ◌∷◌, map, Bool, true, false, cond, Some, None, refl, sym, ap}
use Rattle.std.specs.Prelude.{bytes_eq}
use Rattle.std.specs.Map.{lookup, set_value}
use denote.Ref.{Bor}
use Rattle.hog_scope.specs.declared.scope.Variable.{Variable}
use Rattle.hog_scope.specs.Scopes.{with_seen}

abbrev pub Entries : Type 0
Entries = List (Bor (List ℕ) × Variable)

abbrev pub shown : Entries → List (List ℕ × Variable)
shown es = map (λ e. (e.0.now, e.1)) es

pub lookup-shown : (w : List ℕ) (es : Entries) → lookup (λ k. bytes_eq w k.now) es ≡ lookup (bytes_eq w) (shown es)
lookup-shown w [] = refl
lookup-shown w (e ∷ es) = ap (cond (bytes_eq w e.0.now) (Some e.1)) (lookup-shown w es)

-- a name that is there is seen from now on
pub seen-shown : (w : List ℕ) (es : Entries) (x : Variable) → lookup (λ k. bytes_eq w k.now) es ≡ Some x
    → shown (set_value (λ k. bytes_eq w k.now) es (record x { is_seen = true })) ≡ with_seen (shown es) w
seen-shown w [] x there = cc
seen-shown w (e ∷ es) x there = by (bytes_eq w e.0.now) there (seen-shown w es x)
  where
    by : (b : Bool) → cond b (Some e.1) (lookup (λ k. bytes_eq w k.now) es) ≡ Some x
        → (lookup (λ k. bytes_eq w k.now) es ≡ Some x → shown (set_value (λ k. bytes_eq w k.now) es (record x { is_seen = true })) ≡ with_seen (shown es) w)
        → shown (cond b ((e.0, record x { is_seen = true }) ∷ es) (e ∷ set_value (λ k. bytes_eq w k.now) es (record x { is_seen = true })))
        ≡ cond b ((e.0.now, record e.1 { is_seen = true }) ∷ shown es) ((e.0.now, e.1) ∷ with_seen (shown es) w)
    by true there rest = let same : e.1 ≡ x = cc in ap (λ y. (e.0.now, record y { is_seen = true }) ∷ shown es) (sym same)
    by false there rest = ap (λ r. (e.0.now, e.1) ∷ r) (rest there)

-- a name that isn't there has none to be seen
pub absent-seen : (w : List ℕ) (s : List (List ℕ × Variable)) → lookup (bytes_eq w) s ≡ None → with_seen s w ≡ s
absent-seen w [] none = refl
absent-seen w (e ∷ s) none = by (bytes_eq w e.0) none (absent-seen w s)
  where
    by : (b : Bool) → cond b (Some e.1) (lookup (bytes_eq w) s) ≡ None → (lookup (bytes_eq w) s ≡ None → with_seen s w ≡ s)
        → cond b ((e.0, record e.1 { is_seen = true }) ∷ s) (e ∷ with_seen s w) ≡ e ∷ s
    by true none rest = cc
    by false none rest = ap (λ r. e ∷ r) (rest none)
