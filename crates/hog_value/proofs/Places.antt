-- Setting the value at the place of a key.
use Rattle.std.proofs.Common.{◌≡◌, ◌<◌, ◌+◌, ℕ, suc, List, [], ◌∷◌, Bool, true, false, cond, not, Some, length, arith, refl, ap, sym, subst, ◌∙◌}
use Rattle.std.specs.Prelude.{bytes_eq, position}
use Rattle.std.specs.List.{position_or_len}
use Rattle.std.specs.Map.{keys_of}
use Rattle.std.proofs.lemmas.List.Quantifiers.{position-Some}
use Rattle.std.proofs.lemmas.List.Sums.{position_or_len_is}
use Rattle.indexmap.specs.IndexMap.{insert_entry, set_value_at}
use Rattle.hog_value.specs.Values.{Val}

-- at the first key that is the same, setting the value is inserting
set-first : (key : List ℕ) (ps : List (List ℕ × Val)) (v : Val) → position_or_len (bytes_eq key) (keys_of ps) < length (keys_of ps)
    → set_value_at ps (position_or_len (bytes_eq key) (keys_of ps)) v ≡ insert_entry bytes_eq ps key v
set-first key [] v within = absurd (omega arith)
set-first key (p ∷ ps) v within = by (bytes_eq key p.0) (position_or_len (bytes_eq key) (keys_of ps)) within (set-first key ps v)
  where
    by : (b : Bool) (n : ℕ) → cond (not b) (1 + n) 0 < suc (length (keys_of ps))
        → (n < length (keys_of ps) → set_value_at ps n v ≡ insert_entry bytes_eq ps key v)
        → set_value_at (p ∷ ps) (cond (not b) (1 + n) 0) v ≡ cond b ((p.0, v) ∷ ps) (p ∷ insert_entry bytes_eq ps key v)
    by true n within rest = refl
    by false n within rest =
        let next : 1 + n ≡ suc n = omega arith in
        ap (λ i. set_value_at (p ∷ ps) i v) next ∙ ap (λ qs. p ∷ qs) (rest (omega arith))

pub set-place : (key : List ℕ) (ps : List (List ℕ × Val)) (i : ℕ) (v : Val) → position (bytes_eq key) (keys_of ps) ≡ Some i
    → set_value_at ps i v ≡ insert_entry bytes_eq ps key v
set-place key ps i v at =
    let first = position-Some (bytes_eq key) (keys_of ps) i [] at in
    let is : position_or_len (bytes_eq key) (keys_of ps) ≡ i = position_or_len_is (bytes_eq key) (keys_of ps) i [] (omega (arith, first.0)) first.2 (λ within. first.1) in
    let within : position_or_len (bytes_eq key) (keys_of ps) < length (keys_of ps) = subst (λ n. n < length (keys_of ps)) (sym is) first.0 in
    ap (λ n. set_value_at ps n v) (sym is) ∙ set-first key ps v within
