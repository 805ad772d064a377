-- Texts that are part of others, by where they are found.
use Rattle.std.proofs.Common.{◌≡◌, ◌≤◌, ◌+◌, ℕ, zero, suc, List, [], ◌∷◌, ◌++◌, Bool, true, false, cond, length, drop, ◌≢◌, arith, refl, ap, ap₂, sym, subst, ◌∙◌, bytes_eq}
use Rattle.std.proofs.lemmas.Slice.Eq.{bytes_eq-Decides}
use Rattle.std.specs.Prelude.{Option, Some, None, MatchBool, ◌&&◌}
use Rattle.std.specs.Str.Pattern.{FindsText, HasMatch}
use Rattle.hog_meaning.specs.Operators.{begins, is_part}

-- a text begins with another where that is its front
begins-append : (s rest : List ℕ) → begins s (s ++ rest) ≡ true
begins-append [] rest = refl
begins-append (b ∷ s) rest = ap₂ (λ x y. x && y) ((bytes_eq-Decides (b ∷ []) (b ∷ [])).1 refl) (begins-append s rest)

both_true : (x y : Bool) → (x && y) ≡ true → (x ≡ true) × (y ≡ true)
both_true true y is = (refl, is)
both_true false y is = absurd cc

-- and only there
begins-true : (s t : List ℕ) → begins s t ≡ true → t ≡ s ++ drop (length s) t
begins-true [] t is = refl
begins-true (b ∷ s) [] is = absurd cc
begins-true (b ∷ s) (c ∷ t) is =
    let both = both_true (bytes_eq (b ∷ []) (c ∷ [])) (begins s t) is in
    let first : b ∷ [] ≡ c ∷ [] = (bytes_eq-Decides (b ∷ []) (c ∷ [])).0 both.0 in
    let head : b ≡ c = cc in
    ap₂ (λ x xs. x ∷ xs) (sym head) (begins-true s t both.1)

begins-lacks : (s t : List ℕ) → ((rest : List ℕ) → t ≢ s ++ rest) → begins s t ≡ false
begins-lacks s t lacks = elim (begins s t) as (λ b. begins s t ≡ b → b ≡ false) [
  | true ↦ λ is. absurd (lacks _ (begins-true s t is))
  | false ↦ λ is. refl
] refl

either_true : (b : Bool) → cond b true true ≡ true
either_true true = refl
either_true false = refl

-- a text that is found at a place is a part
is_part-there : (s t : List ℕ) (i : ℕ) → begins s (drop i t) ≡ true → is_part s t ≡ true
is_part-there s [] zero is = is
is_part-there s [] (suc i) is = is
is_part-there s (c ∷ t) zero is = ap (λ b. cond b true (is_part s t)) is
is_part-there s (c ∷ t) (suc i) is = ap (λ b. cond (begins s (c ∷ t)) true b) (is_part-there s t i is) ∙ either_true (begins s (c ∷ t))

-- one that is found nowhere is none
is_part-nowhere : (s t : List ℕ) → ((i : ℕ) → i ≤ length t → begins s (drop i t) ≡ false) → is_part s t ≡ false
is_part-nowhere s [] nowhere = nowhere 0 (omega arith)
is_part-nowhere s (c ∷ t) nowhere =
    ap (λ b. cond b true (is_part s t)) (nowhere 0 (omega arith)) ∙ is_part-nowhere s t (λ i h. nowhere (suc i) (omega arith))

-- what a search says
pub contains_is : (b : Bool) (s t : List ℕ) → MatchBool b (HasMatch (FindsText s) t) (FindsText s t None) → b ≡ is_part s t
contains_is true s t found =
    let i = found.0 in
    let j = found.1 in
    sym (is_part-there s t i (ap (begins s) found.2.1.split ∙ begins-append s (drop j t)))
contains_is false s t nowhere = sym (is_part-nowhere s t (λ i h. begins-lacks s (drop i t) (nowhere i h)))
