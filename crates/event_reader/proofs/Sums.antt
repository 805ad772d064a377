-- Sums over what is seen of a list.
use Rattle.std.proofs.Common.{◌≡◌, ◌+◌, ◌<◌, ◌≤◌, ℕ, List, [], ◌∷◌, length, take, get_or, refl, sym, ap, ◌∙◌, take_all}
use Rattle.std.specs.Prelude.{map, sum_by}
use Rattle.std.proofs.lemmas.List.Sums.{sum_by-cons, sum_by_more}

pub sum_map : {A B : Type 0} (f : B → ℕ) (see : A → B) (xs : List A) → sum_by f (map see xs) ≡ sum_by (λ (x : A). f (see x)) xs
sum_map f see [] = refl
sum_map f see (x ∷ xs) = sum_by-cons f (see x) (map see xs) ∙ ap (λ n. f (see x) + n) (sum_map f see xs) ∙ sym (sum_by-cons (λ y. f (see y)) x xs)

-- one more item
pub sum_more : {A : Type 0} (f : A → ℕ) (xs : List A) (i : ℕ) (x : A) → i < length xs → x ≡ get_or xs i x → sum_by f (take (i + 1) xs) ≡ sum_by f (take i xs) + f x
sum_more f xs i x within here = sum_by_more f xs i x within ∙ ap (λ y. sum_by f (take i xs) + f y) (sym here)

-- all items
pub sum_all : {A B : Type 0} (f : B → ℕ) (see : A → B) (xs : List A) (i : ℕ) → length xs ≤ i → sum_by (λ (x : A). f (see x)) (take i xs) ≡ sum_by f (map see xs)
sum_all f see xs i all = ap (sum_by (λ x. f (see x))) (take_all i xs all) ∙ sym (sum_map f see xs)
