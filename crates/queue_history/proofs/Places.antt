-- Elements of a list after a push or a write.
use Rattle.std.proofs.Common.{◌≡◌, ◌≢◌, ℕ, zero, suc, ◌<◌, List, [], ◌∷◌, ◌++◌, ◌⊎◌, inl, inr, length, set, map, refl, ap, arith, Some, slice_get}

pub slice_get-append_left : {A : Type 0} (xs ys : List A) (k : ℕ) → k < length xs → slice_get (xs ++ ys) k ≡ slice_get xs k
slice_get-append_left [] ys k lt = absurd (omega arith)
slice_get-append_left (x ∷ xs) ys zero lt = refl
slice_get-append_left (x ∷ xs) ys (suc k) lt = slice_get-append_left xs ys k (omega arith)

-- what stands in a list and one more element
pub slice_get_push : {A : Type 0} (xs : List A) (y : A) (k : ℕ) (x : A) → slice_get (xs ++ y ∷ []) k ≡ Some x → (slice_get xs k ≡ Some x) ⊎ ((k ≡ length xs) × (x ≡ y))
slice_get_push [] y zero x at = inr (refl, cc)
slice_get_push [] y (suc k) x at = absurd cc
slice_get_push (z ∷ xs) y zero x at = inl at
slice_get_push (z ∷ xs) y (suc k) x at =
    elim (slice_get_push xs y k x at) [ inl here ↦ inl here | inr (end, is) ↦ inr (ap suc end, is) ]

-- what stands in a list after a write
pub slice_get_set : {A : Type 0} (xs : List A) (i : ℕ) (y : A) (k : ℕ) (x : A) → slice_get (set xs i y) k ≡ Some x → ((k ≡ i) × (x ≡ y)) ⊎ ((k ≢ i) × (slice_get xs k ≡ Some x))
slice_get_set [] i y k x at = absurd cc
slice_get_set (z ∷ xs) zero y zero x at = inl (refl, cc)
slice_get_set (z ∷ xs) zero y (suc k) x at = inr (omega arith, at)
slice_get_set (z ∷ xs) (suc i) y zero x at = inr (omega arith, at)
slice_get_set (z ∷ xs) (suc i) y (suc k) x at =
    elim (slice_get_set xs i y k x at) [ inl (same, is) ↦ inl (ap suc same, is) | inr (apart, is) ↦ inr (λ e. apart (omega arith), is) ]

-- a write that changes nothing that f sees
pub map-set_same : {A B : Type 0} (f : A → B) (xs : List A) (i : ℕ) (x y : A) → slice_get xs i ≡ Some x → f y ≡ f x → map f (set xs i y) ≡ map f xs
map-set_same f [] i x y at same = refl
map-set_same f (z ∷ xs) zero x y at same = let e : z ≡ x = cc in rw (same, e) refl
map-set_same f (z ∷ xs) (suc i) x y at same = ap (λ r. f z ∷ r) (map-set_same f xs i x y at same)

pub slice_get_end : {A : Type 0} (xs : List A) (y : A) (k : ℕ) → k ≡ length xs → slice_get (xs ++ y ∷ []) k ≡ Some y
slice_get_end [] y zero is = refl
slice_get_end [] y (suc k) is = absurd (omega arith)
slice_get_end (x ∷ xs) y zero is = absurd (omega arith)
slice_get_end (x ∷ xs) y (suc k) is = slice_get_end xs y k (omega arith)
