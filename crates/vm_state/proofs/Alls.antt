-- What holds of each element of a list.
use Rattle.std.proofs.Common.{◌≡◌, ℕ, zero, suc, List, [], ◌∷◌, ◌++◌, reverse, map, replicate, drop, take, Bool, true, Some, refl, sym, ap, ◌∙◌, subst}
use Rattle.std.specs.Prelude.{◌&&◌, slice_get, slice_set, unwrap_or}
use Rattle.std.specs.List.{AllByRecursion, list_all}
use Rattle.std.proofs.lemmas.List.{reverse-append}

module _ {A : Type 0} (P : A → Type 0) where
  pub all_append : (xs ys : List A) → AllByRecursion P xs → AllByRecursion P ys → AllByRecursion P (xs ++ ys)
  all_append [] ys h k = k
  all_append (x ∷ xs) ys h k = (h.0, all_append xs ys h.1 k)

  pub all_last : (xs : List A) (y : A) → AllByRecursion P xs → P y → AllByRecursion P (xs ++ y ∷ [])
  all_last xs y h k = all_append xs (y ∷ []) h (k, tt)

  pub all_back : (xs : List A) → AllByRecursion P xs → AllByRecursion P (reverse xs)
  all_back [] h = tt
  all_back (x ∷ xs) h = subst (AllByRecursion P) (sym (reverse-append (x ∷ []) xs)) (all_last (reverse xs) x (all_back xs h.1) h.0)

  pub all_at : (xs : List A) (n : ℕ) (x : A) → AllByRecursion P xs → slice_get xs n ≡ Some x → P x
  all_at [] n x h e = absurd cc
  all_at (y ∷ xs) zero x h e = let same : y ≡ x = cc in subst P same h.0
  all_at (y ∷ xs) (suc n) x h e = all_at xs n x h.1 e

  pub all_or : (xs : List A) (n : ℕ) (x : A) → AllByRecursion P xs → P x → P (unwrap_or (slice_get xs n) x)
  all_or [] n x h k = k
  all_or (y ∷ xs) zero x h k = h.0
  all_or (y ∷ xs) (suc n) x h k = all_or xs n x h.1 k

  pub all_set : (xs : List A) (n : ℕ) (x : A) → AllByRecursion P xs → P x → AllByRecursion P (slice_set xs n x)
  all_set [] n x h k = tt
  all_set (y ∷ xs) zero x h k = (k, h.1)
  all_set (y ∷ xs) (suc n) x h k = (h.0, all_set xs n x h.1 k)

  pub all_drop : (n : ℕ) (xs : List A) → AllByRecursion P xs → AllByRecursion P (drop n xs)
  all_drop zero xs h = h
  all_drop (suc n) [] h = tt
  all_drop (suc n) (x ∷ xs) h = all_drop n xs h.1

  pub all_take : (n : ℕ) (xs : List A) → AllByRecursion P xs → AllByRecursion P (take n xs)
  all_take zero xs h = tt
  all_take (suc n) [] h = tt
  all_take (suc n) (x ∷ xs) h = (h.0, all_take n xs h.1)

  pub all_replicate : (n : ℕ) (x : A) → P x → AllByRecursion P (replicate n x)
  all_replicate zero x k = tt
  all_replicate (suc n) x k = (k, all_replicate n x k)

  pub all_if : (Q : A → Type 0) → ((x : A) → P x → Q x) → (xs : List A) → AllByRecursion P xs → AllByRecursion Q xs
  all_if Q go [] h = tt
  all_if Q go (x ∷ xs) h = (go x h.0, all_if Q go xs h.1)

  pub all_tested : (test : A → Bool) → ((x : A) → P x → test x ≡ true) → (xs : List A) → AllByRecursion P xs → list_all test xs ≡ true
  all_tested test go [] h = refl
  all_tested test go (x ∷ xs) h = ap (λ b. b && list_all test xs) (go x h.0) ∙ all_tested test go xs h.1

module _ {A B : Type 0} (f : A → B) (P : A → Type 0) (Q : B → Type 0) where
  pub all_map : ((x : A) → P x → Q (f x)) → (xs : List A) → AllByRecursion P xs → AllByRecursion Q (map f xs)
  all_map go [] h = tt
  all_map go (x ∷ xs) h = (go x h.0, all_map go xs h.1)

-- elements behind those of a list leave what stands in it where it was
pub at_before : {A : Type 0} (xs ys : List A) (n : ℕ) (x : A) → slice_get xs n ≡ Some x → slice_get (xs ++ ys) n ≡ Some x
at_before [] ys n x e = absurd cc
at_before (y ∷ xs) ys zero x e = e
at_before (y ∷ xs) ys (suc n) x e = at_before xs ys n x e
