-- The names in sight where variables are called anew: an environment with the new names finds for each declaration the
-- variable that the environment with the old names finds for its name.
use Rattle.std.proofs.Common.{◌≡◌, ◌≢◌, ℕ, suc, ◌+◌, ◌<◌, ◌≤◌, List, [], ◌∷◌, ◌++◌, length, Option, Some, None, cond, refl, ap, ◌∙◌, ◌⊎◌, inl, inr, arith}
use Rattle.std.specs.Prelude.{bytes_eq}
use Rattle.hog_tree.specs.Plain.{Word}
use Rattle.hog_captures.specs.Frees.{without, without_all, without_name}
use Rattle.hog_meaning.specs.World.{Env, find_var}
use Rattle.hog_names.specs.Anew.{Naming}
use Rattle.hog_names.specs.Numbers.{option_count, with_number, with_numbers}
use Rattle.hog_bridge.proofs.Words.{Tells, word_tells, In, in_left, in_right, in_without}

-- different declarations are called differently
pub record AreApart (call : Naming) : Type 0 where
  pub apart : (i j : ℕ) → call i ≡ call j → i ≡ j

module _ (call : Naming) where
  -- what is known of the names in sight where a part of a program stands that has these free words: their declarations are
  -- among the first n, and no variable is called as a free word that names none
  pub record Here (σ : Env) (n : ℕ) (ws : List Word) : Type 0 where
    pub below : (w : Word) (i : ℕ) → find_var σ w ≡ Some i → i < n
    pub clear : (w : Word) → In w ws → find_var σ w ≡ None → (i : ℕ) → call i ≢ w

  pub here_left : {σ : Env} {n : ℕ} (xs ys : List Word) → Here σ n (xs ++ ys) → Here σ n xs
  here_left xs ys h = record { below = h.below; clear = λ w is. h.clear w (in_left w xs ys is) }

  pub here_right : {σ : Env} {n : ℕ} (m : ℕ) (xs ys : List Word) → n ≤ m → Here σ n (xs ++ ys) → Here σ m ys
  here_right {σ} {n} m xs ys le h = record {
    below = λ w i e. let lt = h.below w i e in omega (arith, lt, le);
    clear = λ w is. h.clear w (in_right w xs ys is);
  }

  pub here_later : {σ : Env} {n : ℕ} {ws : List Word} (m : ℕ) → n ≤ m → Here σ n ws → Here σ m ws
  here_later {σ} {n} m le h = record { below = λ w i e. let lt = h.below w i e in omega (arith, lt, le); clear = h.clear }

  pub here_named : {σ : Env} {n : ℕ} (w : Word) (ws : List Word) → Here σ n (without w ws) → Here ((w, n) ∷ σ) (suc n) ws
  here_named {σ} {n} w ws h = record { below = λ v i e. low v i (word_tells w v) e; clear = λ v is e. far v (word_tells w v) (in_without w v ws is) e }
    where
      low : (v : Word) (i : ℕ) → Tells w v → cond (bytes_eq w v) (Some n) (find_var σ v) ≡ Some i → i < suc n
      low v i (inl t) e = let e2 : Some n ≡ Some i = rw t.0 at e in let same : n ≡ i = cc in omega (arith, same)
      low v i (inr t) e = let e2 : find_var σ v ≡ Some i = rw t.0 at e in let lt = h.below v i e2 in omega (arith, lt)

      far : (v : Word) → Tells w v → (w ≡ v) ⊎ In v (without w ws) → cond (bytes_eq w v) (Some n) (find_var σ v) ≡ None → (i : ℕ) → call i ≢ v
      far v (inl t) is e i = let e2 : Some n ≡ None = rw t.0 at e in absurd cc
      far v (inr t) (inl same) e i = absurd (t.1 same)
      far v (inr t) (inr is) e i = let e2 : find_var σ v ≡ None = rw t.0 at e in h.clear v is e2 i

  pub here_option : {σ : Env} {n : ℕ} (o : Option Word) (ws : List Word) → Here σ n (without_name o ws) → Here (with_number o n σ) (n + option_count o) ws
  here_option {σ} {n} None ws h = here_later (n + 0) (omega arith) h
  here_option {σ} {n} (Some w) ws h = here_later (n + 1) (omega arith) (here_named w ws h)

  pub here_params : {σ : Env} {n : ℕ} (ps ws : List Word) → Here σ n (without_all ps ws) → Here (with_numbers ps n σ) (n + length ps) ws
  here_params {σ} {n} [] ws h = here_later (n + 0) (omega arith) h
  here_params {σ} {n} (p ∷ ps) ws h =
      let more = here_params ps ws (here_named p (without_all ps ws) h) in
      here_later (n + length (p ∷ ps)) (omega arith) more

  -- what an environment with the new names finds, and the one with the old names
  pub record Alike (σ ρ ρ' : Env) : Type 0 where
    pub known : (w : Word) (i : ℕ) → find_var σ w ≡ Some i → (x : ℕ) × (find_var ρ w ≡ Some x) × (find_var ρ' (call i) ≡ Some x)
    pub unknown : (w : Word) → find_var σ w ≡ None → find_var ρ w ≡ None
    pub others : (w : Word) → ((i : ℕ) → call i ≢ w) → find_var ρ' w ≡ None

  pub alike_none : Alike [] [] []
  alike_none = record { known = λ w i e. absurd cc; unknown = λ w e. refl; others = λ w n. refl }

  pub alike_named : AreApart call → {σ ρ ρ' : Env} {n : ℕ} {ws : List Word} → Here σ n ws → Alike σ ρ ρ' → (w : Word) (x : ℕ) → Alike ((w, n) ∷ σ) ((w, x) ∷ ρ) ((call n, x) ∷ ρ')
  alike_named far {σ} {ρ} {ρ'} {n} h a w x = record {
    known = λ v i e. seen v i (word_tells w v) e;
    unknown = λ v e. unseen v (word_tells w v) e;
    others = λ v none. other v none (word_tells (call n) v);
  }
    where
      mine : (i : ℕ) → n ≡ i → Tells (call n) (call i) → cond (bytes_eq (call n) (call i)) (Some x) (find_var ρ' (call i)) ≡ Some x
      mine i e (inl t) = rw t.0 refl
      mine i e (inr t) = absurd (t.1 (ap call e))

      older : (v : Word) (i : ℕ) → find_var σ v ≡ Some i → Tells (call n) (call i) → cond (bytes_eq (call n) (call i)) (Some x) (find_var ρ' (call i)) ≡ find_var ρ' (call i)
      older v i e (inl t) = let lt = h.below v i e in let same = far.apart n i t.1 in absurd (omega (arith, lt, same))
      older v i e (inr t) = rw t.0 refl

      seen : (v : Word) (i : ℕ) → Tells w v → cond (bytes_eq w v) (Some n) (find_var σ v) ≡ Some i
          → (y : ℕ) × (cond (bytes_eq w v) (Some x) (find_var ρ v) ≡ Some y) × (cond (bytes_eq (call n) (call i)) (Some x) (find_var ρ' (call i)) ≡ Some y)
      seen v i (inl t) e =
          let e2 : Some n ≡ Some i = rw t.0 at e in
          let same : n ≡ i = cc in
          (x, rw t.0 refl, mine i same (word_tells (call n) (call i)))
      seen v i (inr t) e =
          let e2 : find_var σ v ≡ Some i = rw t.0 at e in
          let k = a.known v i e2 in
          (k.0, rw t.0 k.1, older v i e2 (word_tells (call n) (call i)) ∙ k.2)

      unseen : (v : Word) → Tells w v → cond (bytes_eq w v) (Some n) (find_var σ v) ≡ None → cond (bytes_eq w v) (Some x) (find_var ρ v) ≡ None
      unseen v (inl t) e = let e2 : Some n ≡ None = rw t.0 at e in absurd cc
      unseen v (inr t) e = let e2 : find_var σ v ≡ None = rw t.0 at e in rw t.0 (a.unknown v e2)

      other : (v : Word) → ((i : ℕ) → call i ≢ v) → Tells (call n) v → cond (bytes_eq (call n) v) (Some x) (find_var ρ' v) ≡ None
      other v none (inl t) = absurd (none n t.1)
      other v none (inr t) = rw t.0 (a.others v none)
