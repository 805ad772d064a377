-- Words in lists of words.
use Rattle.std.proofs.Common.{◌≡◌, ◌≢◌, ℕ, zero, List, [], ◌∷◌, ◌++◌, Option, Some, None, Bool, true, false, cond, refl, sym, ◌∙◌, subst, ◌⊎◌, inl, inr, ⊎_elim}
use Rattle.std.specs.Prelude.{bytes_eq}
use Rattle.std.proofs.lemmas.Slice.Eq.{bytes_eq-Decides}
use Rattle.hog_tree.specs.Plain.{Word}
use Rattle.hog_captures.specs.Frees.{without, without_all, without_name}
use Rattle.hog_captures.specs.Frames.{Frame, find_up, next_index, knows, captured_of}

-- two words are the same, or the test says that they aren't
abbrev pub Tells : Word → Word → Type 0
Tells x y = ((bytes_eq x y ≡ true) × (x ≡ y)) ⊎ ((bytes_eq x y ≡ false) × (x ≢ y))

pub word_tells : (x y : Word) → Tells x y
word_tells x y = go (bytes_eq x y) refl
  where
    go : (b : Bool) → bytes_eq x y ≡ b → Tells x y
    go true e = inl (e, (bytes_eq-Decides x y).0 e)
    go false e = inr (e, λ same. let t = (bytes_eq-Decides x y).1 same in absurd (cc))

-- the word is one of these
abbrev pub In : Word → List Word → Type 0
In x [] = ⊥
In x (y ∷ ys) = (y ≡ x) ⊎ In x ys

-- every word of the first is one of the second
pub record Sub (xs ys : List Word) : Type 0 where
  pub all : (x : Word) → In x xs → In x ys

pub in_left : (x : Word) (xs ys : List Word) → In x xs → In x (xs ++ ys)
in_left x [] ys h = absurd h
in_left x (y ∷ xs) ys (inl h) = inl h
in_left x (y ∷ xs) ys (inr h) = inr (in_left x xs ys h)

pub in_right : (x : Word) (xs ys : List Word) → In x ys → In x (xs ++ ys)
in_right x [] ys h = h
in_right x (y ∷ xs) ys h = inr (in_right x xs ys h)

pub sub_same : (xs : List Word) → Sub xs xs
sub_same xs = record { all = λ x h. h }

pub sub_left : {ws : List Word} (xs ys : List Word) → Sub (xs ++ ys) ws → Sub xs ws
sub_left xs ys s = record { all = λ x h. s.all x (in_left x xs ys h) }

pub sub_right : {ws : List Word} (xs ys : List Word) → Sub (xs ++ ys) ws → Sub ys ws
sub_right xs ys s = record { all = λ x h. s.all x (in_right x xs ys h) }

pub in_without : (x y : Word) (ws : List Word) → In y ws → (x ≡ y) ⊎ In y (without x ws)
in_without x y [] h = absurd h
in_without x y (z ∷ ws) h = go (word_tells z x) h (in_without x y ws)
  where
    go : Tells z x → (z ≡ y) ⊎ In y ws → (In y ws → (x ≡ y) ⊎ In y (without x ws)) → (x ≡ y) ⊎ In y (without x (z ∷ ws))
    go (inl t) (inl h) ih = inl (sym t.1 ∙ h)
    go (inl t) (inr h) ih = ⊎_elim (λ e. inl e) (λ k. inr (rw t.0 k)) (ih h)
    go (inr t) (inl h) ih = inr (rw t.0 (inl h))
    go (inr t) (inr h) ih = ⊎_elim (λ e. inl e) (λ k. inr (rw t.0 (inr k))) (ih h)

-- past the declaration of x
pub sub_past : {ws : List Word} (x : Word) (xs : List Word) → Sub (without x xs) ws → Sub xs (x ∷ ws)
sub_past x xs s = record { all = λ y h. ⊎_elim (λ e. inl e) (λ k. inr (s.all y k)) (in_without x y xs h) }

-- the words with one that a statement declares, where it declares one
abbrev pub with_word : Option Word → List Word → List Word
with_word None ws = ws
with_word (Some w) ws = w ∷ ws

pub sub_name : {ws : List Word} (n : Option Word) (xs : List Word) → Sub (without_name n xs) ws → Sub xs (with_word n ws)
sub_name None xs s = s
sub_name (Some w) xs s = sub_past w xs s

-- parameters on words
abbrev pub onto : List Word → List Word → List Word
onto [] acc = acc
onto (p ∷ ps) acc = onto ps (p ∷ acc)

pub sub_params : (ps ws acc : List Word) → Sub (without_all ps ws) acc → Sub ws (onto ps acc)
sub_params [] ws acc s = s
sub_params (p ∷ ps) ws acc s = sub_params ps ws (p ∷ acc) (sub_past p (without_all ps ws) s)

pub next_none : (o : Option ℕ) → next_index o ≡ None → o ≡ None
next_none None q = refl
next_none (Some i) q = absurd (cc)

-- a word is found where it is in the list
pub in_found : (x : Word) (ws : List Word) → In x ws → find_up ws x ≡ None → ⊥
in_found x [] h e = h
in_found x (y ∷ ws) h e = go (word_tells y x) h (in_found x ws)
  where
    go : Tells y x → (y ≡ x) ⊎ In x ws → (In x ws → find_up ws x ≡ None → ⊥) → ⊥
    go (inl t) h ih = let e1 : Some zero ≡ None = rw t.0 at e in cc
    go (inr t) (inl h) ih = t.1 h
    go (inr t) (inr h) ih = ih h (next_none (find_up ws x) (rw t.0 at e))

pub out_without : (x y : Word) (ws : List Word) → In y (without x ws) → In y ws
out_without x y [] h = h
out_without x y (z ∷ ws) h = go (bytes_eq z x) h (out_without x y ws)
  where
    go : (b : Bool) → In y (cond b (without x ws) (z ∷ without x ws)) → (In y (without x ws) → In y ws) → In y (z ∷ ws)
    go true h ih = inr (ih h)
    go false (inl h) ih = inl h
    go false (inr h) ih = inr (ih h)

-- a captured word is one of the words, and known
pub captured_known : (fr : Frame) (ws : List Word) (x : Word) → In x (captured_of fr ws) → In x ws × (knows fr x ≡ true)
captured_known fr [] x h = absurd h
captured_known fr (w ∷ ws) x h = go (knows fr w) refl h (captured_known fr ws x)
  where
    go : (b : Bool) → knows fr w ≡ b → In x (cond b (w ∷ without w (captured_of fr ws)) (captured_of fr ws)) → (In x (captured_of fr ws) → In x ws × (knows fr x ≡ true)) → In x (w ∷ ws) × (knows fr x ≡ true)
    go true e (inl h) ih = (inl h, subst (λ z. knows fr z ≡ true) h e)
    go true e (inr h) ih = let r = ih (out_without w x (captured_of fr ws) h) in (inr r.0, r.1)
    go false e h ih = let r = ih h in (inr r.0, r.1)

-- a known word is captured
pub known_captured : (fr : Frame) (ws : List Word) (x : Word) → In x ws → knows fr x ≡ true → In x (captured_of fr ws)
known_captured fr [] x h k = h
known_captured fr (w ∷ ws) x h k = go (knows fr w) refl h (λ j. known_captured fr ws x j k)
  where
    go : (b : Bool) → knows fr w ≡ b → (w ≡ x) ⊎ In x ws → (In x ws → In x (captured_of fr ws)) → In x (cond b (w ∷ without w (captured_of fr ws)) (captured_of fr ws))
    go true e (inl h) ih = inl h
    go true e (inr h) ih = in_without w x (captured_of fr ws) (ih h)
    go false e (inl h) ih =
        let e2 = subst (λ z. knows fr z ≡ false) h e in absurd (cc)
    go false e (inr h) ih = ih h

-- a word that is found is one of the words
pub found_in : (ws : List Word) (x : Word) (o : Option ℕ) → find_up ws x ≡ o → (o ≡ None) ⊎ In x ws
found_in [] x o e = inl (sym e)
found_in (y ∷ ws) x o e = ⊎_elim (λ t. inr (inl t.1)) (λ t. later t.0 (found_in ws x (find_up ws x) refl)) (word_tells y x)
  where
    later : bytes_eq y x ≡ false → (find_up ws x ≡ None) ⊎ In x ws → (o ≡ None) ⊎ In x (y ∷ ws)
    later t (inl n) = inl (sym e ∙ rw (t, n) refl)
    later t (inr i) = inr (inr i)
