-- Texts that are joined one after the other.
use Rattle.std.proofs.Common.{◌≡◌, ◌<◌, ◌≤◌, ◌+◌, ℕ, zero, suc, List, [], ◌∷◌, ◌++◌, length, take, drop, get_or, arith, refl, ap, sym, ◌∙◌, append_assoc, append-nil, length-append}
use Rattle.std.specs.List.{join_by, flat_map}
use Rattle.std.proofs.lemmas.Grind.{flat_map-append}
use Rattle.std.proofs.lemmas.List.{take-append-drop, take_more, length-take-le}

module _ {X : Type 0} (f : X → List ℕ) (mark : List ℕ) where
  -- an item with the mark before it
  abbrev pub marked : X → List ℕ
  marked y = mark ++ f y

  -- one more item
  join_snoc : (ys : List X) (x : X) → 0 < length ys → join_by f mark (ys ++ x ∷ []) ≡ join_by f mark ys ++ (mark ++ f x)
  join_snoc [] x full = absurd (omega arith)
  join_snoc (y ∷ ys) x full =
      ap (λ t. f y ++ t) (flat_map-append marked ys (x ∷ []) ∙ ap (λ t. flat_map marked ys ++ t) (append-nil (marked x)))
      ∙ sym (append_assoc (f y) (flat_map marked ys) (marked x))

  pub join_more : (xs : List X) (i : ℕ) (d : X) → 1 ≤ i → i < length xs → join_by f mark (take (i + 1) xs) ≡ join_by f mark (take i xs) ++ (mark ++ f (get_or xs i d))
  join_more xs i d some within =
      ap (join_by f mark) (take_more xs i d within)
      ∙ join_snoc (take i xs) (get_or xs i d) (omega (arith, length-take-le i xs (omega arith)))

  -- what is joined so far is the front of what is joined in the end
  pub join_split : (xs : List X) (k : ℕ) → 1 ≤ k → join_by f mark xs ≡ join_by f mark (take k xs) ++ flat_map marked (drop k xs)
  join_split xs zero some = absurd (omega arith)
  join_split [] (suc k) some = refl
  join_split (x ∷ xs) (suc k) some =
      ap (λ t. f x ++ t) (ap (flat_map marked) (sym (take-append-drop k xs)) ∙ flat_map-append marked (take k xs) (drop k xs))
      ∙ sym (append_assoc (f x) (flat_map marked (take k xs)) (flat_map marked (drop k xs)))

  -- what is longer than so many bytes already is so in the end
  pub longer_in_end : (xs : List X) (i : ℕ) (d : X) (made : List ℕ) (n : ℕ) → 1 ≤ i → i < length xs → made ≡ join_by f mark (take i xs)
      → n < length (made ++ (mark ++ f (get_or xs i d))) → n < length (join_by f mark xs)
  longer_in_end xs i d made n some within so_far long =
      let more = mark ++ f (get_or xs i d) in
      let front = join_by f mark (take (i + 1) xs) in
      let is : made ++ more ≡ front = ap (λ t. t ++ more) so_far ∙ sym (join_more xs i d some within) in
      let whole = join_split xs (i + 1) (omega arith) in
      omega (arith, ap length whole, length-append front (flat_map marked (drop (i + 1) xs)), ap length is, long)
