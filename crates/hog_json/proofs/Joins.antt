-- Items that a loop writes with marks between them.
use Rattle.std.proofs.Common.{◌≡◌, ℕ, ◌+◌, List, [], ◌∷◌, ◌++◌, length, take, drop, refl, sym, ap, ◌∙◌, subst, arith, append_assoc, append-nil, length-append, take-append-drop}
use Rattle.std.specs.Prelude.{flat_map}
use Rattle.std.specs.List.{join_by}
use Rattle.std.proofs.lemmas.Grind.{flat_map-append}
use Rattle.hog_json.specs.Building.{Built, TooLong, added, mark_before}

module _ {X : Type 0} (f : X → List ℕ) (mark : List ℕ) where
  abbrev marked : X → List ℕ
  marked x = mark ++ f x

  -- one more item, with the mark before it
  join_push : (xs : List X) (x : X) → join_by f mark (xs ++ x ∷ []) ≡ join_by f mark xs ++ (mark_before mark (length xs) ++ f x)
  join_push [] x = append-nil (f x)
  join_push (y ∷ ys) x =
      ap (λ t. f y ++ t) (flat_map-append marked ys (x ∷ []) ∙ ap (λ t. flat_map marked ys ++ t) (append-nil (marked x)))
      ∙ sym (append_assoc (f y) (flat_map marked ys) (marked x))

  -- what the later items add
  join_front : (xs ys : List X) → (more : List ℕ) × (join_by f mark (xs ++ ys) ≡ join_by f mark xs ++ more)
  join_front [] ys = (join_by f mark ys, refl)
  join_front (x ∷ xs) ys =
      (flat_map marked ys, ap (λ t. f x ++ t) (flat_map-append marked xs ys) ∙ sym (append_assoc (f x) (flat_map marked xs) (flat_map marked ys)))

  module _ (xs : List X) (i : ℕ) (x : X) (next : take (i + 1) xs ≡ take i xs ++ x ∷ []) (here : length (take i xs) ≡ i) where
    -- the texts of the first i items, then a mark and the text of the item at i
    pub join_more : join_by f mark (take (i + 1) xs) ≡ join_by f mark (take i xs) ++ (mark_before mark i ++ f x)
    join_more = ap (join_by f mark) next ∙ join_push (take i xs) x ∙ ap (λ n. join_by f mark (take i xs) ++ (mark_before mark n ++ f x)) here

    pub join_all : (more : List ℕ) × (join_by f mark xs ≡ (join_by f mark (take i xs) ++ (mark_before mark i ++ f x)) ++ more)
    join_all =
        let front = join_front (take (i + 1) xs) (drop (i + 1) xs) in
        (front.0, ap (join_by f mark) (sym (take-append-drop (i + 1) xs)) ∙ front.1 ∙ ap (λ t. t ++ front.0) join_more)

-- a loop that adds a mark and then the text of an item, which may look at the open cells
module _ {X : Type 0} (f : List ℕ → X → List ℕ) (mark : List ℕ) (b : Built) (xs : List X) (i : ℕ) (x : X)
    (next : take (i + 1) xs ≡ take i xs ++ x ∷ []) (here : length (take i xs) ≡ i)
    (now : Built) (so_far : now ≡ added (join_by (f b.open_cells) mark (take i xs)) b) where
  pub mark_too_long : TooLong (mark_before mark i) now → TooLong (join_by (f b.open_cells) mark xs) b
  mark_too_long over =
      let at = subst (TooLong (mark_before mark i)) so_far over in
      let all = join_all (f b.open_cells) mark xs i x next here in
      rw all.1 (omega (arith, length-append {A = ℕ}))

  module _ (mid : Built) (marked_now : mid ≡ added (mark_before mark i) now) where
    marked_so_far : mid ≡ added (mark_before mark i) (added (join_by (f b.open_cells) mark (take i xs)) b)
    marked_so_far = marked_now ∙ ap (added (mark_before mark i)) so_far

    pub item_too_long : TooLong (f mid.open_cells x) mid → TooLong (join_by (f b.open_cells) mark xs) b
    item_too_long over =
        let at = subst (λ (m : Built). TooLong (f m.open_cells x) m) marked_so_far over in
        let all = join_all (f b.open_cells) mark xs i x next here in
        rw all.1 (omega (arith, length-append {A = ℕ}))

    pub item_added : (last : Built) → last ≡ added (f mid.open_cells x) mid → last ≡ added (join_by (f b.open_cells) mark (take (i + 1) xs)) b
    item_added last e =
        e
        ∙ ap (λ (m : Built). added (f m.open_cells x) m) marked_so_far
        ∙ ap (λ t. record b { text = t }) (append_assoc (b.text ++ join_by (f b.open_cells) mark (take i xs)) (mark_before mark i) (f b.open_cells x) ∙ append_assoc b.text _ _ ∙ ap (λ t. b.text ++ t) (sym (join_more (f b.open_cells) mark xs i x next here)))
