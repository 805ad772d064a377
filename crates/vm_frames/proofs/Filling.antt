-- The values above a floor, and those that are put on top one after the other.
use Rattle.std.proofs.Common.{◌≡◌, ◌<◌, ◌≤◌, ◌+◌, ◌-◌, ℕ, List, [], ◌∷◌, ◌++◌, length, take, drop, get_or, All, arith, ap, ap₂, sym, subst, ◌∙◌, length-drop}
use Rattle.std.proofs.lemmas.List.{reverse-append, reverse-reverse, length-reverse, take-append-drop, take_all, take_more}
use Rattle.std.proofs.lemmas.List.Elements.{All-head, All-tail, All-push, All-nil}
use Rattle.std.proofs.Math.Seq.{take-append_seam}
use Rattle.std.specs.Prelude.{reverse, slice_range}
use Rattle.vm_frames.proofs.Lists.{reverse-cons, reverse-snoc}

module _ {A : Type 0} where
  -- the values of the vector from a place on are the topmost of the stack
  pub above-reverse : (xs : List A) (k : ℕ) → k ≤ length xs → reverse (slice_range xs k (length xs)) ≡ slice_range (reverse xs) 0 (length (reverse xs) - k)
  above-reverse xs k few =
      let top = reverse (drop k xs) in
      let rest = reverse (take k xs) in
      let whole : reverse xs ≡ top ++ rest = ap reverse (sym (take-append-drop k xs)) ∙ reverse-append (take k xs) (drop k xs) in
      let count : length (reverse xs) - k - 0 ≡ length top = omega (arith, length-reverse xs, length-reverse (drop k xs), length-drop k xs) in
      ap reverse (take_all (length xs - k) (drop k xs) (omega (arith, length-drop k xs)))
      ∙ sym (ap₂ take count whole ∙ take-append_seam top rest)

  -- one value more on top
  pub top-more : (xs ys : List A) (i : ℕ) (d : A) → i < length xs → get_or xs i d ∷ (reverse (take i xs) ++ ys) ≡ reverse (take (i + 1) xs) ++ ys
  top-more xs ys i d within =
      ap (λ zs. zs ++ ys) (sym (ap reverse (take_more xs i d within) ∙ reverse-snoc (take i xs) (get_or xs i d)))

  -- what holds of each value, in the other order
  All-turned : (P : A → Type 0) (xs : List A) → All P xs → All P (reverse xs)
  All-turned P [] all = All-nil P
  All-turned P (x ∷ xs) all = subst (All P) (sym (reverse-cons x xs)) (All-push P (reverse xs) x (All-turned P xs (All-tail P x xs all)) (All-head P x xs all))

  pub All-reverse : (P : A → Type 0) (xs : List A) → All P (reverse xs) → All P xs
  All-reverse P xs all = subst (All P) (reverse-reverse xs) (All-turned P (reverse xs) all)
