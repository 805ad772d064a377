-- Texts that are made into cells one after the other.
use Rattle.std.proofs.Common.{◌≡◌, ◌<◌, ◌≤◌, ◌+◌, ◌*◌, ◌⊎◌, ℕ, zero, suc, List, [], ◌∷◌, ◌++◌, length, map, All, arith, refl, ap, sym, ◌∙◌, append_assoc, append-nil, add-zero, length-append, ⊎_elim}
use Rattle.std.specs.Prelude.{pos, sum_by}
use Rattle.std.proofs.lemmas.List.FromFn.{length-map-range_with_len}
use Rattle.hog_library.specs.Natives.{numbers_to}
use Rattle.std.specs.List.{range_with_len}
use Rattle.std.proofs.lemmas.List.Sums.{sum_by-cons}
use Rattle.std.proofs.lemmas.List.Elements.{All-cons, All-nil}
use Rattle.hog_value.specs.Values.{Val, NamesBelow}
use Rattle.hog_value.specs.declared.value.Value.TheVariants.{Ref, Int}
use Rattle.hog_value.specs.Meters.{max_units}
use Rattle.hog_value.specs.Cells.{HeapOf, Text, Array}
use Rattle.hog_value.specs.Operations.{Outcome, Gives, Spends, charged, made}
use Rattle.hog_value.proofs.Charges.{charged-fits, charged-spends}
use Rattle.hog_json.specs.Reading.{outcome_and_then}
use Rattle.hog_library.specs.Cells.{texts_made, array_of_texts, cost_of_item, cost_of_items}

-- the units that making a text costs
abbrev pub cost_of_text : List ℕ → ℕ
cost_of_text t = 8 + length t

-- the numbers of so many cells, from n on
abbrev pub numbers : ℕ → ℕ → List Val
numbers n count = map Ref (range_with_len n count)

pub length-numbers : (n count : ℕ) → length (numbers n count) ≡ count
length-numbers n zero = refl
length-numbers n (suc count) = ap suc (length-numbers (n + 1) count)

-- there are n numbers from 1 to n
pub length-numbers_to : (n : ℕ) → length (numbers_to n) ≡ n
length-numbers_to n = length-map-range_with_len (λ k. Int (pos k)) 1 n

-- one more
pub numbers_more : (n count : ℕ) → numbers n (suc count) ≡ numbers n count ++ Ref (n + count) ∷ []
numbers_more n zero = ap (λ k. Ref k ∷ []) (sym (add-zero n))
numbers_more n (suc count) =
    let place : n + 1 + count ≡ n + suc count = omega arith in
    ap (λ vs. Ref n ∷ vs) (numbers_more (n + 1) count ∙ ap (λ k. numbers (n + 1) count ++ Ref k ∷ []) place)

-- they name cells of a heap that has as many
pub numbers_name : (n count m : ℕ) → n + count ≤ m → All (NamesBelow m) (numbers n count)
numbers_name n zero m few = All-nil _
numbers_name n (suc count) m few = All-cons (NamesBelow m) (Ref n) (numbers (n + 1) count) (omega arith) (numbers_name (n + 1) count m (omega arith))

same_gives : {F A : Type 0} (a b : A) (h g : HeapOf F) (units left : ℕ) → a ≡ b → h ≡ g → units ≡ left → Gives a h units ≡ Gives b g left
same_gives a b h g units left p q r = cc

fits_or_not : (n most : ℕ) → (n ≤ most) ⊎ (most < n)
fits_or_not n most = grind arith

-- what the texts cost, and what each is charged as an item
pub items_cost : (ts : List (List ℕ)) → cost_of_items ts ≡ sum_by cost_of_text ts + 8 * length ts
items_cost [] = refl
items_cost (t ∷ ts) = omega (arith, items_cost ts, sum_by-cons cost_of_item t ts, sum_by-cons cost_of_text t ts)

module _ {F : Type 0} where
  -- making texts is one charge
  pub texts_made-charged : (ts : List (List ℕ)) (h : HeapOf F) (units : ℕ) → units ≤ max_units
      → texts_made ts h units ≡ charged (sum_by cost_of_text ts) (numbers (length h) (length ts)) (h ++ map Text ts) units
  unfolding made
  texts_made-charged [] h units fits =
      same_gives [] [] h (h ++ []) units (units + 0) refl (sym (append-nil h)) (omega arith) ∙ sym (charged-fits 0 [] (h ++ []) units (omega arith))
  texts_made-charged (t ∷ ts) h units fits =
      let cost = cost_of_text t in
      let others = sum_by cost_of_text ts in
      let next : Val → HeapOf F → ℕ → Outcome F (List Val) = λ v h1 units1. outcome_and_then (texts_made ts h1 units1) (λ vs. Gives (v ∷ vs)) in
      let end : List Val → HeapOf F → ℕ → Outcome F (List Val) = λ vs. Gives (Ref (length h) ∷ vs) in
      let h1 = h ++ Text t ∷ [] in
      let total : cost + others ≡ sum_by cost_of_text (t ∷ ts) = sym (sum_by-cons cost_of_text t ts) in
      let whole : Outcome F (List Val) = charged (cost + others) (numbers (length h) (length (t ∷ ts))) (h ++ map Text (t ∷ ts)) units in
      let sums : texts_made (t ∷ ts) h units ≡ whole = ⊎_elim
      (λ room.
      let first : made (Text t) h units ≡ Gives (Ref (length h)) h1 (units + cost) = charged-fits cost (Ref (length h)) h1 units room in
      let rest = texts_made-charged ts h1 (units + cost) room in
      ⊎_elim
      (λ all.
      ap (λ o. outcome_and_then o next) first
      ∙ ap (λ o. outcome_and_then o end) (rest ∙ charged-fits others _ _ (units + cost) all)
      ∙ same_gives _ _ _ _ _ _ (ap (λ n. Ref (length h) ∷ numbers n (length ts)) (length-append h (Text t ∷ []))) (append_assoc h (Text t ∷ []) (map Text ts)) (omega arith)
      ∙ sym (charged-fits (cost + others) _ _ units (omega (arith, all))))
      (λ short.
      ap (λ o. outcome_and_then o next) first
      ∙ ap (λ o. outcome_and_then o end) (rest ∙ charged-spends others _ _ (units + cost) short)
      ∙ sym (charged-spends (cost + others) _ _ units (omega (arith, short))))
      (fits_or_not (units + cost + others) max_units))
      (λ short.
      ap (λ o. outcome_and_then o next) (charged-spends cost (Ref (length h)) h1 units short)
      ∙ sym (charged-spends (cost + others) _ _ units (omega (arith, short))))
      (fits_or_not (units + cost) max_units) in
      sums ∙ ap (λ n. charged n (numbers (length h) (length (t ∷ ts))) (h ++ map Text (t ∷ ts)) units) total

  -- where new texts and an array of them cost more than is left, they can't be made
  pub array_spends : (ts : List (List ℕ)) (h : HeapOf F) (units left : ℕ) → left + units ≡ max_units → left < cost_of_items ts → array_of_texts ts h units ≡ Spends
  unfolding array_of_texts made
  array_spends ts h units left is short =
      let cost = sum_by cost_of_text ts in
      let vs = numbers (length h) (length ts) in
      let all = texts_made-charged ts h units (omega arith) in
      let items = items_cost ts in
      let count = length-numbers (length h) (length ts) in
      let next : List Val → HeapOf F → ℕ → Outcome F Val = λ vs. made (Array vs) in
      ⊎_elim
      (λ room.
      ap (λ o. outcome_and_then o next) (all ∙ charged-fits cost _ _ units room)
      ∙ charged-spends (8 + 8 * length vs) _ _ (units + cost) (omega (arith, items, count)))
      (λ over. ap (λ o. outcome_and_then o next) (all ∙ charged-spends cost _ _ units over))
      (fits_or_not (units + cost) max_units)
