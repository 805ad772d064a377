-- Reading JSON into cells, part by part.
use Rattle.std.proofs.Common.{◌≡◌, ◌≤◌, ℕ, List, [], ◌∷◌, ◌++◌, length, string_bytes, refl, sym, ap, ◌∙◌, arith, length-append, append_assoc}
use Rattle.serde_json.specs.View.{view, items_view, members_view}
use Rattle.serde_json.specs.declared.value.Value.{Value}
use Rattle.serde_json.proofs.Views.{Entry}
use Rattle.hog_value.specs.declared.value.Value.TheVariants.{Null, Bool as Truth, Int, Ref}
use Rattle.hog_value.specs.Values.{Val, NamesBelow}
use Rattle.hog_value.specs.Cells.{HeapOf}
use Rattle.hog_value.specs.Operations.{Outcome, Gives, Throws, Spends}
use Rattle.hog_json.specs.Reading.{outcome_and_then, read_cells, read_items, read_members, Grows}

-- three operations, one after another, however they are grouped
pub outcome_and_then_assoc : {F A B C : Type 0} (o : Outcome F A) (f : A → HeapOf F → ℕ → Outcome F B) (g : B → HeapOf F → ℕ → Outcome F C)
    → outcome_and_then (outcome_and_then o f) g ≡ outcome_and_then o (λ a h units. outcome_and_then (f a h units) g)
outcome_and_then_assoc (Gives a h units) f g = refl
outcome_and_then_assoc (Throws kind) f g = refl
outcome_and_then_assoc Spends f g = refl

-- the same operation, and then operations that do the same
pub outcome_and_then_same : {F A B : Type 0} (o : Outcome F A) (f g : A → HeapOf F → ℕ → Outcome F B) → ((a : A) (h : HeapOf F) (units : ℕ) → f a h units ≡ g a h units)
    → outcome_and_then o f ≡ outcome_and_then o g
outcome_and_then_same (Gives a h units) f g same = same a h units
outcome_and_then_same (Throws kind) f g same = refl
outcome_and_then_same Spends f g same = refl

module _ {F : Type 0} where
  -- some items and then others
  pub read_items_append : (xs ys : List Value) (h : HeapOf F) (units : ℕ)
      → read_items (items_view (xs ++ ys)) h units
      ≡ outcome_and_then (read_items (items_view xs) h units) (λ vs h1 units1. outcome_and_then (read_items (items_view ys) h1 units1) (λ ws. Gives (vs ++ ws)))
  read_items_append [] ys h units = same (read_items (items_view ys) h units)
    where
      same : (o : Outcome F (List Val)) → o ≡ outcome_and_then o (λ ws. Gives ws)
      same (Gives vs h1 units1) = refl
      same (Throws kind) = refl
      same Spends = refl
  read_items_append (x ∷ xs) ys h units =
      outcome_and_then_same (read_cells (view x) h units) _ _ (λ v h1 units1.
      ap (λ o. outcome_and_then o (λ vs. Gives (v ∷ vs))) (read_items_append xs ys h1 units1)
      ∙ outcome_and_then_assoc (read_items (items_view xs) h1 units1) _ _
      ∙ outcome_and_then_same (read_items (items_view xs) h1 units1) _ _ (λ vs h2 units2. outcome_and_then_assoc (read_items (items_view ys) h2 units2) _ _)
      ∙ sym (outcome_and_then_assoc (read_items (items_view xs) h1 units1) _ _))
      ∙ sym (outcome_and_then_assoc (read_cells (view x) h units) _ _)

  -- some members and then others
  pub read_members_append : (es fs : List Entry) (h : HeapOf F) (units : ℕ)
      → read_members (members_view (es ++ fs)) h units
      ≡ outcome_and_then (read_members (members_view es) h units) (λ ps h1 units1. outcome_and_then (read_members (members_view fs) h1 units1) (λ qs. Gives (ps ++ qs)))
  read_members_append [] fs h units = same (read_members (members_view fs) h units)
    where
      same : (o : Outcome F (List (List ℕ × Val))) → o ≡ outcome_and_then o (λ qs. Gives qs)
      same (Gives vs h1 units1) = refl
      same (Throws kind) = refl
      same Spends = refl
  read_members_append (e ∷ es) fs h units =
      outcome_and_then_same (read_cells (view e.1) h units) _ _ (λ v h1 units1.
      ap (λ o. outcome_and_then o (λ ps. Gives ((string_bytes e.0, v) ∷ ps))) (read_members_append es fs h1 units1)
      ∙ outcome_and_then_assoc (read_members (members_view es) h1 units1) _ _
      ∙ outcome_and_then_same (read_members (members_view es) h1 units1) _ _ (λ ps h2 units2. outcome_and_then_assoc (read_members (members_view fs) h2 units2) _ _)
      ∙ sym (outcome_and_then_assoc (read_members (members_view es) h1 units1) _ _))
      ∙ sym (outcome_and_then_assoc (read_cells (view e.1) h units) _ _)

  module _ (xs : List Value) (x : Value) (h : HeapOf F) (units : ℕ) (vs : List Val) (h1 : HeapOf F) (units1 : ℕ)
      (before : read_items (items_view xs) h units ≡ Gives vs h1 units1) where
    -- one more item
    pub one_more_item : (v : Val) (h2 : HeapOf F) (units2 : ℕ) → read_cells (view x) h1 units1 ≡ Gives v h2 units2
        → read_items (items_view (xs ++ x ∷ [])) h units ≡ Gives (vs ++ v ∷ []) h2 units2
    one_more_item v h2 units2 one = read_items_append xs (x ∷ []) h units ∙ rw (before, one) refl

    -- an item that doesn't fit
    pub item_spends : (rest : List Value) → read_cells (view x) h1 units1 ≡ Spends → read_items (items_view (xs ++ x ∷ rest)) h units ≡ Spends
    item_spends rest one = read_items_append xs (x ∷ rest) h units ∙ rw (before, one) refl

  module _ (es : List Entry) (e : Entry) (h : HeapOf F) (units : ℕ) (ps : List (List ℕ × Val)) (h1 : HeapOf F) (units1 : ℕ)
      (before : read_members (members_view es) h units ≡ Gives ps h1 units1) where
    -- one more member
    pub one_more_member : (v : Val) (h2 : HeapOf F) (units2 : ℕ) → read_cells (view e.1) h1 units1 ≡ Gives v h2 units2
        → read_members (members_view (es ++ e ∷ [])) h units ≡ Gives (ps ++ (string_bytes e.0, v) ∷ []) h2 units2
    one_more_member v h2 units2 one = read_members_append es (e ∷ []) h units ∙ rw (before, one) refl

    -- a member that doesn't fit
    pub member_spends : (rest : List Entry) → read_cells (view e.1) h1 units1 ≡ Spends → read_members (members_view (es ++ e ∷ rest)) h units ≡ Spends
    member_spends rest one = read_members_append es (e ∷ rest) h units ∙ rw (before, one) refl

  -- growing twice is growing
  pub Grows-trans : (a b c : HeapOf F) → Grows a b → Grows b c → Grows a c
  Grows-trans a b c g1 g2 = (g1.0 ++ g2.0, g2.1 ∙ ap (λ x. x ++ g2.0) g1.1 ∙ append_assoc a g1.0 g2.0)

  -- a heap that grew has as many cells at least
  pub Grows-length : (a b : HeapOf F) → Grows a b → length a ≤ length b
  Grows-length a b g = let e = ap length g.1 in omega (arith, length-append a g.0)

-- a value that names one of the first cells names one of more
pub NamesBelow-more : (m n : ℕ) → m ≤ n → (v : Val) → NamesBelow m v → NamesBelow n v
NamesBelow-more m n more Null names = tt
NamesBelow-more m n more (Truth b) names = tt
NamesBelow-more m n more (Int z) names = tt
NamesBelow-more m n more (Ref r) names = omega arith
