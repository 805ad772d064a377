-- Operators, access and setting look into no function, and keep texts and functions.
use Rattle.std.proofs.Common.{◌≡◌, ℕ, zero, suc, ◌+◌, ℤ, List, [], ◌∷◌, ◌++◌, length, Bool, true, false, cond, Option, Some, None, Result, Ok, Err, refl, ap, ap₂, ◌∙◌}
use Rattle.std.specs.Prelude.{◌||◌, ◌&&◌, ◌==◌, is_some, not, nat_lt, nat_le, option_and_then, option_map, slice_get, slice_set, bytes_eq}
use Rattle.std.specs.List.{list_any}
use Rattle.std.specs.Map.{lookup}
use Rattle.std.specs.declared.cmp.Ordering.{Ordering}
use Rattle.std.proofs.lemmas.Option.{none-some, slice_get-map}
use Rattle.indexmap.specs.IndexMap.{insert_entry}
use Rattle.hog_value.specs.declared.value.Kind.{Kind}
use Rattle.hog_value.specs.Values.{Val}
use Rattle.hog_value.specs.declared.value.Value.TheVariants.{Null, Bool as Truth, Int, Ref}
use Rattle.hog_value.specs.Meters.{max_units}
use Rattle.hog_value.specs.Cells.{CellOf, Text, Array, Dict, Fun, HeapOf, cell_map, heap_map, text_of, items_of, pairs_of, text_at, items_at, pairs_at, cost_of_pair}
use Rattle.hog_value.specs.Operations.{Outcome, Gives, Spends, outcome_map, charged, made, key_of, set_item_in, set_item_of, set_key_in, set_key_of, place_of}
use Rattle.hog_value.proofs.Naturality.{text_at-heap_map, made-heap_map, item_of-heap_map, key_of-heap_map, set_item_of-heap_map, set_key_of-heap_map, same_of-heap_map, truth_of-heap_map}
use Rattle.hog_json.specs.Texts.{named_text}
use Rattle.hog_library.proofs.TextNaturality.{text_same}
use Rattle.hog_tree.specs.declared.tree.BinaryOp.{BinaryOp}
use Rattle.hog_tree.specs.declared.tree.BinaryOp.TheVariants as o
use Rattle.hog_meaning.specs.Operators as m
use Rattle.hog_meaning.specs.Operators.{order_of, order_of_texts, tested, compared, is_in_cell, is_in, has_key, part_of, truth_result, operated, read_by, set_by, outcome_of, accessed, property_of, nullish_property_of, assigned, property_assigned, dictionary_made}
use Rattle.hog_bridge.proofs.Heaps.{fun_of, FunIs, AllFuns, keeps_set, Fair, made_fair}

module _ {F G : Type 0} (f : F → G) (h : HeapOf F) where
  order_same : (x y : Val) → order_of (heap_map f h) x y ≡ order_of h x y
  order_same Null y = refl
  order_same (Truth b) y = refl
  order_same (Int x) Null = refl
  order_same (Int x) (Truth b) = refl
  order_same (Int x) (Int y) = refl
  order_same (Int x) (Ref n) = refl
  order_same (Ref n) Null = refl
  order_same (Ref n) (Truth b) = refl
  order_same (Ref n) (Int y) = refl
  order_same (Ref n) (Ref k) = ap₂ order_of_texts (text_at-heap_map f h n) (text_at-heap_map f h k)

  compared_same : (test : Ordering → Bool) (x y : Val) → compared (heap_map f h) test x y ≡ compared h test x y
  compared_same test x y = ap (tested test) (order_same x y)

  in_cell_same : (x : Val) (c : Option (CellOf F)) → is_in_cell (heap_map f h) x (option_map (cell_map f) c) ≡ is_in_cell h x c
  in_cell_same x None = refl
  in_cell_same x (Some (Text t)) = ap (λ s. part_of s t) (text_same f h x)
  in_cell_same x (Some (Array vs)) = ap (λ (p : Val → Bool). Ok (list_any p vs)) (λ i v. same_of-heap_map f h v x i)
  in_cell_same x (Some (Dict ps)) = ap (λ s. Ok (has_key s ps)) (text_same f h x)
  in_cell_same x (Some (Fun g)) = refl

  is_in_same : (x y : Val) → is_in (heap_map f h) x y ≡ is_in h x y
  is_in_same x Null = refl
  is_in_same x (Truth b) = refl
  is_in_same x (Int z) = refl
  is_in_same x (Ref n) = ap (is_in_cell (heap_map f h) x) (slice_get-map (cell_map f) h n) ∙ in_cell_same x (slice_get h n)

  pub operated-heap_map : (op : BinaryOp) (x y : Val) → operated op (heap_map f h) x y ≡ operated op h x y
  unfolding operated
  operated-heap_map o.Or x y = ap₂ (λ a b. Ok (Truth (a || b))) (truth_of-heap_map f h x) (truth_of-heap_map f h y)
  operated-heap_map o.And x y = ap₂ (λ a b. Ok (Truth (a && b))) (truth_of-heap_map f h x) (truth_of-heap_map f h y)
  operated-heap_map o.Equal x y = ap (λ b. Ok (Truth b)) (same_of-heap_map f h x y)
  operated-heap_map o.NotEqual x y = ap (λ b. Ok (Truth (not b))) (same_of-heap_map f h x y)
  operated-heap_map o.Less x y = compared_same m.is_less x y
  operated-heap_map o.LessEqual x y = compared_same (λ order. not (m.is_greater order)) x y
  operated-heap_map o.Greater x y = compared_same m.is_greater x y
  operated-heap_map o.GreaterEqual x y = compared_same (λ order. not (m.is_less order)) x y
  operated-heap_map o.IsIn x y = ap (truth_result (λ b. b)) (is_in_same x y)
  operated-heap_map o.NotIn x y = ap (truth_result not) (is_in_same x y)
  operated-heap_map o.Plus x y = refl
  operated-heap_map o.Minus x y = refl
  operated-heap_map o.Times x y = refl

  pub accessed-heap_map : (base key : Val) → accessed (heap_map f h) base key ≡ accessed h base key
  unfolding accessed
  accessed-heap_map Null key = refl
  accessed-heap_map (Truth b) key = refl
  accessed-heap_map (Int z) key = refl
  accessed-heap_map (Ref n) Null = refl
  accessed-heap_map (Ref n) (Truth b) = refl
  accessed-heap_map (Ref n) (Int z) = item_of-heap_map f h n z
  accessed-heap_map (Ref n) (Ref k) =
      ap (λ o. read_by o (key_of (heap_map f h) n)) (text_at-heap_map f h k)
      ∙ ap (λ (go : List ℕ → Result Val Kind). read_by (text_at h k) go) (λ i key. key_of-heap_map f h n key i)

  set_by_same : (t : Option (List ℕ)) (n : ℕ) (v : Val) (units : ℕ) → set_by t (λ key. set_key_of (heap_map f h) n key v units) ≡ outcome_map f (set_by t (λ key. set_key_of h n key v units))
  set_by_same None n v units = refl
  set_by_same (Some key) n v units = set_key_of-heap_map f h n key v units

  pub assigned-heap_map : (base key v : Val) (units : ℕ) → assigned (heap_map f h) base key v units ≡ outcome_map f (assigned h base key v units)
  unfolding assigned
  assigned-heap_map Null key v units = refl
  assigned-heap_map (Truth b) key v units = refl
  assigned-heap_map (Int z) key v units = refl
  assigned-heap_map (Ref n) Null v units = refl
  assigned-heap_map (Ref n) (Truth b) v units = refl
  assigned-heap_map (Ref n) (Int z) v units = set_item_of-heap_map f h n z v units
  assigned-heap_map (Ref n) (Ref k) v units =
      ap (λ o. set_by o (λ key. set_key_of (heap_map f h) n key v units)) (text_at-heap_map f h k) ∙ set_by_same (text_at h k) n v units

  read_by_same : {A : Type 0} (s t : Option (List ℕ)) (go go2 : List ℕ → Result A Kind) → s ≡ t → ((key : List ℕ) → go key ≡ go2 key) → read_by s go ≡ read_by t go2
  read_by_same None None go go2 e k = refl
  read_by_same (Some x) (Some y) go go2 e k = let same : x ≡ y = cc in k x ∙ ap go2 same
  read_by_same None (Some y) go go2 e k = absurd (cc)
  read_by_same (Some x) None go go2 e k = absurd (cc)

  pairs_same : (kvs : List (Val × Val)) (ps : List (List ℕ × Val)) → m.pairs_of (heap_map f h) kvs ps ≡ m.pairs_of h kvs ps
  pairs_same [] ps = refl
  pairs_same (kv ∷ kvs) ps =
      read_by_same (named_text (heap_map f h) kv.0) (named_text h kv.0) (λ key. m.pairs_of (heap_map f h) kvs (insert_entry bytes_eq ps key kv.1)) (λ key. m.pairs_of h kvs (insert_entry bytes_eq ps key kv.1))
      (text_same f h kv.0) (λ key. pairs_same kvs (insert_entry bytes_eq ps key kv.1))

  made_of_same : (r : Result (List (List ℕ × Val)) Kind) (units : ℕ) → outcome_of r (λ ps. made (Dict ps) (heap_map f h) units) ≡ outcome_map f (outcome_of r (λ ps. made (Dict ps) h units))
  made_of_same (Ok ps) units = made-heap_map f (Dict ps) h units
  made_of_same (Err kind) units = refl

  pub dictionary_made-heap_map : (kvs : List (Val × Val)) (units : ℕ) → dictionary_made kvs (heap_map f h) units ≡ outcome_map f (dictionary_made kvs h units)
  unfolding dictionary_made
  dictionary_made-heap_map kvs units =
      ap (λ r. outcome_of r (λ ps. made (Dict ps) (heap_map f h) units)) (pairs_same kvs []) ∙ made_of_same (m.pairs_of h kvs []) units

-- fairness
module _ {F : Type 0} (P : F → Type 0) (h : HeapOf F) (all : AllFuns P h) where
  pub dictionary_fair : (kvs : List (Val × Val)) (units : ℕ) → Fair P h (dictionary_made kvs h units)
  unfolding dictionary_made
  dictionary_fair kvs units = go (m.pairs_of h kvs [])
    where
      go : (r : Result (List (List ℕ × Val)) Kind) → Fair P h (outcome_of r (λ ps. made (Dict ps) h units))
      go (Ok ps) = made_fair P (Dict ps) h units tt all
      go (Err kind) = tt

  all_set : (h : HeapOf F) (n : ℕ) (c : CellOf F) → AllFuns P h → FunIs P c → AllFuns P (slice_set h n c)
  all_set [] n c a p = a
  all_set (d ∷ h) zero c a p = (p, a.1)
  all_set (d ∷ h) (suc n) c a p = (a.0, all_set h n c a.1 p)

  other_than_items : (o : Option (CellOf F)) (vs : List Val) → option_and_then items_of o ≡ Some vs → (option_and_then text_of o ≡ None) × (option_and_then fun_of o ≡ None)
  other_than_items None vs e = (refl, refl)
  other_than_items (Some (Text t)) vs e = absurd (none-some vs e)
  other_than_items (Some (Array items)) vs e = (refl, refl)
  other_than_items (Some (Dict ps)) vs e = (refl, refl)
  other_than_items (Some (Fun x)) vs e = absurd (none-some vs e)

  other_than_pairs : (o : Option (CellOf F)) (ps : List (List ℕ × Val)) → option_and_then pairs_of o ≡ Some ps → (option_and_then text_of o ≡ None) × (option_and_then fun_of o ≡ None)
  other_than_pairs None ps e = (refl, refl)
  other_than_pairs (Some (Text t)) ps e = absurd (none-some ps e)
  other_than_pairs (Some (Array items)) ps e = (refl, refl)
  other_than_pairs (Some (Dict pairs)) ps e = (refl, refl)
  other_than_pairs (Some (Fun x)) ps e = absurd (none-some ps e)

  either : (b : Bool) (x y : Outcome F (Unit {0})) → Fair P h x → Fair P h y → Fair P h (cond b x y)
  either true x y p q = p
  either false x y p q = q

  set_fair : (n : ℕ) (c : CellOf F) (cost units : ℕ) → (option_and_then text_of (slice_get h n) ≡ None) × (option_and_then fun_of (slice_get h n) ≡ None) → FunIs P c → Fair P h (charged {A = Unit {0}} cost tt (slice_set h n c) units)
  set_fair n c cost units none p =
      let gave : Outcome F (Unit {0}) = Gives tt (slice_set h n c) (units + cost) in
      either (nat_le (units + cost) max_units) gave Spends (keeps_set h n c none.0 none.1, all_set h n c all p) tt

  item_fair : (n : ℕ) (o : Option (List Val)) (place : Option ℕ) (v : Val) (units : ℕ) → items_at h n ≡ o → Fair P h (set_item_in o place h n v units)
  item_fair n None place v units e = tt
  item_fair n (Some vs) None v units e = tt
  item_fair n (Some vs) (Some i) v units e =
      let none = other_than_items (slice_get h n) vs e in
      either (nat_lt i (length vs)) _ _ (keeps_set h n (Array (slice_set vs i v)) none.0 none.1, all_set h n (Array (slice_set vs i v)) all tt)
      (either (i == length vs) _ _ (set_fair n (Array (vs ++ v ∷ [])) 8 units none tt) tt)

  key_fair : (n : ℕ) (o : Option (List (List ℕ × Val))) (key : List ℕ) (v : Val) (units : ℕ) → pairs_at h n ≡ o → Fair P h (set_key_in o h n key v units)
  key_fair n None key v units e = tt
  key_fair n (Some ps) key v units e =
      let none = other_than_pairs (slice_get h n) ps e in
      let c : CellOf F = Dict (insert_entry bytes_eq ps key v) in
      either (is_some (lookup (bytes_eq key) ps)) _ _ (keeps_set h n c none.0 none.1, all_set h n c all tt) (set_fair n c (cost_of_pair key) units none tt)

  pub set_key_fair : (n : ℕ) (key : List ℕ) (v : Val) (units : ℕ) → Fair P h (set_key_of h n key v units)
  unfolding set_key_of
  set_key_fair n key v units = key_fair n (pairs_at h n) key v units refl

  set_item_fair : (n : ℕ) (z : ℤ) (v : Val) (units : ℕ) → Fair P h (set_item_of h n z v units)
  unfolding set_item_of
  set_item_fair n z v units = item_fair n (items_at h n) (place_of z) v units refl

  set_by_fair : (t : Option (List ℕ)) (n : ℕ) (v : Val) (units : ℕ) → Fair P h (set_by t (λ key. set_key_of h n key v units))
  set_by_fair None n v units = tt
  set_by_fair (Some key) n v units = set_key_fair n key v units

  pub assigned_fair : (base key v : Val) (units : ℕ) → Fair P h (assigned h base key v units)
  unfolding assigned
  assigned_fair Null key v units = tt
  assigned_fair (Truth b) key v units = tt
  assigned_fair (Int z) key v units = tt
  assigned_fair (Ref n) Null v units = tt
  assigned_fair (Ref n) (Truth b) v units = tt
  assigned_fair (Ref n) (Int z) v units = set_item_fair n z v units
  assigned_fair (Ref n) (Ref k) v units = set_by_fair (text_at h k) n v units
