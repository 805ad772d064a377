-- What operators, access and setting give names cells, of a heap that stands.
use Rattle.std.proofs.Common.{◌≡◌, ℕ, zero, suc, ◌+◌, ◌≤◌, List, [], ◌∷◌, ◌++◌, length, Option, Some, None, Bool, true, false, cond, Result, Ok, Err, refl, sym, ap, ◌∙◌, subst, arith}
use Rattle.std.specs.Prelude.{ℤ, ◌+ℤ◌, ◌-ℤ◌, ◌*ℤ◌, not, nat_lt, nat_le, ◌==◌, slice_get, slice_set, option_and_then, unwrap_or, is_some, bytes_eq}
use Rattle.std.specs.List.{AllByRecursion}
use Rattle.std.specs.Map.{lookup}
use Rattle.std.specs.declared.cmp.Ordering.{Ordering}
use Rattle.std.proofs.lemmas.Bool.{leb-true}
use Rattle.indexmap.specs.IndexMap.{insert_entry}
use Rattle.hog_value.specs.declared.cell.FunCell.{FunCell}
use Rattle.hog_value.specs.declared.value.Kind.{Kind}
use Rattle.hog_value.specs.declared.value.Kind.TheVariants.{IndexError, IntegerOverflow}
use Rattle.hog_value.specs.declared.value.Value.TheVariants.{Null, Bool as Truth, Int, Ref}
use Rattle.hog_value.specs.Values.{Val, NamesBelow}
use Rattle.hog_value.specs.Meters.{max_units}
use Rattle.hog_value.specs.Cells.{CellOf, Text, Array, Dict, Fun, HeapOf, items_of, pairs_of, items_at, pairs_at, text_at, cost_of_pair}
use Rattle.hog_value.specs.Operations as op
use Rattle.hog_value.specs.Operations.{Outcome, charged, place_of, item_in, item_of, key_in, key_of, set_item_in, set_item_of, set_key_in, set_key_of, made}
use Rattle.hog_json.specs.Texts.{named_text}
use Rattle.hog_tree.specs.declared.tree.BinaryOp.{BinaryOp}
use Rattle.hog_tree.specs.declared.tree.BinaryOp.TheVariants as b
use Rattle.hog_meaning.specs.Operators.{in_range, checked, computed, tested, compared, order_of, is_less, is_greater, is_in, truth_result, operated, read_by, set_by, outcome_of, accessed, assigned, dictionary_made}
use Rattle.hog_meaning.specs.Operators as operators
use Rattle.vm_course.specs.State.{function_in}
use Rattle.vm_state.proofs.Alls.{all_last, all_at, all_or, all_set}
use Rattle.vm_state.proofs.KeysApart.{KeysDiffer, no_keys, keys_differ_with}
use Rattle.vm_state.proofs.HeapsStand.{CellStands, HeapStands, Keeps, Given, Stands, Named, AllNamed, PairsNamed, made_stands}

abbrev pub ResultNamed : ℕ → Result Val Kind → Type 0
ResultNamed n (Ok v) = NamesBelow n v
ResultNamed n (Err kind) = Unit {0}

-- operators give no cells

checked_named : (n : ℕ) (z : ℤ) → ResultNamed n (checked z)
checked_named n z = go (in_range z)
  where
    go : (b : Bool) → ResultNamed n (cond b (Ok (Int z)) (Err IntegerOverflow))
    go true = tt
    go false = tt

computed_named : (n : ℕ) (f : ℤ → ℤ → ℤ) (x y : Val) → ResultNamed n (computed f x y)
computed_named n f Null y = tt
computed_named n f (Truth b) y = tt
computed_named n f (Ref r) y = tt
computed_named n f (Int a) Null = tt
computed_named n f (Int a) (Truth b) = tt
computed_named n f (Int a) (Ref r) = tt
computed_named n f (Int a) (Int b) = checked_named n (f a b)

tested_named : (n : ℕ) (test : Ordering → Bool) (o : Option Ordering) → ResultNamed n (tested test o)
tested_named n test None = tt
tested_named n test (Some order) = tt

truth_named : (n : ℕ) (f : Bool → Bool) (r : Result Bool Kind) → ResultNamed n (truth_result f r)
truth_named n f (Ok b) = tt
truth_named n f (Err kind) = tt

pub operated_named : (n : ℕ) (o : BinaryOp) (h : HeapOf FunCell) (x y : Val) → ResultNamed n (operated o h x y)
unfolding operated
operated_named n b.Or h x y = tt
operated_named n b.And h x y = tt
operated_named n b.Equal h x y = tt
operated_named n b.NotEqual h x y = tt
operated_named n b.Less h x y = tested_named n is_less (order_of h x y)
operated_named n b.LessEqual h x y = tested_named n (λ order. not (is_greater order)) (order_of h x y)
operated_named n b.Greater h x y = tested_named n is_greater (order_of h x y)
operated_named n b.GreaterEqual h x y = tested_named n (λ order. not (is_less order)) (order_of h x y)
operated_named n b.IsIn h x y = truth_named n (λ b. b) (is_in h x y)
operated_named n b.NotIn h x y = truth_named n not (is_in h x y)
operated_named n b.Plus h x y = computed_named n (λ a b. a +ℤ b) x y
operated_named n b.Minus h x y = computed_named n (λ a b. a -ℤ b) x y
operated_named n b.Times h x y = computed_named n (λ a b. a *ℤ b) x y

-- access

looked_up : (n : ℕ) (test : List ℕ → Bool) (ps : List (List ℕ × Val)) → PairsNamed n ps → NamesBelow n (unwrap_or (lookup test ps) Null)
looked_up n test [] h = tt
looked_up n test (p ∷ ps) h = go (looked_up n test ps h.1) (test p.0)
  where
    go : NamesBelow n (unwrap_or (lookup test ps) Null) → (b : Bool) → NamesBelow n (unwrap_or (cond b (Some p.1) (lookup test ps)) Null)
    go rest true = h.0
    go rest false = rest

abbrev MaybeItems : ℕ → Option (List Val) → Type 0
MaybeItems n None = Unit {0}
MaybeItems n (Some vs) = AllNamed n vs

abbrev MaybePairs : ℕ → Option (List (List ℕ × Val)) → Type 0
MaybePairs n None = Unit {0}
MaybePairs n (Some ps) = PairsNamed n ps

items_named : (n u : ℕ) (c : CellOf FunCell) → CellStands n u c → MaybeItems n (items_of c)
items_named n u (Text t) h = tt
items_named n u (Array vs) h = h
items_named n u (Dict ps) h = tt
items_named n u (Fun f) h = tt

pairs_named : (n u : ℕ) (c : CellOf FunCell) → CellStands n u c → MaybePairs n (pairs_of c)
pairs_named n u (Text t) h = tt
pairs_named n u (Array vs) h = tt
pairs_named n u (Dict ps) h = h.0
pairs_named n u (Fun f) h = tt

items_there : (n u : ℕ) (h : HeapOf FunCell) (k : ℕ) → AllByRecursion (CellStands n u) h → MaybeItems n (items_at h k)
items_there n u [] k s = tt
items_there n u (c ∷ h) zero s = items_named n u c s.0
items_there n u (c ∷ h) (suc k) s = items_there n u h k s.1

pairs_there : (n u : ℕ) (h : HeapOf FunCell) (k : ℕ) → AllByRecursion (CellStands n u) h → MaybePairs n (pairs_at h k)
pairs_there n u [] k s = tt
pairs_there n u (c ∷ h) zero s = pairs_named n u c s.0
pairs_there n u (c ∷ h) (suc k) s = pairs_there n u h k s.1

item_named : (n : ℕ) (vs : Option (List Val)) (place : Option ℕ) → MaybeItems n vs → ResultNamed n (item_in vs place)
item_named n None place h = tt
item_named n (Some vs) None h = tt
item_named n (Some vs) (Some k) h = all_or (NamesBelow n) vs k Null h tt

key_named : (n : ℕ) (ps : Option (List (List ℕ × Val))) (key : List ℕ) → MaybePairs n ps → ResultNamed n (key_in ps key)
key_named n None key h = tt
key_named n (Some ps) key h = looked_up n (bytes_eq key) ps h

pub key_of_named : (n u : ℕ) (h : HeapOf FunCell) (k : ℕ) (key : List ℕ) → AllByRecursion (CellStands n u) h → ResultNamed n (key_of h k key)
unfolding key_of
key_of_named n u h k key s = key_named n (pairs_at h k) key (pairs_there n u h k s)

item_of_named : (n u : ℕ) (h : HeapOf FunCell) (k : ℕ) (z : ℤ) → AllByRecursion (CellStands n u) h → ResultNamed n (item_of h k z)
unfolding item_of
item_of_named n u h k z s = item_named n (items_at h k) (place_of z) (items_there n u h k s)

read_named : (n u : ℕ) (h : HeapOf FunCell) (k : ℕ) (t : Option (List ℕ)) → AllByRecursion (CellStands n u) h → ResultNamed n (read_by t (key_of h k))
read_named n u h k None s = tt
read_named n u h k (Some key) s = key_of_named n u h k key s

pub accessed_named : (n u : ℕ) (h : HeapOf FunCell) (base key : Val) → AllByRecursion (CellStands n u) h → ResultNamed n (accessed h base key)
unfolding accessed
accessed_named n u h Null key s = tt
accessed_named n u h (Truth b) key s = tt
accessed_named n u h (Int z) key s = tt
accessed_named n u h (Ref k) Null s = tt
accessed_named n u h (Ref k) (Truth b) s = tt
accessed_named n u h (Ref k) (Int z) s = item_of_named n u h k z s
accessed_named n u h (Ref k) (Ref m) s = read_named n u h k (text_at h m) s

-- setting

length-slice_set : {A : Type 0} (xs : List A) (n : ℕ) (x : A) → length (slice_set xs n x) ≡ length xs
length-slice_set [] n x = refl
length-slice_set (y ∷ xs) zero x = refl
length-slice_set (y ∷ xs) (suc n) x = ap suc (length-slice_set xs n x)

-- a cell that is set to one of its kind
abbrev SameKind : CellOf FunCell → CellOf FunCell → Type 0
SameKind c d = (is_some (function_in c) ≡ is_some (function_in d)) × (is_some (pairs_of c) ≡ is_some (pairs_of d))

kept_by_set : {A : Type 0} (f : CellOf FunCell → Option A) (h : HeapOf FunCell) (n : ℕ) (c d : CellOf FunCell) → slice_get h n ≡ Some c → is_some (f c) ≡ is_some (f d)
    → (k : ℕ) → is_some (option_and_then f (slice_get h k)) ≡ true → is_some (option_and_then f (slice_get (slice_set h n d) k)) ≡ true
kept_by_set f [] n c d e same k there = absurd cc
kept_by_set f (x ∷ h) zero c d e same zero there =
    let is : x ≡ c = cc in
    sym same ∙ ap (λ y. is_some (f y)) (sym is) ∙ there
kept_by_set f (x ∷ h) zero c d e same (suc k) there = there
kept_by_set f (x ∷ h) (suc n) c d e same zero there = there
kept_by_set f (x ∷ h) (suc n) c d e same (suc k) there = kept_by_set f h n c d e same k there

keeps_set : (h : HeapOf FunCell) (n : ℕ) (c d : CellOf FunCell) → slice_get h n ≡ Some c → SameKind c d → Keeps h (slice_set h n d)
keeps_set h n c d e same = record {
  cells = let long = length-slice_set h n d in omega (arith, long);
  functions = kept_by_set function_in h n c d e same.0;
  pairs = kept_by_set pairs_of h n c d e same.1;
}

abbrev pub Nothing : ℕ → Unit {0} → Type 0
Nothing n x = Unit {0}

module _ (u : ℕ) (h : HeapOf FunCell) (units : ℕ) (s : HeapStands u h units) where
  set_stands : (n : ℕ) (c d : CellOf FunCell) (more : ℕ) → slice_get h n ≡ Some c → SameKind c d → CellStands (length h) u d → units + more ≤ max_units → Given Nothing u h tt (slice_set h n d) (units + more)
  set_stands n c d more e same stands fits =
      let long = length-slice_set h n d in
      let covered = s.covered in
      record {
        heap = record {
          cells = subst (λ k. AllByRecursion (CellStands k u) (slice_set h n d)) (sym long) (all_set (CellStands (length h) u) h n d s.cells stands);
          covered = omega (arith, long, covered);
          within = fits;
        };
        keeps = keeps_set h n c d e same;
        value = tt;
      }

  set_free : (n : ℕ) (c d : CellOf FunCell) → slice_get h n ≡ Some c → SameKind c d → CellStands (length h) u d → Stands Nothing u h (op.Gives tt (slice_set h n d) units)
  set_free n c d e same stands =
      let within = s.within in
      let none : units + 0 ≡ units = omega arith in
      subst (λ k. Given Nothing u h tt (slice_set h n d) k) none (set_stands n c d 0 e same stands (omega (arith, within)))

  set_charged : (n : ℕ) (c d : CellOf FunCell) (more : ℕ) → slice_get h n ≡ Some c → SameKind c d → CellStands (length h) u d → Stands Nothing u h (charged more tt (slice_set h n d) units)
  set_charged n c d more e same stands = go (nat_le (units + more) max_units) refl
    where
      go : (b : Bool) → nat_le (units + more) max_units ≡ b → Stands Nothing u h (cond b (op.Gives tt (slice_set h n d) (units + more)) op.Spends)
      go true fits = set_stands n c d more e same stands (leb-true _ _ fits)
      go false fits = tt

  array_at : (n : ℕ) (vs : List Val) → items_at h n ≡ Some vs → slice_get h n ≡ Some (Array vs)
  array_at n vs e = go (slice_get h n) e
    where
      cell : (c : CellOf FunCell) → items_of c ≡ Some vs → Some c ≡ Some (Array vs)
      cell (Text t) e = absurd cc
      cell (Array ws) e = let same : ws ≡ vs = cc in ap (λ x. Some (Array x)) same
      cell (Dict ps) e = absurd cc
      cell (Fun f) e = absurd cc

      go : (o : Option (CellOf FunCell)) → option_and_then items_of o ≡ Some vs → o ≡ Some (Array vs)
      go None e = absurd cc
      go (Some c) e = cell c e

  dict_at : (n : ℕ) (ps : List (List ℕ × Val)) → pairs_at h n ≡ Some ps → slice_get h n ≡ Some (Dict ps)
  dict_at n ps e = go (slice_get h n) e
    where
      cell : (c : CellOf FunCell) → pairs_of c ≡ Some ps → Some c ≡ Some (Dict ps)
      cell (Text t) e = absurd cc
      cell (Array ws) e = absurd cc
      cell (Dict qs) e = let same : qs ≡ ps = cc in ap (λ x. Some (Dict x)) same
      cell (Fun f) e = absurd cc

      go : (o : Option (CellOf FunCell)) → option_and_then pairs_of o ≡ Some ps → o ≡ Some (Dict ps)
      go None e = absurd cc
      go (Some c) e = cell c e

  item_set : (o : Option (List Val)) (place : Option ℕ) (n : ℕ) (v : Val) → items_at h n ≡ o → NamesBelow (length h) v → Stands Nothing u h (set_item_in o place h n v units)
  item_set None place n v e q = tt
  item_set (Some vs) None n v e q = tt
  item_set (Some vs) (Some k) n v e q = within (nat_lt k (length vs))
    where
      at : slice_get h n ≡ Some (Array vs)
      at = array_at n vs e

      named : AllNamed (length h) vs
      named = all_at (CellStands (length h) u) h n (Array vs) s.cells at

      at_end : (b : Bool) → Stands Nothing u h (cond b (charged 8 tt (slice_set h n (Array (vs ++ v ∷ []))) units) (op.Throws IndexError))
      at_end true = set_charged n (Array vs) (Array (vs ++ v ∷ [])) 8 at (refl, refl) (all_last (NamesBelow (length h)) vs v named q)
      at_end false = tt

      within : (b : Bool) → Stands Nothing u h (cond b (op.Gives tt (slice_set h n (Array (slice_set vs k v))) units) (cond (k == length vs) (charged 8 tt (slice_set h n (Array (vs ++ v ∷ []))) units) (op.Throws IndexError)))
      within true = set_free n (Array vs) (Array (slice_set vs k v)) at (refl, refl) (all_set (NamesBelow (length h)) vs k v named q)
      within false = at_end (k == length vs)

  inserted : (n : ℕ) (ps : List (List ℕ × Val)) (key : List ℕ) (v : Val) → PairsNamed n ps → NamesBelow n v → PairsNamed n (insert_entry bytes_eq ps key v)
  inserted n [] key v all q = (q, tt)
  inserted n (p ∷ ps) key v all q = go (inserted n ps key v all.1 q) (bytes_eq key p.0)
    where
      go : PairsNamed n (insert_entry bytes_eq ps key v) → (b : Bool) → PairsNamed n (cond b ((p.0, v) ∷ ps) (p ∷ insert_entry bytes_eq ps key v))
      go rest true = (q, all.1)
      go rest false = (all.0, rest)

  key_set : (o : Option (List (List ℕ × Val))) (n : ℕ) (key : List ℕ) (v : Val) → pairs_at h n ≡ o → NamesBelow (length h) v → Stands Nothing u h (set_key_in o h n key v units)
  key_set None n key v e q = tt
  key_set (Some ps) n key v e q = go (is_some (lookup (bytes_eq key) ps))
    where
      at : slice_get h n ≡ Some (Dict ps)
      at = dict_at n ps e

      after : PairsNamed (length h) (insert_entry bytes_eq ps key v) × KeysDiffer (insert_entry bytes_eq ps key v)
      after =
          let before = all_at (CellStands (length h) u) h n (Dict ps) s.cells at in
          (inserted (length h) ps key v before.0 q, keys_differ_with ps key v before.1)

      go : (b : Bool) → Stands Nothing u h (let h1 = slice_set h n (Dict (insert_entry bytes_eq ps key v)) in cond b (op.Gives tt h1 units) (charged (cost_of_pair key) tt h1 units))
      go true = set_free n (Dict ps) (Dict (insert_entry bytes_eq ps key v)) at (refl, refl) after
      go false = set_charged n (Dict ps) (Dict (insert_entry bytes_eq ps key v)) (cost_of_pair key) at (refl, refl) after

  item_of_set : (n : ℕ) (z : ℤ) (v : Val) → NamesBelow (length h) v → Stands Nothing u h (set_item_of h n z v units)
  unfolding set_item_of
  item_of_set n z v q = item_set (items_at h n) (place_of z) n v refl q

  key_of_set : (n : ℕ) (key : List ℕ) (v : Val) → NamesBelow (length h) v → Stands Nothing u h (set_key_of h n key v units)
  unfolding set_key_of
  key_of_set n key v q = key_set (pairs_at h n) n key v refl q

  set_by_stands : (n : ℕ) (t : Option (List ℕ)) (v : Val) → NamesBelow (length h) v → Stands Nothing u h (set_by t (λ key. set_key_of h n key v units))
  set_by_stands n None v q = tt
  set_by_stands n (Some key) v q = key_of_set n key v q

  pub assigned_stands : (base key v : Val) → NamesBelow (length h) v → Stands Nothing u h (assigned h base key v units)
  unfolding assigned
  assigned_stands Null key v q = tt
  assigned_stands (Truth b) key v q = tt
  assigned_stands (Int z) key v q = tt
  assigned_stands (Ref n) Null v q = tt
  assigned_stands (Ref n) (Truth b) v q = tt
  assigned_stands (Ref n) (Int z) v q = item_of_set n z v q
  assigned_stands (Ref n) (Ref m) v q = set_by_stands n (text_at h m) v q

  -- dictionaries

  abbrev PairsGiven : Result (List (List ℕ × Val)) Kind → Type 0
  PairsGiven (Ok ps) = PairsNamed (length h) ps × KeysDiffer ps
  PairsGiven (Err kind) = Unit {0}

  pairs_given : (kvs : List (Val × Val)) (ps : List (List ℕ × Val)) → AllByRecursion (λ kv. NamesBelow (length h) kv.1) kvs → PairsNamed (length h) ps → KeysDiffer ps → PairsGiven (operators.pairs_of h kvs ps)
  pairs_given [] ps all named differ = (named, differ)
  pairs_given (kv ∷ kvs) ps all named differ =
      go (λ key. pairs_given kvs (insert_entry bytes_eq ps key kv.1) all.1 (inserted (length h) ps key kv.1 named all.0) (keys_differ_with ps key kv.1 differ)) (named_text h kv.0)
    where
      go : ((key : List ℕ) → PairsGiven (operators.pairs_of h kvs (insert_entry bytes_eq ps key kv.1))) → (o : Option (List ℕ)) → PairsGiven (read_by o (λ key. operators.pairs_of h kvs (insert_entry bytes_eq ps key kv.1)))
      go more None = tt
      go more (Some key) = more key

  dictionary_of : (r : Result (List (List ℕ × Val)) Kind) → PairsGiven r → Stands Named u h (outcome_of r (λ ps. made (Dict ps) h units))
  dictionary_of (Ok ps) named = made_stands u (Dict ps) h units s named
  dictionary_of (Err kind) named = tt

  pub dictionary_stands : (kvs : List (Val × Val)) → AllByRecursion (λ kv. NamesBelow (length h) kv.1) kvs → Stands Named u h (dictionary_made kvs h units)
  unfolding dictionary_made
  dictionary_stands kvs all = dictionary_of (operators.pairs_of h kvs []) (pairs_given kvs [] all tt no_keys)
