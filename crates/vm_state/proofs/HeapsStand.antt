-- Heaps in which values name cells, functions' upvalues are there, and for whose cells enough units are spent; what makes cells
-- keeps them so.
use Rattle.std.proofs.Common.{◌≡◌, ℕ, zero, suc, ◌+◌, ◌*◌, ◌<◌, ◌≤◌, List, [], ◌∷◌, ◌++◌, length, length-append, Option, Some, None, Bool, true, false, cond, refl, sym, ap, subst, arith}
use Rattle.std.specs.Prelude.{ℤ, nat_le, slice_get, option_and_then, option_map, unwrap_or, is_some, codes, bytes_eq}
use Rattle.std.specs.List.{AllByRecursion, IsDistinct}
use Rattle.std.specs.Map.{keys_of}
use Rattle.std.proofs.lemmas.Bool.{leb-true}
use Rattle.serde_json.specs.Data.{Num, Data, null, boolean, number, string, array, object, Items, no_items, item, Members, no_members, member}
use Rattle.serde_json.specs.Find.{as_i64}
use Rattle.serde_json.specs.Read.{read}
use Rattle.hog_value.specs.declared.cell.FunCell.{FunCell}
use Rattle.hog_value.specs.declared.value.Kind.{Kind}
use Rattle.hog_value.specs.declared.value.Value.TheVariants.{Null, Bool as Truth, Int, Ref}
use Rattle.hog_value.specs.Values.{Val, NamesBelow}
use Rattle.hog_value.specs.Meters.{max_units}
use Rattle.hog_value.specs.Cells.{CellOf, Text, Array, Dict, Fun, HeapOf, cost_of_cell, pairs_of, pairs_at}
use Rattle.hog_value.specs.Operations as op
use Rattle.hog_value.specs.Operations.{Outcome, made}
use Rattle.hog_json.specs.Reading.{outcome_and_then, number_read, read_cells, read_items, read_members, cells_of_read, json_cells, kept_value}
use Rattle.hog_library.specs.Cells.{texts_made, array_of_texts, error_cell, error_pairs, kind_name, kind_message, thrown, response_pairs, response_cell, response, blocked}
use Rattle.vm_course.specs.State.{function_at, function_in}
use Rattle.vm_state.proofs.Alls.{all_last, all_if}
use Rattle.vm_state.proofs.KeysApart.{KeysDiffer, InOrder, ItemsInOrder, MembersInOrder, read_in_order, kept_in_order, keys_in, keys_apart}

abbrev pub CellStands : ℕ → ℕ → CellOf FunCell → Type 0
CellStands cells upvalues (Text t) = Unit {0}
CellStands cells upvalues (Array vs) = AllByRecursion (NamesBelow cells) vs
CellStands cells upvalues (Dict ps) = AllByRecursion (λ p. NamesBelow cells p.1) ps × KeysDiffer ps
CellStands cells upvalues (Fun f) = AllByRecursion (λ n. n < upvalues) f.captured

pub record HeapStands (upvalues : ℕ) (h : HeapOf FunCell) (units : ℕ) : Type 0 where
  pub cells : AllByRecursion (CellStands (length h) upvalues) h
  pub covered : 8 * length h ≤ units
  pub within : units ≤ max_units

-- functions and dictionaries stay what they are
pub record Keeps (h h1 : HeapOf FunCell) : Type 0 where
  pub cells : length h ≤ length h1
  pub functions : (n : ℕ) → is_some (function_at h n) ≡ true → is_some (function_at h1 n) ≡ true
  pub pairs : (n : ℕ) → is_some (pairs_at h n) ≡ true → is_some (pairs_at h1 n) ≡ true

pub keeps_same : (h : HeapOf FunCell) → Keeps h h
keeps_same h = record { cells = omega arith; functions = λ n e. e; pairs = λ n e. e }

pub keeps_both : (h h1 h2 : HeapOf FunCell) → Keeps h h1 → Keeps h1 h2 → Keeps h h2
keeps_both h h1 h2 k l =
    let a = k.cells in
    let b = l.cells in
    record { cells = omega (arith, a, b); functions = λ n e. l.functions n (k.functions n e); pairs = λ n e. l.pairs n (k.pairs n e) }

there_before : {A : Type 0} (f : CellOf FunCell → Option A) (h more : HeapOf FunCell) (n : ℕ) → is_some (option_and_then f (slice_get h n)) ≡ true → is_some (option_and_then f (slice_get (h ++ more) n)) ≡ true
there_before f [] more n e = absurd cc
there_before f (c ∷ h) more zero e = e
there_before f (c ∷ h) more (suc n) e = there_before f h more n e

pub keeps_more : (h more : HeapOf FunCell) → Keeps h (h ++ more)
keeps_more h more = record {
  cells = omega (arith, length-append h more);
  functions = there_before function_in h more;
  pairs = there_before pairs_of h more;
}

-- more cells and more upvalues

pub names_more : (m n : ℕ) (v : Val) → m ≤ n → NamesBelow m v → NamesBelow n v
names_more m n Null le h = tt
names_more m n (Truth b) le h = tt
names_more m n (Int z) le h = tt
names_more m n (Ref r) le h = omega (arith, le, h)

pub all_names_more : (m n : ℕ) (vs : List Val) → m ≤ n → AllByRecursion (NamesBelow m) vs → AllByRecursion (NamesBelow n) vs
all_names_more m n vs le h = all_if (NamesBelow m) (NamesBelow n) (λ v k. names_more m n v le k) vs h

cell_more : (m n u w : ℕ) (c : CellOf FunCell) → m ≤ n → u ≤ w → CellStands m u c → CellStands n w c
cell_more m n u w (Text t) le up h = tt
cell_more m n u w (Array vs) le up h = all_names_more m n vs le h
cell_more m n u w (Dict ps) le up h = (all_if (λ p. NamesBelow m p.1) (λ p. NamesBelow n p.1) (λ p k. names_more m n p.1 le k) ps h.0, h.1)
cell_more m n u w (Fun f) le up h = all_if (λ k. k < u) (λ k. k < w) (λ k lt. omega (arith, lt, up)) f.captured h

pub cells_more : (m n u w : ℕ) (h : HeapOf FunCell) → m ≤ n → u ≤ w → AllByRecursion (CellStands m u) h → AllByRecursion (CellStands n w) h
cells_more m n u w h le up all = all_if (CellStands m u) (CellStands n w) (λ c k. cell_more m n u w c le up k) h all

pub upvalues_more : (u w : ℕ) (h : HeapOf FunCell) (units : ℕ) → u ≤ w → HeapStands u h units → HeapStands w h units
upvalues_more u w h units up s = record { cells = cells_more (length h) (length h) u w h (omega arith) up s.cells; covered = s.covered; within = s.within }

-- what comes of an operation on a heap that stands: a heap that stands, and a result of which Q holds
pub record Given {A : Type 0} (Q : ℕ → A → Type 0) (u : ℕ) (h : HeapOf FunCell) (a : A) (h1 : HeapOf FunCell) (units1 : ℕ) : Type 0 where
  pub heap : HeapStands u h1 units1
  pub keeps : Keeps h h1
  pub value : Q (length h1) a

abbrev pub Stands : {A : Type 0} → (ℕ → A → Type 0) → ℕ → HeapOf FunCell → Outcome FunCell A → Type 0
Stands Q u h (op.Gives a h1 units1) = Given Q u h a h1 units1
Stands Q u h (op.Throws kind) = Unit {0}
Stands Q u h op.Spends = Unit {0}

abbrev pub Named : ℕ → Val → Type 0
Named n v = NamesBelow n v

abbrev pub AllNamed : ℕ → List Val → Type 0
AllNamed n vs = AllByRecursion (NamesBelow n) vs

abbrev pub PairsNamed : ℕ → List (List ℕ × Val) → Type 0
PairsNamed n ps = AllByRecursion (λ p. NamesBelow n p.1) ps

-- pairs with these keys, in order
abbrev pub PairsOf : List (List ℕ) → ℕ → List (List ℕ × Val) → Type 0
PairsOf keys n ps = PairsNamed n ps × (keys_of ps ≡ keys)

module _ (u : ℕ) where
  pub same_stands : {A : Type 0} (Q : ℕ → A → Type 0) (a : A) (h : HeapOf FunCell) (units : ℕ) → HeapStands u h units → Q (length h) a → Stands Q u h (op.Gives a h units)
  same_stands Q a h units s q = record { heap = s; keeps = keeps_same h; value = q }

  on_stands : {A : Type 0} (Q : ℕ → A → Type 0) (h h1 : HeapOf FunCell) (o : Outcome FunCell A) → Keeps h h1 → Stands Q u h1 o → Stands Q u h o
  on_stands Q h h1 (op.Gives a h2 units) k s = record { heap = s.heap; keeps = keeps_both h h1 h2 k s.keeps; value = s.value }
  on_stands Q h h1 (op.Throws kind) k s = tt
  on_stands Q h h1 op.Spends k s = tt

  pub both_stand : {A B : Type 0} (Q : ℕ → A → Type 0) (R : ℕ → B → Type 0) (h : HeapOf FunCell) (o : Outcome FunCell A) (next : A → HeapOf FunCell → ℕ → Outcome FunCell B) → Stands Q u h o
      → ((a : A) (h1 : HeapOf FunCell) (units : ℕ) → HeapStands u h1 units → length h ≤ length h1 → Q (length h1) a → Stands R u h1 (next a h1 units)) → Stands R u h (outcome_and_then o next)
  both_stand Q R h (op.Gives a h1 units) next first after = on_stands R h h1 (next a h1 units) first.keeps (after a h1 units first.heap first.keeps.cells first.value)
  both_stand Q R h (op.Throws kind) next first after = tt
  both_stand Q R h op.Spends next first after = tt

  costs : (c : CellOf FunCell) → 8 ≤ cost_of_cell c
  costs (Text t) = omega arith
  costs (Array vs) = omega arith
  costs (Dict ps) = omega arith
  costs (Fun f) = omega arith

  added : (c : CellOf FunCell) (h : HeapOf FunCell) (units more : ℕ) → HeapStands u h units → CellStands (length h) u c → 8 ≤ more → units + more ≤ max_units → HeapStands u (h ++ c ∷ []) (units + more)
  added c h units more s k least fits =
      let long = length-append h (c ∷ []) in
      let covered = s.covered in
      let le : length h ≤ length (h ++ c ∷ []) = omega (arith, long) in
      record {
        cells = all_last (CellStands (length (h ++ c ∷ [])) u) h c (cells_more (length h) _ u u h le (omega arith) s.cells) (cell_more (length h) _ u u c le (omega arith) k);
        covered = omega (arith, long, covered, least);
        within = fits;
      }

  pub made_stands : (c : CellOf FunCell) (h : HeapOf FunCell) (units : ℕ) → HeapStands u h units → CellStands (length h) u c → Stands Named u h (made c h units)
  unfolding made
  made_stands c h units s k = go (nat_le (units + cost_of_cell c) max_units) refl
    where
      go : (b : Bool) → nat_le (units + cost_of_cell c) max_units ≡ b → Stands Named u h (cond b (op.Gives (Ref (length h)) (h ++ c ∷ []) (units + cost_of_cell c)) op.Spends)
      go true e = record {
        heap = added c h units (cost_of_cell c) s k (costs c) (leb-true _ _ e);
        keeps = keeps_more h (c ∷ []);
        value = omega (arith, length-append h (c ∷ []));
      }
      go false e = tt

  -- values of JSON

  number_named : (n : ℕ) (z : Num) → NamesBelow n (number_read z)
  number_named n z = go (as_i64 z)
    where
      go : (o : Option ℤ) → NamesBelow n (unwrap_or (option_map Int o) Null)
      go (Some k) = tt
      go None = tt

  mutual
    pub cells_stand : (d : Data) (h : HeapOf FunCell) (units : ℕ) → InOrder d → HeapStands u h units → Stands Named u h (read_cells d h units)
    cells_stand null h units o s = same_stands Named Null h units s tt
    cells_stand (boolean b) h units o s = same_stands Named (Truth b) h units s tt
    cells_stand (number n) h units o s = same_stands Named (number_read n) h units s (number_named (length h) n)
    cells_stand (string t) h units o s = made_stands (Text t) h units s tt
    cells_stand (array ds) h units o s =
        both_stand AllNamed Named h (read_items ds h units) (λ vs. made (Array vs)) (items_stand ds h units o s)
        (λ vs h1 units1 s1 le q. made_stands (Array vs) h1 units1 s1 q)
    cells_stand (object ms) h units o s =
        both_stand (PairsOf (keys_in ms)) Named h (read_members ms h units) (λ ps. made (Dict ps)) (members_stand ms h units o s)
        (λ ps h1 units1 s1 le q. made_stands (Dict ps) h1 units1 s1 (q.0, subst (IsDistinct bytes_eq) (sym q.1) (keys_apart ms o)))

    items_stand : (ds : Items) (h : HeapOf FunCell) (units : ℕ) → ItemsInOrder ds → HeapStands u h units → Stands AllNamed u h (read_items ds h units)
    items_stand no_items h units o s = same_stands AllNamed [] h units s tt
    items_stand (item d ds) h units o s =
        both_stand Named AllNamed h (read_cells d h units) _ (cells_stand d h units o.0 s) (λ v h1 units1 s1 le q.
        both_stand AllNamed AllNamed h1 (read_items ds h1 units1) (λ vs. op.Gives (v ∷ vs)) (items_stand ds h1 units1 o.1 s1) (λ vs h2 units2 s2 le2 qs.
        same_stands AllNamed (v ∷ vs) h2 units2 s2 (names_more (length h1) (length h2) v le2 q, qs)))

    pub members_stand : (ms : Members) (h : HeapOf FunCell) (units : ℕ) → MembersInOrder ms → HeapStands u h units → Stands (PairsOf (keys_in ms)) u h (read_members ms h units)
    members_stand no_members h units o s = same_stands (PairsOf []) [] h units s (tt, refl)
    members_stand (member k d ms) h units o s =
        both_stand Named (PairsOf (k ∷ keys_in ms)) h (read_cells d h units) _ (cells_stand d h units o.1 s) (λ v h1 units1 s1 le q.
        both_stand (PairsOf (keys_in ms)) (PairsOf (k ∷ keys_in ms)) h1 (read_members ms h1 units1) (λ ps. op.Gives ((k, v) ∷ ps)) (members_stand ms h1 units1 o.2 s1) (λ ps h2 units2 s2 le2 qs.
        same_stands (PairsOf (k ∷ keys_in ms)) ((k, v) ∷ ps) h2 units2 s2 ((names_more (length h1) (length h2) v le2 q, qs.0), ap (λ ks. k ∷ ks) qs.1)))

  pub json_stands : (t : List ℕ) (h : HeapOf FunCell) (units : ℕ) → HeapStands u h units → Stands Named u h (json_cells t h units)
  unfolding json_cells
  json_stands t h units s = go (read t) (λ d. read_in_order t d)
    where
      go : (o : Option Data) → ((d : Data) → o ≡ Some d → InOrder d) → Stands Named u h (cells_of_read o h units)
      go None order = tt
      go (Some d) order = cells_stand d h units (order d refl) s

  -- texts, what is thrown, responses

  pub texts_stand : (ts : List (List ℕ)) (h : HeapOf FunCell) (units : ℕ) → HeapStands u h units → Stands AllNamed u h (texts_made ts h units)
  texts_stand [] h units s = same_stands AllNamed [] h units s tt
  texts_stand (t ∷ ts) h units s =
      both_stand Named AllNamed h (made (Text t) h units) _ (made_stands (Text t) h units s tt) (λ v h1 units1 s1 le q.
      both_stand AllNamed AllNamed h1 (texts_made ts h1 units1) (λ vs. op.Gives (v ∷ vs)) (texts_stand ts h1 units1 s1) (λ vs h2 units2 s2 le2 qs.
      same_stands AllNamed (v ∷ vs) h2 units2 s2 (names_more (length h1) (length h2) v le2 q, qs)))

  pub array_stands : (ts : List (List ℕ)) (h : HeapOf FunCell) (units : ℕ) → HeapStands u h units → Stands Named u h (array_of_texts ts h units)
  unfolding array_of_texts
  array_stands ts h units s =
      both_stand AllNamed Named h (texts_made ts h units) (λ vs. made (Array vs)) (texts_stand ts h units s) (λ vs h1 units1 s1 le q. made_stands (Array vs) h1 units1 s1 q)

  error_keys : (name message payload : Val) → KeysDiffer (error_pairs name message payload)
  unfolding IsDistinct
  error_keys name message payload = ((refl, (refl, tt)), ((refl, tt), (tt, tt)))

  response_keys : (status : ℕ) (v : Val) → KeysDiffer (response_pairs status v)
  unfolding IsDistinct
  response_keys status v = ((refl, tt), (tt, tt))

  pub error_stands : (name message payload : Val) (h : HeapOf FunCell) (units : ℕ) → HeapStands u h units → NamesBelow (length h) name → NamesBelow (length h) message → NamesBelow (length h) payload
      → Stands Named u h (made (error_cell name message payload) h units)
  error_stands name message payload h units s a b c = made_stands (error_cell name message payload) h units s ((a, (b, (c, tt))), error_keys name message payload)

  pub thrown_stands : (kind : Kind) (h : HeapOf FunCell) (units : ℕ) → HeapStands u h units → Stands Named u h (thrown kind h units)
  unfolding thrown
  thrown_stands kind h units s =
      both_stand Named Named h (made (Text (kind_name kind)) h units) _ (made_stands (Text (kind_name kind)) h units s tt) (λ name h1 units1 s1 le q.
      both_stand Named Named h1 (made (Text (kind_message kind)) h1 units1) (λ message. made (error_cell name message Null)) (made_stands (Text (kind_message kind)) h1 units1 s1 tt)
      (λ message h2 units2 s2 le2 q2. error_stands name message Null h2 units2 s2 (names_more (length h1) (length h2) name le2 q) q2 tt))

  response_made : (status : ℕ) (v : Val) (h : HeapOf FunCell) (units : ℕ) → HeapStands u h units → NamesBelow (length h) v → Stands Named u h (made (response_cell status v) h units)
  response_made status v h units s q = made_stands (response_cell status v) h units s ((tt, (q, tt)), response_keys status v)

  pub response_stands : (status : ℕ) (body : List ℕ) (h : HeapOf FunCell) (units : ℕ) → HeapStands u h units → Stands Named u h (response status body h units)
  unfolding response
  response_stands status body h units s =
      both_stand Named Named h (read_cells (kept_value body) h units) (λ v. made (response_cell status v)) (cells_stand (kept_value body) h units (kept_in_order body) s)
      (λ v h1 units1 s1 le q. response_made status v h1 units1 s1 q)

  pub blocked_stands : (h : HeapOf FunCell) (units : ℕ) → HeapStands u h units → Stands Named u h (blocked h units)
  unfolding blocked
  blocked_stands h units s =
      both_stand Named Named h (made (Text (codes "blocked")) h units) (λ v. made (response_cell 0 v)) (made_stands (Text (codes "blocked")) h units s tt)
      (λ v h1 units1 s1 le q. response_made 0 v h1 units1 s1 q)
