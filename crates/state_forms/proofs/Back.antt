-- What was written is read.
use Rattle.std.proofs.Common.{◌≡◌, ℕ, ◌<◌, ◌^◌, pos, negsuc, List, [], ◌∷◌, ◌++◌, Bool, true, false, cond, Some, None, map, refl, sym, ap, ◌∙◌, arith, append_assoc, append-nil, subst}
use Rattle.std.proofs.lemmas.Bool.Decides.{nat_tests}
use Rattle.std.specs.Prelude.{is_some, option_map, nat_lt}
use Rattle.std.specs.Cmp.Lexicographic.{nat_list_eq_equiv}
use Rattle.std.specs.List.{AllByRecursion, IsDistinct}
use Rattle.std.specs.Map.{lookup, keys_of}
use Rattle.std.specs.Str.{bytes_eq}
use Rattle.std.proofs.lemmas.Map.Keys.{IsDistinct-head, IsDistinct-tail}
use Rattle.serde_json.specs.Data.{Data}
use Rattle.hog_value.specs.declared.cell.FunCell.{FunCell}
use Rattle.hog_value.specs.Values.{Val}
use Rattle.hog_value.specs.declared.value.Value.TheVariants.{Null, Bool as Truth, Int, Ref}
use Rattle.hog_value.specs.Cells.{CellOf, Text, Array, Dict, Fun}
use Rattle.state_forms.specs.declared.stop.ReadStop.{ReadStop}
use Rattle.state_forms.specs.declared.stop.ReadStop.TheVariants as stops
use Rattle.state_forms.specs.Shapes.{Fails, ◌>>=◌, below, list_in, list, each, u32_in, number_data}
use Rattle.state_forms.proofs.Lists.{list_in-list, each_back}
use Rattle.state_forms.specs.Values.{value_in, value_data, ValueFits, pair_in, pair_data, PairFits, pairs_from, cell_in, cell_data, CellFits}

cond_true : {A : Type 0} (b : Bool) (x y : A) → b ≡ true → cond b x y ≡ x
cond_true b x y e = ap (λ c. cond c x y) e

cond_false : {A : Type 0} (b : Bool) (x y : A) → b ≡ false → cond b x y ≡ y
cond_false b x y e = ap (λ c. cond c x y) e

pub below_back : (m n : ℕ) → n < m → below m n ≡ Some n
below_back m n h = cond_true (nat_lt n m) (Some n) None (grind (arith, nat_tests))

pub u32_back : (n : ℕ) → n < 2 ^ 32 → u32_in (number_data n) ≡ Some n
u32_back n h = below_back (2 ^ 32) n h

pub value_back : (v : Val) → ValueFits v → value_in (value_data v) ≡ Some v
value_back Null h = refl
value_back (Truth b) h = refl
value_back (Int (pos n)) h = ap (option_map Int) (cond_true (nat_lt n (2 ^ 63)) (Some (pos n)) None (grind (arith, nat_tests)))
value_back (Int (negsuc n)) h = refl
value_back (Ref n) h = ap (λ o. o >>= λ n. Some (Ref n)) (u32_back n h)

pub pair_back : (p : List ℕ × Val) → PairFits p → pair_in (pair_data p) ≡ Some p
pair_back p h = ap (λ o. o >>= λ value. Some (p.0, value)) (value_back p.1 h)

-- no key is one that stands before
abbrev IsNew : List (List ℕ × Val) → List (List ℕ × Val) → Type 0
IsNew done [] = Unit {0}
IsNew done (p ∷ ps) = (lookup (bytes_eq p.0) done ≡ None) × IsNew (done ++ p ∷ []) ps

pairs_back : (done ps : List (List ℕ × Val)) → AllByRecursion PairFits ps → IsNew done ps → pairs_from done (map pair_data ps) ≡ Some (done ++ ps)
pairs_back done [] h n = ap Some (sym (append-nil done))
pairs_back done (p ∷ ps) h n =
    ap (λ o. o >>= λ q. cond (is_some (lookup (bytes_eq q.0) done)) None (pairs_from (done ++ q ∷ []) (map pair_data ps))) (pair_back p h.0)
    ∙ ap (λ o. cond (is_some o) None (pairs_from (done ++ p ∷ []) (map pair_data ps))) n.0
    ∙ pairs_back (done ++ p ∷ []) ps h.1 n.1
    ∙ ap Some (append_assoc done (p ∷ []) ps)

-- what holds of each key holds of one in the middle
at_key : (P : List ℕ → Type 0) (done : List (List ℕ × Val)) (p : List ℕ × Val) (ps : List (List ℕ × Val)) → AllByRecursion P (keys_of (done ++ p ∷ ps)) → P p.0
at_key P [] p ps h = h.0
at_key P (d ∷ done) p ps h = at_key P done p ps h.1

lookup_new : (done : List (List ℕ × Val)) (p : List ℕ × Val) (ps : List (List ℕ × Val)) → IsDistinct bytes_eq (keys_of (done ++ p ∷ ps)) → lookup (bytes_eq p.0) done ≡ None
lookup_new [] p ps h = refl
lookup_new (d ∷ done) p ps h =
    cond_false (bytes_eq p.0 d.0) (Some d.1) (lookup (bytes_eq p.0) done) (nat_list_eq_equiv.symm p.0 d.0 ∙ at_key (λ y. bytes_eq d.0 y ≡ false) done p ps (IsDistinct-head bytes_eq d.0 (keys_of (done ++ p ∷ ps)) h))
    ∙ lookup_new done p ps (IsDistinct-tail bytes_eq d.0 (keys_of (done ++ p ∷ ps)) h)

new_from : (done ps : List (List ℕ × Val)) → IsDistinct bytes_eq (keys_of (done ++ ps)) → IsNew done ps
new_from done [] h = tt
new_from done (p ∷ ps) h = (lookup_new done p ps h, new_from (done ++ p ∷ []) ps (subst (λ es. IsDistinct bytes_eq (keys_of es)) (sym (append_assoc done (p ∷ []) ps)) h))

pub cell_back : (c : CellOf FunCell) → CellFits c → cell_in (cell_data c) ≡ Some c
cell_back (Text t) h = refl
cell_back (Array vs) h = ap (λ o. o >>= λ ds. each value_in ds >>= λ vs. Some (Array vs)) (list_in-list (map value_data vs)) ∙ ap (λ o. o >>= λ vs. Some (Array vs)) (each_back value_in value_data ValueFits value_back vs h)
cell_back (Dict ps) h = ap (λ o. o >>= λ ds. pairs_from [] ds >>= λ ps. Some (Dict ps)) (list_in-list (map pair_data ps)) ∙ ap (λ o. o >>= λ ps. Some (Dict ps)) (pairs_back [] ps h.0 (new_from [] ps h.1))
cell_back (Fun f) h =
    ap (λ o. o >>= λ place. list_in (list (map number_data f.captured)) >>= λ ds. each u32_in ds >>= λ ns. Some (Fun record { place = place; captured = ns })) (u32_back f.place h.0)
    ∙ ap (λ o. o >>= λ ds. each u32_in ds >>= λ ns. Some (Fun record { place = f.place; captured = ns })) (list_in-list (map number_data f.captured))
    ∙ ap (λ o. o >>= λ ns. Some (Fun record { place = f.place; captured = ns })) (each_back u32_in number_data (λ n. n < 2 ^ 32) u32_back f.captured h.1)

-- one turn of the reader of pairs
pub turn_none : (done : List (List ℕ × Val)) (d : Data) (ds : List Data) (p : List ℕ × Val) → pair_in d ≡ Some p → is_some (lookup (bytes_eq p.0) done) ≡ true → pairs_from done (d ∷ ds) ≡ None
turn_none done d ds p e h =
    ap (λ o. o >>= λ q. cond (is_some (lookup (bytes_eq q.0) done)) None (pairs_from (done ++ q ∷ []) ds)) e
    ∙ cond_true (is_some (lookup (bytes_eq p.0) done)) None (pairs_from (done ++ p ∷ []) ds) h

pub turn_some : (done : List (List ℕ × Val)) (d : Data) (ds : List Data) (p : List ℕ × Val) → pair_in d ≡ Some p → is_some (lookup (bytes_eq p.0) done) ≡ false → pairs_from done (d ∷ ds) ≡ pairs_from (done ++ p ∷ []) ds
turn_some done d ds p e h =
    ap (λ o. o >>= λ q. cond (is_some (lookup (bytes_eq q.0) done)) None (pairs_from (done ++ q ∷ []) ds)) e
    ∙ cond_false (is_some (lookup (bytes_eq p.0) done)) None (pairs_from (done ++ p ∷ []) ds) h

pub turn_fails : (stop : ReadStop) (done : List (List ℕ × Val)) (d : Data) (ds : List Data) → Fails stop (pair_in d) → Fails stop (pairs_from done (d ∷ ds))
turn_fails stops.OutOfMemory done d ds h = tt
turn_fails stops.Refused done d ds h = ap (λ o. o >>= λ q. cond (is_some (lookup (bytes_eq q.0) done)) None (pairs_from (done ++ q ∷ []) ds)) h
