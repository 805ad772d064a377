-- Keys and values in turn.
use Rattle.std.proofs.Common.{◌≡◌, ◌<◌, ◌≤◌, ◌+◌, ◌*◌, ℕ, zero, suc, List, [], ◌∷◌, length, drop, get_or, arith, refl, ap, ap₂, sym, subst, ◌∙◌, length-drop, drop-cons, All, bytes_eq}
use Rattle.std.proofs.lemmas.List.Elements.{All-get_or}
use Rattle.std.specs.Prelude.{Option, Some, Ok}
use Rattle.indexmap.specs.IndexMap.{insert_entry}
use Rattle.hog_value.specs.declared.cell.FunCell.{FunCell}
use Rattle.hog_value.specs.declared.value.Value.TheVariants.{Null}
use Rattle.hog_value.specs.Values.{Val, NamesBelow}
use Rattle.hog_value.specs.Cells.{HeapOf}
use Rattle.hog_json.specs.Texts.{named_text}
use Rattle.hog_meaning.specs.Operators.{read_by, pairs_of}
use Rattle.hog_operators.specs.Pairs.{in_turn}

-- a single value behind the last pair is none
pub in_turn-short : (vs : List Val) → length vs ≤ 1 → in_turn vs ≡ []
in_turn-short [] few = refl
in_turn-short (v ∷ []) few = refl
in_turn-short (k ∷ v ∷ vs) few = absurd (omega arith)

-- behind the last pair
pub in_turn-last : (vs : List Val) (n : ℕ) → length vs ≤ n + 1 → in_turn (drop n vs) ≡ []
in_turn-last vs n few = in_turn-short (drop n vs) (omega (arith, length-drop n vs))

-- the values at two places and behind them
cut_at : (vs : List Val) (n : ℕ) (x : Val) → n + 1 < length vs → drop n vs ≡ get_or vs n x ∷ (get_or vs (n + 1) x ∷ drop (n + 2) vs)
cut_at vs n x within =
    let one : suc n ≡ n + 1 = omega arith in
    let two : suc (n + 1) ≡ n + 2 = omega arith in
    let first : n < length vs = omega arith in
    let second : drop (suc n) vs ≡ get_or vs (n + 1) x ∷ drop (n + 2) vs =
    ap (λ k. drop k vs) one ∙ drop-cons vs (n + 1) x within ∙ ap (λ k. get_or vs (n + 1) x ∷ drop k vs) two in
    drop-cons vs n x first ∙ ap (λ ws. get_or vs n x ∷ ws) second

-- the next pair
pub in_turn-next : (vs : List Val) (n : ℕ) (x : Val) → n + 1 < length vs → in_turn (drop n vs) ≡ (get_or vs n x, get_or vs (n + 1) x) ∷ in_turn (drop (n + 2) vs)
in_turn-next vs n x within = ap in_turn (cut_at vs n x within)

-- a pair that is read
pub pair_read : (h : HeapOf FunCell) (vs : List Val) (i : ℕ) (key : List ℕ) (ps : List (List ℕ × Val)) → 2 * i + 1 < length vs → named_text h (get_or vs (2 * i) Null) ≡ Some key
    → pairs_of h (in_turn (drop (2 * i) vs)) ps ≡ pairs_of h (in_turn (drop (2 * (i + 1)) vs)) (insert_entry bytes_eq ps key (get_or vs (2 * i + 1) Null))
pair_read h vs i key ps within is =
    let v = get_or vs (2 * i + 1) Null in
    let next : 2 * i + 2 ≡ 2 * (i + 1) = omega arith in
    let rest = in_turn (drop (2 * i + 2) vs) in
    ap (λ kvs. pairs_of h kvs ps) (in_turn-next vs (2 * i) Null within)
    ∙ ap (λ o. read_by o (λ k. pairs_of h rest (insert_entry bytes_eq ps k v))) is
    ∙ ap (λ n. pairs_of h (in_turn (drop n vs)) (insert_entry bytes_eq ps key v)) next

-- behind the last pair
pub all_read : (h : HeapOf FunCell) (vs : List Val) (i : ℕ) (ps : List (List ℕ × Val)) → length vs ≤ 2 * i + 1 → pairs_of h (in_turn (drop (2 * i) vs)) ps ≡ Ok ps
all_read h vs i ps few = ap (λ kvs. pairs_of h kvs ps) (in_turn-last vs (2 * i) few)

pub names_at : (m : ℕ) (vs : List Val) (n : ℕ) → n < length vs → All (NamesBelow m) vs → NamesBelow m (get_or vs n Null)
names_at m vs n within all = All-get_or (NamesBelow m) vs n Null within all
