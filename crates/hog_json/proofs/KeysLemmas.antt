-- Members in order of their keys, put into pairs one after another.
use Rattle.std.proofs.Common.{◌≡◌, ℕ, List, [], ◌∷◌, ◌++◌, map, false, bytes_eq, string_bytes, string_cmp, nat_cmp, Less, Greater, is_eq, refl, sym, ap, ◌∙◌}
use Rattle.std.proofs.lemmas.Cmp.{nat_list_cmp_total}
use Rattle.std.proofs.lemmas.Map.Text.{is_eq-slice_cmp}
use Rattle.std.specs.Cmp.Lexicographic.{slice_cmp}
use Rattle.std.specs.List.{AllByRecursion}
use Rattle.std.specs.List.Sorted.{IsStrictlySortedBy}
use Rattle.std.specs.Map.{keys_of}
use Rattle.std.specs.Ordering.{ordering_reverse}
use Rattle.indexmap.specs.IndexMap.{insert_entry}
use Rattle.serde_json.proofs.Views.{Entry}
use Rattle.hog_value.specs.Values.{Val}

-- the names of members, as bytes
abbrev pub names_of : List Entry → List (List ℕ)
names_of es = map (λ e. string_bytes e.0) es

below_middle : (first : Entry) (es : List Entry) (e : Entry) (more : List Entry) → AllByRecursion (λ y. string_cmp first.0 y ≡ Less) (keys_of (es ++ e ∷ more)) → string_cmp first.0 e.0 ≡ Less
below_middle first [] e more h = h.0
below_middle first (x ∷ es) e more h = below_middle first es e more h.1

-- a name is not one that is below it
apart : (low high : List ℕ) → slice_cmp nat_cmp low high ≡ Less → bytes_eq high low ≡ false
apart low high below =
    let above : slice_cmp nat_cmp high low ≡ Greater = nat_list_cmp_total.antisymm high low ∙ ap ordering_reverse below in
    sym (is_eq-slice_cmp high low) ∙ ap is_eq above

-- the member that comes next goes last
pub insert_next : (done : List Entry) (ps : List (List ℕ × Val)) (e : Entry) (v : Val) (more : List Entry)
    → keys_of ps ≡ names_of done → IsStrictlySortedBy string_cmp (keys_of (done ++ e ∷ more))
    → insert_entry bytes_eq ps (string_bytes e.0) v ≡ ps ++ (string_bytes e.0, v) ∷ []
unfolding IsStrictlySortedBy
insert_next [] [] e v more keys sorted = refl
insert_next [] (p ∷ ps) e v more keys sorted = absurd (cc)
insert_next (d ∷ done) [] e v more keys sorted = absurd (cc)
insert_next (d ∷ done) (p ∷ ps) e v more keys sorted =
    let first : p.0 ≡ string_bytes d.0 = cc in
    let others : keys_of ps ≡ names_of done = cc in
    let other : bytes_eq (string_bytes e.0) p.0 ≡ false =
    ap (bytes_eq (string_bytes e.0)) first ∙ apart (string_bytes d.0) (string_bytes e.0) (below_middle d done e more sorted.0) in
    rw other (ap (λ qs. p ∷ qs) (insert_next done ps e v more others sorted.1))
