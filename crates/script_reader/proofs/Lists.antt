-- Elements of arrays, and their depth.
use Rattle.std.proofs.Common.{◌≡◌, ◌≤◌, ◌<◌, ℕ, zero, suc, ◌+◌, List, [], ◌∷◌, ◌++◌, Some, None, length, get_or, take, refl, sym, ap, ◌∙◌, arith}
use Rattle.std.specs.Prelude.{slice_get, option_map}
use Rattle.std.proofs.lemmas.List.{take_more}
use Rattle.serde_json.specs.Data.{Data, Items, array, depth, items_depth}
use Rattle.serde_json.specs.Find.{as_array}
use Rattle.serde_json.specs.View.{view, items_of, items_view}
use Rattle.serde_json.specs.declared.value.Value.{Value}
use Rattle.script_reader.specs.Elements.{list_of, elements_of, views, AreShallow}

pub listed : (ds : List Data) → list_of (items_of ds) ≡ ds
listed [] = refl
listed (d ∷ ds) = ap (λ rest. d ∷ rest) (listed ds)

-- the elements of a value that is an array of these values
pub elements_are : (d : Data) (vs : List Value) → Some (items_view vs) ≡ as_array d → elements_of d ≡ Some (views vs)
elements_are d vs is = ap (option_map list_of) (sym is) ∙ ap Some (listed (views vs))

pub elements_none : (d : Data) → None ≡ as_array d → elements_of d ≡ None
elements_none d is = ap (option_map list_of) (sym is)

array_depth : (d : Data) (ds : Items) → Some ds ≡ as_array d → items_depth ds ≤ depth d
array_depth (array xs) ds is = let same : ds ≡ xs = cc in omega (arith, ap items_depth same)
array_depth d ds is = absurd (cc)

item_depth : (vs : List Value) (k : ℕ) (v : Value) → k < length vs → depth (view (get_or vs k v)) ≤ items_depth (items_view vs)
item_depth [] k v within = absurd (omega (arith, within))
item_depth (x ∷ vs) zero v within = omega arith
item_depth (x ∷ vs) (suc k) v within = omega (arith, item_depth vs k v (omega (arith, within)))

pub shallow : (d : Data) (vs : List Value) → Some (items_view vs) ≡ as_array d → depth d ≤ 127 → AreShallow vs
shallow d vs is most = λ k v within. omega (arith, item_depth vs k v within, array_depth d (items_view vs) is)

pub views_take : (n : ℕ) (vs : List Value) → take n (views vs) ≡ views (take n vs)
views_take zero vs = refl
views_take (suc n) [] = refl
views_take (suc n) (v ∷ vs) = ap (λ ds. view v ∷ ds) (views_take n vs)

views_push : (vs : List Value) (v : Value) → views (vs ++ v ∷ []) ≡ views vs ++ view v ∷ []
views_push [] v = refl
views_push (x ∷ vs) v = ap (λ ds. view x ∷ ds) (views_push vs v)

pub views_length : (vs : List Value) → length (views vs) ≡ length vs
views_length [] = refl
views_length (v ∷ vs) = ap suc (views_length vs)

-- one more element
pub views_more : (vs : List Value) (i : ℕ) (v : Value) → i < length vs → v ≡ get_or vs i v → take (i + 1) (views vs) ≡ take i (views vs) ++ view v ∷ []
views_more vs i v within here =
    views_take (i + 1) vs
    ∙ ap views (take_more vs i v within ∙ ap (λ x. take i vs ++ x ∷ []) (sym here))
    ∙ views_push (take i vs) v
    ∙ ap (λ ds. ds ++ view v ∷ []) (sym (views_take i vs))

pub views_at : (vs : List Value) (i : ℕ) (v : Value) → i < length vs → v ≡ get_or vs i v → slice_get (views vs) i ≡ Some (view v)
views_at [] i v within here = absurd (omega (arith, within))
views_at (x ∷ vs) zero v within here = ap (λ y. Some (view y)) (sym here)
views_at (x ∷ vs) (suc i) v within here = views_at vs i v (omega (arith, within)) here
