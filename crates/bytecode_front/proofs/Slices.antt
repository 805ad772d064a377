-- Slices of JSON values, and their views.
use Rattle.std.proofs.Common.{◌≡◌, ℕ, zero, suc, ◌-◌, List, [], ◌∷◌, length, drop, take, map, refl, sym, ap, ◌∙◌, arith, length-drop}
use Rattle.std.proofs.lemmas.List.{take_all}
use Rattle.serde_json.specs.View.{view}
use Rattle.serde_json.specs.declared.value.Value.{Value}
use Rattle.bytecode_front.specs.Views.{views}

pub drop_whole : (n : ℕ) (vs : List Value) → take (length vs - n) (drop n vs) ≡ drop n vs
drop_whole n vs = take_all (length vs - n) (drop n vs) (omega (arith, length-drop n vs))

pub views_drop : (n : ℕ) (vs : List Value) → drop n (views vs) ≡ views (drop n vs)
views_drop zero vs = refl
views_drop (suc n) [] = refl
views_drop (suc n) (v ∷ vs) = views_drop n vs

pub views_take : (n : ℕ) (vs : List Value) → take n (views vs) ≡ views (take n vs)
views_take zero vs = refl
views_take (suc n) [] = refl
views_take (suc n) (v ∷ vs) = ap (λ ds. view v ∷ ds) (views_take n vs)

pub views_length : (vs : List Value) → length (views vs) ≡ length vs
views_length [] = refl
views_length (v ∷ vs) = ap suc (views_length vs)

-- a slice
pub views_part : (i n : ℕ) (vs : List Value) → views (take n (drop i vs)) ≡ take n (drop i (views vs))
views_part i n vs = sym (views_take n (drop i vs)) ∙ ap (take n) (sym (views_drop i vs))

pub drop_views : (n : ℕ) (vs ws : List Value) → ws ≡ drop n vs → views ws ≡ drop n (views vs)
drop_views n vs ws e = ap views e ∙ sym (views_drop n vs)
