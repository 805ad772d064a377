-- The text of a value inside open cells.
use Rattle.std.proofs.Common.{◌≡◌, ℕ, zero, suc, List, refl}
use Rattle.hog_value.specs.Values.{Val}
use Rattle.hog_value.specs.Cells.{HeapOf}
use Rattle.hog_json.specs.Texts.{Spelling, value_text, text_in}
use Rattle.hog_json.specs.Building.{deeper}

pub text_in_is : {F : Type 0} (s : Spelling) (h : HeapOf F) (room : ℕ) (path : List ℕ) (v : Val) → text_in s h room path v ≡ value_text s h (deeper s h room) path v
unfolding text_in
text_in_is s h zero path v = refl
text_in_is s h (suc room) path v = refl
