-- The arguments of a native, and what they are.
use Rattle.std.specs.Prelude.{ℕ, List, Bool, true, false, Option, Some, None, option_and_then, is_some, unwrap_or, slice_get}
use Rattle.hog_value.specs.declared.value.Kind.TheVariants.{TypeError}
use Rattle.hog_value.specs.Values.{Val}
use Rattle.hog_value.specs.declared.value.Value.TheVariants.{Null, Bool as Truth, Int, Ref}
use Rattle.hog_value.specs.Cells.{CellOf, HeapOf, items_of, pairs_at}
use Rattle.hog_value.specs.Operations.{Outcome, Throws}

-- the argument at a place, from 0; one that isn't there is null
abbrev pub argument : List Val → ℕ → Val
argument vs place = unwrap_or (slice_get vs place) Null

-- the cell that a value names
abbrev pub cell_given : {F : Type 0} → HeapOf F → Val → Option (CellOf F)
cell_given h Null = None
cell_given h (Truth b) = None
cell_given h (Int z) = None
cell_given h (Ref n) = slice_get h n

-- the items of the array that a value names
abbrev pub items_given : {F : Type 0} → HeapOf F → Val → Option (List Val)
items_given h v = option_and_then items_of (cell_given h v)

-- whether a value is null or names a dictionary
abbrev pub are_options : {F : Type 0} → HeapOf F → Val → Bool
are_options h Null = true
are_options h (Truth b) = false
are_options h (Int z) = false
are_options h (Ref n) = is_some (pairs_at h n)

-- what comes of an argument, which throws where it is of another kind
abbrev pub with_given : {F A B : Type 0} → Option A → (A → Outcome F B) → Outcome F B
with_given None next = Throws TypeError
with_given (Some a) next = next a
