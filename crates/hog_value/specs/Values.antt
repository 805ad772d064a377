-- Values.
use Rattle.std.specs.Prelude.{ℕ, ◌<◌}
use Rattle.hog_value.specs.declared.value.Value.{Value}
pub use Rattle.hog_value.specs.declared.value.Value.TheVariants.{Null, Bool as Truth, Int, Ref}

-- a value: null, a truth value, a whole number, or the number of a cell
abbrev pub Val : Type 0
Val = Value

-- where the value names a cell, it is one of the first n
abbrev pub NamesBelow : ℕ → Val → Type 0
NamesBelow n Null = Unit {0}
NamesBelow n (Truth b) = Unit {0}
NamesBelow n (Int z) = Unit {0}
NamesBelow n (Ref r) = r < n
