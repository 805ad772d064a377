-- Numbers that were computed.
use Rattle.std.specs.Prelude.{ℤ, Option, Some, None, Result, Ok, Err}
use Rattle.hog_value.specs.declared.value.Kind.{Kind}
use Rattle.hog_value.specs.declared.value.Kind.TheVariants.{IntegerOverflow}
use Rattle.hog_value.specs.declared.value.Value.TheVariants.{Int}
use Rattle.hog_value.specs.Values.{Val}

-- a number where there is one; else it is out of range
abbrev pub number_given : Option ℤ → Result Val Kind
number_given None = Err IntegerOverflow
number_given (Some z) = Ok (Int z)
