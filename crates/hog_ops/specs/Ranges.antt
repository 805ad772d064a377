-- Operations whose numbers are those of their Rust types: counts, indices and parameters of 32 bits, whole numbers and distances of 64.
use Rattle.std.specs.Prelude.{ℕ, ◌<◌, ◌^◌, ℤ, pos, negsuc, List}
use Rattle.std.specs.List.{AllByRecursion}
use Rattle.hog_ops.specs.declared.capture.Capture.{Capture}
use Rattle.hog_ops.specs.Plain.{Op, Ops, Callable, NoOp, MoreOp}
use Rattle.hog_ops.specs.Table.{Row, Alone, Counts, Leads, Calls, Spells, Gives, Holds, row}

abbrev pub IsU32 : ℕ → Type 0
IsU32 n = n < 2 ^ 32

abbrev pub IsI64 : ℤ → Type 0
IsI64 (pos n) = n < 2 ^ 63
IsI64 (negsuc n) = n < 2 ^ 63

abbrev pub CapturesFit : List Capture → Type 0
CapturesFit cs = AllByRecursion (λ c. IsU32 c.index) cs

abbrev pub RowFits : Row → Type 0
RowFits (Alone n) = Unit {0}
RowFits (Counts n least count) = IsU32 count
RowFits (Leads n d) = IsI64 d
RowFits (Calls f n) = IsU32 n
RowFits (Spells t) = Unit {0}
RowFits (Gives z) = IsI64 z
RowFits (Holds name params body captures) = IsU32 params × CapturesFit captures

abbrev mutual
  pub OpFits : Op → Type 0
  OpFits (Callable name params body captures) = IsU32 params × CapturesFit captures × OpsFit body
  OpFits o = RowFits (row o)

  pub OpsFit : Ops → Type 0
  OpsFit NoOp = Unit {0}
  OpsFit (MoreOp o os) = OpFits o × OpsFit os
