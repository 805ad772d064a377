-- The tests of comparisons.
use Rattle.std.specs.Prelude.{Bool, not}
use Rattle.std.specs.declared.cmp.Ordering.{Ordering}
use Rattle.hog_tree.specs.declared.tree.BinaryOp.{BinaryOp}
use Rattle.hog_tree.specs.declared.tree.BinaryOp.TheVariants as o
use Rattle.hog_meaning.specs.Operators.{is_less, is_greater}

-- whether an order passes the test of a comparison; an operator that is none has that of `>=`
abbrev pub test_of : BinaryOp → Ordering → Bool
test_of o.Less order = is_less order
test_of o.LessEqual order = not (is_greater order)
test_of o.Greater order = is_greater order
test_of op order = not (is_less order)
