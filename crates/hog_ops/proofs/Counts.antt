-- Operations have as many elements as they take.
use Rattle.std.specs.Prelude.{◌≡◌, ◌≤◌, ◌*◌, List, [], ◌∷◌, length}
use Rattle.std.proofs.Common.{refl, arith, length-append}
use Rattle.hog_ops.specs.declared.capture.Capture.{Capture}
use Rattle.hog_ops.specs.Plain.{Op, Ops, Callable, NoOp, MoreOp}
use Rattle.hog_ops.specs.Table.{size, span}
use Rattle.hog_ops.specs.Elements.{capture_elements, closure_elements, op_elements, elements}

capture_count : (cs : List Capture) → length (capture_elements cs) ≡ 2 * length cs
capture_count [] = refl
capture_count (c ∷ cs) = omega (arith, capture_count cs)

mutual
  pub op_count : (o : Op) → length (op_elements o) ≡ size o
  op_count (Callable name params body captures) = omega (arith, length-append (elements body) (closure_elements captures), elements_count body, capture_count captures)
  op_count o = refl

  pub elements_count : (os : Ops) → length (elements os) ≡ span os
  elements_count NoOp = refl
  elements_count (MoreOp o os) = omega (arith, length-append (op_elements o) (elements os), op_count o, elements_count os)

-- each operation has at least its number
pub size_some : (o : Op) → 1 ≤ size o
size_some (Callable name params body captures) = omega arith
size_some o = omega arith
