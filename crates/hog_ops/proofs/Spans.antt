-- How many elements the first of some operations take.
use Rattle.std.proofs.Common.{◌≡◌, ◌≤◌, ℕ, zero, suc, ◌+◌, ◌<◌, List, [], ◌∷◌, length, take, get_or, add-one, ap, arith}
use Rattle.hog_ops.specs.declared.operation.Op.{Op}
use Rattle.hog_ops.specs.Table.{size, span}
use Rattle.hog_ops.specs.View.{op_of, ops_of}

span_next : (xs : List Op) (i : ℕ) (x : Op) → i < length xs → x ≡ get_or xs i x → span (ops_of (take (suc i) xs)) ≡ span (ops_of (take i xs)) + size (op_of x)
span_next [] i x h at = absurd (omega arith)
span_next (y ∷ xs) zero x h at = omega (arith, ap (λ o. size (op_of o)) at)
span_next (y ∷ xs) (suc i) x h at = omega (arith, span_next xs i x (omega arith) at)

-- one operation more
pub span_more : (xs : List Op) (i : ℕ) (x : Op) → i < length xs → x ≡ get_or xs i x → span (ops_of (take (i + 1) xs)) ≡ span (ops_of (take i xs)) + size (op_of x)
span_more xs i x h at = rw add-one (span_next xs i x h at)

pub span_take : (xs : List Op) (i : ℕ) → span (ops_of (take i xs)) ≤ span (ops_of xs)
span_take [] zero = omega arith
span_take [] (suc i) = omega arith
span_take (x ∷ xs) zero = omega arith
span_take (x ∷ xs) (suc i) = omega (arith, span_take xs i)
