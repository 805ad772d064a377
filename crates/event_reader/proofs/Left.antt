-- What is left of so many.
use Rattle.std.proofs.Common.{◌≡◌, ◌+◌, ◌-◌, ◌≤◌, ◌<◌, ℕ, Bool, true, false, Option, Some, None, refl, sym, ap, ◌∙◌, arith}
use Rattle.std.specs.Prelude.{nat_le, is_some, option_and_then, if◌then◌else◌}
use Rattle.std.proofs.lemmas.Bool.Decides.{nat_tests}
use Rattle.event_reader.specs.Gathering.{left}

pub left_is : (most n : ℕ) → n ≤ most → left most n ≡ Some (most - n)
left_is most n few = grind (arith, nat_tests)

pub left_none : (most n : ℕ) → most < n → left most n ≡ None
left_none most n many = grind (arith, nat_tests)

pub some_few : (most n : ℕ) → is_some (left most n) ≡ true → n ≤ most
some_few most n is = grind (arith, nat_tests)

pub none_many : (most n : ℕ) → left most n ≡ None → most < n
none_many most n is = grind (arith, nat_tests)

pub left_some : (most n r : ℕ) → left most n ≡ Some r → (n ≤ most) × (r ≡ most - n)
left_some most n r is = grind (arith, nat_tests)

-- more is taken of what is left
pub left_more : (most n k r m : ℕ) → left most n ≡ Some r → m ≡ n + k → left r k ≡ left most m
left_more most n k r m is sum = grind (arith, nat_tests)

pub left_past : (most n m : ℕ) → left most n ≡ None → n ≤ m → left most m ≡ None
left_past most n m none more = left_none most m (omega (arith, none_many most n none))

-- the same of what may be left
pub then_left : (most n k : ℕ) (o : Option ℕ) → o ≡ left most n → option_and_then (λ r. left r k) o ≡ left most (n + k)
then_left most n k None is = sym (left_past most n (n + k) (sym is) (omega arith))
then_left most n k (Some r) is = left_more most n k r (n + k) (sym is) refl
