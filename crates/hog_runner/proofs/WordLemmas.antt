-- The digits of the number of a plan.
use Rattle.std.proofs.Common.{ℕ, ◌+◌, ◌*◌, ◌^◌, ◌<◌, ◌≤◌, arith}
use Rattle.std.proofs.Math.Nat.{pow-le-pow_right}

-- a number of at most three digits has room for one more
pub digit_fits : (n i : ℕ) → n < 10 ^ i → i < 4 → 10 * n + 9 < 2 ^ 32
digit_fits n i below few =
    let most : 10 ^ i ≤ 10 ^ 3 = pow-le-pow_right {n = 10} (omega arith) {i = i} {j = 3} (omega arith) in
    omega (arith, most, below)
