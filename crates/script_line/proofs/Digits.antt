-- How great a number of so many digits is.
use Rattle.std.proofs.Common.{ℕ, ◌^◌, ◌<◌, ◌≤◌, arith}
use Rattle.std.proofs.Math.Nat.{pow-le-pow_right}

-- what is below a power of ten is below the greater ones
pub below_power : (n i k : ℕ) → n < 10 ^ i → i ≤ k → n < 10 ^ k
below_power n i k h le =
    let ten : 0 < 10 = omega arith in
    let powers : 10 ^ i ≤ 10 ^ k = pow-le-pow_right {n = 10} ten le in
    omega arith

-- before the last of 38 digits
pub below_37 : (n i : ℕ) → n < 10 ^ i → i < 38 → n < 10 ^ 37
below_37 n i h lt = below_power n i 37 h (omega arith)

-- before the last of 19 digits
pub below_18 : (n i : ℕ) → n < 10 ^ i → i < 19 → n < 10 ^ 18
below_18 n i h lt = below_power n i 18 h (omega arith)
