-- A number of 64 bits as two halves.
use Rattle.std.specs.Prelude.{◌≡◌, ℕ, ◌+◌, ◌*◌, ◌/◌, ◌%◌, ◌^◌, ◌<◌}
use Rattle.std.proofs.Common.{arith}

-- a number is its lower half and its upper one
pub halves : (n : ℕ) → n % 2 ^ 32 + n / 2 ^ 32 * 2 ^ 32 ≡ n
halves n = omega arith

-- each half is read back from the number that they make
pub low_given_back : (low high : ℕ) → low < 2 ^ 32 → (low + high * 2 ^ 32) % 2 ^ 32 ≡ low
low_given_back low high small = omega arith

pub high_given_back : (low high : ℕ) → low < 2 ^ 32 → (low + high * 2 ^ 32) / 2 ^ 32 ≡ high
high_given_back low high small = omega arith
