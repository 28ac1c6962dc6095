-- A number is read back from its bytes.
use Rattle.std.proofs.Common.{ℕ, zero, suc, ◌≡◌, ◌+◌, ◌*◌, ◌/◌, ◌^◌, ◌%◌, ◌<◌, ◌∙◌, ap, sym, refl, arith}
use Rattle.std.proofs.Math.Arith.{mod-mul}
use Rattle.std.proofs.Math.Nat.{add_comm, mod-add-div', mod-eq_of_lt, one-le-pow, pow-succ'}
use Rattle.std.specs.Int.{w64, byte_at, byte_worth, from_le_bytes, sum_through, to_le_bytes}

-- the lowest bytes of a number make up its remainder
sum_of_bytes : (n k : ℕ) → sum_through (λ i. byte_worth i (byte_at i n)) k ≡ n % 256 ^ suc k
sum_of_bytes n zero = refl
sum_of_bytes n (suc k) =
    let more : 256 ^ suc (suc k) ≡ 256 * 256 ^ suc k = pow-succ' 256 (suc k) in
    let split = mod-mul n {m = 256} {c = 256 ^ suc k} (omega arith) (one-le-pow (suc k) 256 (omega arith)) in
    ap (λ s. s + n / 256 ^ suc k % 256 * 256 ^ suc k) (sum_of_bytes n k) ∙ add_comm (n % 256 ^ suc k) (n / 256 ^ suc k % 256 * 256 ^ suc k) ∙ sym split ∙ ap (λ m. n % m) (sym more)

pub read_back_8 : (n : ℕ) → n < 2 ^ 64 → from_le_bytes w64 (to_le_bytes w64 n) ≡ n
read_back_8 n small = sum_of_bytes n 7 ∙ mod-eq_of_lt small

-- a number is its lower half and its upper one
pub halves : (n : ℕ) → n % 2 ^ 64 + n / 2 ^ 64 * 2 ^ 64 ≡ n
halves n = mod-add-div' n (2 ^ 64)
