-- The whole query holds by whether the depth of its last level is even.
use Rattle.std.proofs.Common.{◌≡◌, ℕ, zero, suc, ◌%◌, true, false, refl, ap, ◌∙◌, arith}
use Rattle.std.specs.Prelude.{◌==◌}
use Rattle.query_local.specs.Judging.{alternates}

two_more : (n : ℕ) → suc (suc n) % 2 ≡ n % 2
two_more n = omega arith

pub holds_at_even : (n : ℕ) → (n % 2 == 0) ≡ alternates true n
holds_at_even zero = refl
holds_at_even (suc zero) = refl
holds_at_even (suc (suc n)) = ap (λ m. m == 0) (two_more n) ∙ holds_at_even n

pub fails_at_odd : (n : ℕ) → (n % 2 == 1) ≡ alternates false n
fails_at_odd zero = refl
fails_at_odd (suc zero) = refl
fails_at_odd (suc (suc n)) = ap (λ m. m == 1) (two_more n) ∙ fails_at_odd n
