-- Numbers in order, each once.
use Rattle.std.specs.Prelude.{◌==◌, ◌↔◌, ℕ, List}
use Rattle.std.specs.List.{Contains}
use Rattle.std.specs.List.Sorted.{IsStrictlyIncreasing}
use Rattle.std.specs.Ordering.{nat_cmp}
use Rattle.std.proofs.Common.{subst, sym}
use Rattle.std.proofs.lemmas.List.Kept.{Contains-dedup_nat, Contains-from_dedup}
use Rattle.std.proofs.lemmas.List.Sorted.{Contains-permutation, IsPermutation-sym}
use Rattle.std.proofs.lemmas.Map.Keys.{IsStrictlyIncreasing-dedup}
use Rattle.short_list.specs.Items.{IsInOrder}

pub numbers_rise : (old new : List ℕ) → IsInOrder nat_cmp ◌==◌ old new → IsStrictlyIncreasing new
numbers_rise old new h = subst IsStrictlyIncreasing (sym h.once) (IsStrictlyIncreasing-dedup h.sorted h.rises)

pub numbers_same : (old new : List ℕ) → IsInOrder nat_cmp ◌==◌ old new → (n : ℕ) → Contains new n ↔ Contains old n
numbers_same old new h n = (
  λ c. Contains-permutation h.sorted old n (IsPermutation-sym old h.sorted h.permutation) (Contains-from_dedup ◌==◌ h.sorted n (subst (λ is. Contains is n) h.once c)),
  λ c. subst (λ is. Contains is n) (sym h.once) (Contains-dedup_nat h.sorted n (Contains-permutation old h.sorted n h.permutation c)),
)
