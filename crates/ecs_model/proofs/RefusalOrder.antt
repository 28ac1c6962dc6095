-- The order of refusals is their number.
use Rattle.std.specs.Prelude.{◌≡◌, ℕ, zero, suc, ◌<◌, ◌≤◌, Bool, true, false, List, [], ◌∷◌, map, length, slice_index_or, Some}
use Rattle.std.specs.List.{AllByRecursion}
use Rattle.std.specs.List.Sorted.{IsStrictlySortedBy}
use Rattle.std.specs.Ordering.{nat_cmp}
use Rattle.std.specs.declared.cmp.Ordering.TheVariants.{Less}
use Rattle.std.proofs.Common.{sym, ap, subst, arith, true≢false}
use Rattle.std.proofs.lemmas.Bool.Decides.{nat_tests}
use Rattle.ecs_model.specs.declared.faults.Refusal.{Refusal}
use Rattle.ecs_model.specs.Refusal.{first_reason, refusal_number}

abbrev pub numbers : List (Bool × Refusal) → List ℕ
numbers rs = map (λ r. refusal_number r.1) rs

-- all numbers after the first are greater
behind : (n : ℕ) (rs : List (Bool × Refusal)) (b : Bool) (s : Refusal) (k : ℕ) → AllByRecursion (λ m. nat_cmp n m ≡ Less) (numbers rs) → k < length rs
    → slice_index_or rs k (b, s) ≡ (b, s) → n ≤ refusal_number s
behind n [] b s k above within at = absurd (omega arith)
behind n (x ∷ rs) b s zero above within at =
    let is : refusal_number x.1 ≡ refusal_number s = ap (λ p. refusal_number p.1) at in
    let less : n < refusal_number x.1 = grind (arith, nat_tests, above.0) in
    omega arith
behind n (x ∷ rs) b s (suc k) above within at = behind n rs b s k above.1 (omega arith) at

pub least : (rs : List (Bool × Refusal)) → IsStrictlySortedBy nat_cmp (numbers rs) → (r s : Refusal) → first_reason rs ≡ Some r → (k : ℕ) → k < length rs
    → slice_index_or rs k (true, s) ≡ (true, s) → refusal_number r ≤ refusal_number s
unfolding IsStrictlySortedBy
least [] rise r s first k within at = absurd (omega arith)
least ((true, x) ∷ rs) rise r s first zero within at =
    let is : refusal_number x ≡ refusal_number s = ap (λ p. refusal_number p.1) at in
    let same : x ≡ r = cc in
    let alike : refusal_number x ≡ refusal_number r = ap refusal_number same in
    omega arith
least ((true, x) ∷ rs) rise r s first (suc k) within at =
    let same : x ≡ r = cc in
    let below : refusal_number x ≤ refusal_number s = behind (refusal_number x) rs true s k rise.0 (omega arith) at in
    subst (λ q. refusal_number q ≤ refusal_number s) same below
least ((false, x) ∷ rs) rise r s first zero within at = absurd (true≢false (sym (ap (λ p. p.0) at)))
least ((false, x) ∷ rs) rise r s first (suc k) within at = least rs rise.1 r s first k (omega arith) at
