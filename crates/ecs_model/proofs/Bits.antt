-- What one bit set changes of all bits of some words.
use Rattle.std.specs.Prelude.{◌==◌, ◌||◌, bit_and, bit_or}
use Rattle.std.specs.Int.{bit_at}
use Rattle.std.proofs.Common.{◌≡◌, ℕ, ◌*◌, ◌/◌, ◌%◌, ◌^◌, ◌<◌, List, length, get_or, set, sym, ap, ◌∙◌, inl, inr, arith, eq-eqb, w64, refl}
use Rattle.std.proofs.lemmas.Bool.{cases_eq, ne_eqb}
use Rattle.std.proofs.lemmas.Grind.{get_or-set_at}
use Rattle.std.proofs.lemmas.List.{get_or-set_other}
use Rattle.std.proofs.lemmas.Nat.Bits.{bit_at_set_other, bit_at_set_same, shr_and_one}
use Rattle.ecs_model.specs.BitWords.{has_bit}

-- a word in the place of another
module _ (old new : List ℕ) (k word : ℕ) (within : k / 64 < length old) (is : new ≡ set old (k / 64) word) where
  pub at_place : (e : ℕ) → e / 64 ≡ k / 64 → get_or new (e / 64) 0 ≡ word
  at_place e same = ap (λ xs. get_or xs (e / 64) 0) is ∙ get_or-set_at old (k / 64) (e / 64) word 0 same within

  pub elsewhere : (e : ℕ) → (e / 64 ≡ k / 64 → ⊥) → get_or new (e / 64) 0 ≡ get_or old (e / 64) 0
  elsewhere e other = ap (λ xs. get_or xs (e / 64) 0) is ∙ get_or-set_other old (k / 64) (e / 64) word 0 other

pub other_bit : (e k : ℕ) → (e ≡ k → ⊥) → e / 64 ≡ k / 64 → e % 64 ≡ k % 64 → ⊥
other_bit e k other place same = other (omega (arith, place, same))

pub small : (k : ℕ) → k % 64 < 64
small k = omega arith

-- a bit that is set
module _ (old new : List ℕ) (k : ℕ) (within : k / 64 < length old) (is : new ≡ set old (k / 64) (bit_or (get_or old (k / 64) 0) (1 * 2 ^ (k % 64) % 2 ^ 64))) where
  abbrev with_bit : ℕ
  with_bit = bit_or (get_or old (k / 64) 0) (1 * 2 ^ (k % 64) % 2 ^ 64)

  set_at : (e : ℕ) → e ≡ k → bit_at (get_or new (e / 64) 0) (e % 64) ≡ 1
  set_at e same =
      ap (λ n. bit_at (get_or new (n / 64) 0) (n % 64)) same
      ∙ ap (λ x. bit_at x (k % 64)) (at_place old new k with_bit within is k refl)
      ∙ bit_at_set_same w64 (get_or old (k / 64) 0) (k % 64) (small k)

  set_other : (e : ℕ) → (e ≡ k → ⊥) → bit_at (get_or new (e / 64) 0) (e % 64) ≡ bit_at (get_or old (e / 64) 0) (e % 64)
  set_other e other =
      elim (cases_eq (e / 64) (k / 64)) [
        | inl place ↦
            ap (λ x. bit_at x (e % 64)) (at_place old new k with_bit within is e place)
            ∙ bit_at_set_other w64 (get_or old (k / 64) 0) (k % 64) (small k) (e % 64) (other_bit e k other place)
            ∙ ap (λ p. bit_at (get_or old p 0) (e % 64)) (sym place)
        | inr apart ↦ ap (λ x. bit_at x (e % 64)) (elsewhere old new k with_bit within is e apart)
      ]

  pub has_one_more : (e : ℕ) → has_bit new e ≡ (e == k || has_bit old e)
  unfolding has_bit
  has_one_more e =
      elim (cases_eq e k) [
        | inl same ↦ eq-eqb _ 1 (set_at e same) ∙ sym (ap (λ b. b || (bit_at (get_or old (e / 64) 0) (e % 64) == 1)) (eq-eqb e k same))
        | inr other ↦ ap (λ b. b == 1) (set_other e other) ∙ sym (ap (λ b. b || (bit_at (get_or old (e / 64) 0) (e % 64) == 1)) (ne_eqb e k other))
      ]

-- the test of a bit
pub has_tests : (words : List ℕ) (e : ℕ) → (bit_and (get_or words (e / 64) 0 / 2 ^ (e % 64)) 1 == 1) ≡ has_bit words e
unfolding has_bit
has_tests words e = ap (λ b. b == 1) (shr_and_one (get_or words (e / 64) 0) (e % 64))
