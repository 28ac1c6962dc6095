-- What one bit set or cleared, and words more, change of all bits.
use Rattle.std.specs.Prelude.{◌==◌, ◌&&◌, not, bit_and}
use Rattle.std.specs.Int.{bit_at, bit_not}
use Rattle.std.proofs.Common.{◌≡◌, ℕ, ◌-◌, ◌*◌, ◌/◌, ◌%◌, ◌^◌, ◌<◌, ◌≤◌, min, Bool, true, false, List, ◌++◌, append-nil, length, get_or, set, take, drop, sym, ap, ◌∙◌, inl, inr, arith, eq-eqb, w64, refl}
use Rattle.std.proofs.lemmas.Bool.{cases_eq, cases_lt, ne_eqb}
use Rattle.std.proofs.lemmas.Bool.Decides.{nat_tests}
use Rattle.std.proofs.lemmas.List.{at_drop_all, get_or_past, take_all}
use Rattle.std.proofs.lemmas.Nat.Bits.{bit_at-lt, bit_at-zero, bit_at_and, bit_at_not, bit_at_clear_other, bit_at_clear_same}
use Rattle.ecs_model.proofs.Bits.{at_place, elsewhere, other_bit, small}
use Rattle.ecs_model.specs.BitWords.{has_bit}
use Rattle.entity_set.specs.Members.{has_else}

-- a slice that is written back whole
pub written_back : (new old : List ℕ) (n : ℕ) → length new ≡ length old → length old ≡ n → take n (new ++ drop (length new) old) ≡ new
written_back new old n same long =
    at_drop_all (λ d. take n (new ++ d)) old (length new) (omega (arith, same)) ∙ ap (take n) (append-nil new) ∙ take_all n new (omega (arith, same, long))

and_not : (a b : Bool) → b ≡ true → (a && not b) ≡ false
and_not true true h = refl
and_not false true h = refl
and_not true false h = sym h
and_not false false h = refl

and_other : (a b : Bool) → b ≡ false → (a && not b) ≡ a
and_other true false h = refl
and_other false false h = refl
and_other true true h = sym h
and_other false true h = refl

-- a bit that is cleared
module _ (old new : List ℕ) (k : ℕ) (within : k / 64 < length old) (is : new ≡ set old (k / 64) (bit_and (get_or old (k / 64) 0) (bit_not w64 (1 * 2 ^ (k % 64) % 2 ^ 64)))) where
  abbrev without_bit : ℕ
  without_bit = bit_and (get_or old (k / 64) 0) (bit_not w64 (1 * 2 ^ (k % 64) % 2 ^ 64))

  clear_at : (e : ℕ) → e ≡ k → bit_at (get_or new (e / 64) 0) (e % 64) ≡ 0
  clear_at e same =
      ap (λ n. bit_at (get_or new (n / 64) 0) (n % 64)) same
      ∙ ap (λ x. bit_at x (k % 64)) (at_place old new k without_bit within is k refl)
      ∙ bit_at_clear_same w64 (get_or old (k / 64) 0) (k % 64) (small k)

  clear_other : (e : ℕ) → (e ≡ k → ⊥) → bit_at (get_or new (e / 64) 0) (e % 64) ≡ bit_at (get_or old (e / 64) 0) (e % 64)
  clear_other e other =
      elim (cases_eq (e / 64) (k / 64)) [
        | inl place ↦
            ap (λ x. bit_at x (e % 64)) (at_place old new k without_bit within is e place)
            ∙ bit_at_clear_other w64 (get_or old (k / 64) 0) (k % 64) (small k) (e % 64) (small e) (other_bit e k other place)
            ∙ ap (λ p. bit_at (get_or old p 0) (e % 64)) (sym place)
        | inr apart ↦ ap (λ x. bit_at x (e % 64)) (elsewhere old new k without_bit within is e apart)
      ]

  pub has_one_less : (e : ℕ) → has_bit new e ≡ (has_bit old e && not (e == k))
  unfolding has_bit
  has_one_less e =
      elim (cases_eq e k) [
        | inl same ↦ ap (λ b. b == 1) (clear_at e same) ∙ sym (and_not (bit_at (get_or old (e / 64) 0) (e % 64) == 1) (e == k) (eq-eqb e k same))
        | inr other ↦ ap (λ b. b == 1) (clear_other e other) ∙ sym (and_other (bit_at (get_or old (e / 64) 0) (e % 64) == 1) (e == k) (ne_eqb e k other))
      ]

-- what has no word isn't there
pub has_none : (words : List ℕ) (e : ℕ) → get_or words (e / 64) 0 ≡ 0 → has_bit words e ≡ false
unfolding has_bit
has_none words e none = ap (λ x. bit_at x (e % 64) == 1) none ∙ ap (λ b. b == 1) (bit_at-zero (e % 64))

pub same_word : (words others : List ℕ) (e : ℕ) → get_or words (e / 64) 0 ≡ get_or others (e / 64) 0 → has_bit words e ≡ has_bit others e
unfolding has_bit
same_word words others e same = ap (λ x. bit_at x (e % 64) == 1) same

-- a number that has no word isn't there to be cleared
pub past_words : (words : List ℕ) (k : ℕ) → length words ≤ k / 64 → (e : ℕ) → has_bit words e ≡ (has_bit words e && not (e == k))
past_words words k past e =
    elim (cases_eq e k) [
      | inl same ↦
          let none : has_bit words e ≡ false = has_none words e (get_or_past words (e / 64) 0 (omega (arith, past, same))) in
          none ∙ sym (ap (λ b. b && not (e == k)) none)
      | inr other ↦ sym (and_other (has_bit words e) (e == k) (ne_eqb e k other))
    ]

-- more words, of which no bit is set
pub grown_has : (old new : List ℕ) (m n : ℕ) → length old ≡ m → length new ≡ n → ((k d : ℕ) → k < n → k < m → get_or new k d ≡ get_or old k d)
    → ((k d : ℕ) → m ≤ k → k < n → get_or new k d ≡ 0) → m ≤ n → (e : ℕ) → has_bit new e ≡ has_bit old e
grown_has old new m n before after same more wider e =
    same_word new old e (elim (cases_lt (e / 64) m) [
      | inl within ↦ same (e / 64) 0 (omega arith) within
      | inr past ↦
          elim (cases_lt (e / 64) n) [
            | inl added ↦ more (e / 64) 0 past added
            | inr beyond ↦ get_or_past new (e / 64) 0 (omega arith)
          ] ∙ sym (get_or_past old (e / 64) 0 (omega arith))
    ])

-- a word that has no bit that another lacks
bits_apart : (x y z : ℕ) → x < 2 → y < 2 → z ≡ 1 - y → min x z ≡ 0 → ((x == 1) && not (y == 1)) ≡ false
bits_apart x y z low small is none = grind (arith, nat_tests)

pub none_else : (a b i : ℕ) → b < 2 ^ 64 → i < 64 → bit_and a (bit_not w64 b) ≡ 0 → ((bit_at a i == 1) && not (bit_at b i == 1)) ≡ false
none_else a b i fits low none =
    bits_apart (bit_at a i) (bit_at b i) (bit_at (bit_not w64 b) i) (bit_at-lt a i) (bit_at-lt b i) (bit_at_not w64 b i fits low)
    (sym (bit_at_and a (bit_not w64 b) i) ∙ ap (λ x. bit_at x i) none ∙ bit_at-zero i)

pub nothing_else : (words others : List ℕ) (place e : ℕ) → e / 64 ≡ place → get_or others place 0 < 2 ^ 64 → bit_and (get_or words place 0) (bit_not w64 (get_or others place 0)) ≡ 0
    → has_else words others e ≡ false
unfolding has_bit
nothing_else words others place e at fits none =
    ap (λ p. (bit_at (get_or words p 0) (e % 64) == 1) && not (bit_at (get_or others p 0) (e % 64) == 1)) at
    ∙ none_else (get_or words place 0) (get_or others place 0) (e % 64) fits (small e) none
