-- The numbers of a word: whether it has one, and how they are listed.
use Rattle.std.specs.Prelude.{◌==◌, ◌&&◌, ◌||◌, bit_and, bit_or, filter}
use Rattle.std.specs.Int.{bit_at, bit_not, trailing_zeros}
use Rattle.std.specs.List.{range_with_len}
use Rattle.std.proofs.Common.{◌≡◌, ℕ, zero, suc, ◌+◌, ◌*◌, ◌/◌, ◌%◌, ◌^◌, ◌<◌, ◌≤◌, Bool, true, false, cond, List, [], ◌∷◌, ◌++◌, append-nil, append_assoc, refl, sym, ap, ◌∙◌, inl, inr, arith, eq-eqb, w64}
use Rattle.std.proofs.lemmas.Bool.{cases_eq, cases_lt, ne_eqb}
use Rattle.std.proofs.lemmas.Bool.Decides.{Decides-eqb}
use Rattle.std.proofs.lemmas.Nat.{and_le_l, one_shl}
use Rattle.std.proofs.lemmas.Nat.Bits.{bit_at-zero, bit_at-pow_other, bit_at-pow_same, bit_at-trailing_zeros, bit_at_clear_other, bit_at_clear_same, bit_at_set_other, bit_at_set_same}
use Rattle.watch_index.specs.Listed.{Loses, has}
use Rattle.watch_index.specs.Words.{block_size, has_bit, numbers_at}

-- ---- what passes a test in a range
none_passes : (p : ℕ → Bool) → ((k : ℕ) → p k ≡ false) → (n a : ℕ) → filter p (range_with_len a n) ≡ []
none_passes p none zero a = refl
none_passes p none (suc n) a =
    ap (λ b. cond b (a ∷ filter p (range_with_len (a + 1) n)) (filter p (range_with_len (a + 1) n))) (none a) ∙ none_passes p none n (a + 1)

same_pass : (p q : ℕ → Bool) (n a : ℕ) → ((k : ℕ) → a ≤ k → k < a + n → q k ≡ p k) → filter q (range_with_len a n) ≡ filter p (range_with_len a n)
same_pass p q zero a same = refl
same_pass p q (suc n) a same =
    ap (λ b. cond b (a ∷ filter q (range_with_len (a + 1) n)) (filter q (range_with_len (a + 1) n))) (same a (omega arith) (omega arith))
    ∙ ap (λ xs. cond (p a) (a ∷ xs) xs) (same_pass p q n (a + 1) (λ k low high. same k (omega (arith, low)) (omega (arith, high))))

-- a list of which the first passes
module _ (p q : ℕ → Bool) (a x : ℕ) (rest : List ℕ) where
  first_stays_out : p a ≡ false → q a ≡ false → filter p rest ≡ x ∷ filter q rest → filter p (a ∷ rest) ≡ x ∷ filter q (a ∷ rest)
  first_stays_out none gone behind =
      ap (λ b. cond b (a ∷ filter p rest) (filter p rest)) none ∙ behind ∙ ap (λ b. x ∷ cond b (a ∷ filter q rest) (filter q rest)) (sym gone)

  first_is_it : a ≡ x → p x ≡ true → q x ≡ false → filter q rest ≡ filter p rest → filter p (a ∷ rest) ≡ x ∷ filter q (a ∷ rest)
  first_is_it at here gone same =
      ap (λ b. cond b (a ∷ filter p rest) (filter p rest)) (ap p at ∙ here)
      ∙ ap (λ xs. a ∷ xs) (sym same)
      ∙ ap (λ k. k ∷ filter q rest) at
      ∙ ap (λ b. x ∷ cond b (a ∷ filter q rest) (filter q rest)) (sym (ap q at ∙ gone))

-- the least number that passes one test, where it alone doesn't pass the other
least_out : (p q : ℕ → Bool) (x n a : ℕ) → a ≤ x → x < a + n → ((k : ℕ) → a ≤ k → k < x → p k ≡ false) → p x ≡ true → q x ≡ false
    → ((k : ℕ) → a ≤ k → k < a + n → (k ≡ x → ⊥) → q k ≡ p k) → filter p (range_with_len a n) ≡ x ∷ filter q (range_with_len a n)
least_out p q x zero a low high none here gone same = absurd (omega (arith, low, high))
least_out p q x (suc n) a low high none here gone same =
    elim (cases_lt a x) [
      | inl less ↦
          first_stays_out p q a x (range_with_len (a + 1) n) (none a (omega arith) less) (same a (omega arith) (omega arith) (λ e. omega (arith, less, e)) ∙ none a (omega arith) less)
          (least_out p q x n (a + 1) (omega (arith, less)) (omega (arith, high)) (λ k l h. none k (omega (arith, l)) h) here gone
          (λ k l h apart. same k (omega (arith, l)) (omega (arith, h)) apart))
      | inr more ↦
          first_is_it p q a x (range_with_len (a + 1) n) (omega (arith, low, more)) here gone
          (same_pass p q n (a + 1) (λ k l h. same k (omega (arith, l)) (omega (arith, h)) (λ e. omega (arith, l, e, more))))
    ]

-- ---- the least number of a word
size_is : block_size ≡ 64
unfolding block_size
size_is = refl

abbrev pub cleared : ℕ → ℕ → ℕ
cleared bits t = bit_and bits (bit_not w64 (1 * 2 ^ t % 2 ^ 64))

module _ (block t : ℕ) (small : t < 64) where
  own_block : (k : ℕ) → 64 * block ≤ k → k < 64 * block + block_size → k / 64 ≡ block
  own_block k l h = omega (arith, l, h, size_is)

  at_bit : (block * 64 + t) % 64 ≡ t
  at_bit = omega (arith, small)

  lower : (k : ℕ) → 64 * block ≤ k → k < block * 64 + t → k % 64 < t
  lower k l h = omega (arith, own_block k l (omega (arith, h, small, size_is)), h)

  other_bit : (k : ℕ) → 64 * block ≤ k → k < 64 * block + block_size → (k ≡ block * 64 + t → ⊥) → k % 64 ≡ t → ⊥
  other_bit k l h apart e = apart (omega (arith, own_block k l h, e))

  -- one of two tests that differ in the number of a bit alone
  number_out : (p q : ℕ → Bool) → ((i : ℕ) → i < t → p i ≡ false) → p t ≡ true → q t ≡ false → ((i : ℕ) → i < 64 → (i ≡ t → ⊥) → q i ≡ p i)
      → filter (λ k. p (k % 64)) (range_with_len (64 * block) block_size) ≡ (block * 64 + t) ∷ filter (λ k. q (k % 64)) (range_with_len (64 * block) block_size)
  number_out p q none here gone same =
      least_out (λ k. p (k % 64)) (λ k. q (k % 64)) (block * 64 + t) block_size (64 * block) (omega arith) (omega (arith, small, size_is))
      (λ k l h. none (k % 64) (lower k l h)) (ap p at_bit ∙ here) (ap q at_bit ∙ gone)
      (λ k l h apart. same (k % 64) (omega arith) (other_bit k l h apart))

-- a word without bits has no number
pub no_bits : (block bits : ℕ) → bits ≡ 0 → numbers_at block bits ≡ []
unfolding numbers_at
no_bits block bits none = none_passes (has_bit bits) (λ k. ap (λ x. bit_at x (k % 64) == 1) none ∙ ap (λ b. b == 1) (bit_at-zero (k % 64))) block_size (64 * block)

-- and one with bits has that of the lowest first
pub lowest_out : (block bits : ℕ) → 0 < bits → bits < 2 ^ 64 → numbers_at block bits ≡ (block * 64 + trailing_zeros w64 bits) ∷ numbers_at block (cleared bits (trailing_zeros w64 bits))
unfolding numbers_at
lowest_out block bits some fits =
    let t : ℕ = trailing_zeros w64 bits in
    let lowest = bit_at-trailing_zeros w64 bits some fits in
    number_out block t lowest.0 (λ i. bit_at bits i == 1) (λ i. bit_at (cleared bits t) i == 1)
    (λ i less. ap (λ b. b == 1) (lowest.2 i less)) (ap (λ b. b == 1) lowest.1) (ap (λ b. b == 1) (bit_at_clear_same w64 bits t lowest.0))
    (λ i low apart. ap (λ b. b == 1) (bit_at_clear_other w64 bits t lowest.0 i low apart))

-- a bit that is set and is cleared leaves less
pub cleared_less : (bits t : ℕ) → t < 64 → bit_at bits t ≡ 1 → cleared bits t < bits
cleared_less bits t small set =
    elim (cases_eq (cleared bits t) bits) [
      | inl same ↦
          absurd (omega (arith, set, bit_at_clear_same w64 bits t small, ap (λ x. bit_at x t) same))
      | inr other ↦ below (cleared bits t) bits (and_le_l bits (bit_not w64 (1 * 2 ^ t % 2 ^ 64))) other
    ]
  where
    below : (a b : ℕ) → a ≤ b → (a ≡ b → ⊥) → a < b
    below a b le apart = elim (cases_lt a b) [ inl less ↦ less | inr more ↦ absurd (apart (omega (arith, le, more))) ]

pub some_bits : (block bits : ℕ) → bits < 2 ^ 64 → numbers_at block bits ≡ [] → bits ≡ 0
some_bits block bits fits none =
    elim (cases_lt 0 bits) [
      | inl some ↦ let no : (block * 64 + trailing_zeros w64 bits) ∷ numbers_at block (cleared bits (trailing_zeros w64 bits)) ≡ [] = sym (lowest_out block bits some fits) ∙ none in cc
      | inr more ↦ omega (arith, more)
    ]

-- the word of one number
pub one_number : (n : ℕ) → numbers_at (n / 64) (1 * 2 ^ (n % 64) % 2 ^ 64) ≡ n ∷ []
unfolding numbers_at
one_number n =
    let t : ℕ = n % 64 in
    let small : t < 64 = omega arith in
    let pow : 1 * 2 ^ t % 2 ^ 64 ≡ 2 ^ t = one_shl t 64 small in
    let p : ℕ → Bool = λ i. bit_at (1 * 2 ^ t % 2 ^ 64) i == 1 in
    let others : (i : ℕ) → (i ≡ t → ⊥) → p i ≡ false = λ i apart. ap (λ x. bit_at x i == 1) pow ∙ ap (λ b. b == 1) (bit_at-pow_other t i apart) in
    let back : n / 64 * 64 + t ≡ n = omega arith in
    number_out (n / 64) t small p (λ i. false) (λ i less. others i (λ e. omega (arith, less, e))) (ap (λ x. bit_at x t == 1) pow ∙ ap (λ b. b == 1) (bit_at-pow_same t)) refl
    (λ i low apart. sym (others i apart))
    ∙ (λ j. back j ∷ none_passes (λ k. false) (λ k. refl) block_size (64 * (n / 64)) j)

-- the numbers of a word are listed one by one
module _ (block left : ℕ) (was now start all : List ℕ) (done : was ++ numbers_at block left ≡ start ++ all) where
  pub one_listed : (number : ℕ) → number ≡ block * 64 + trailing_zeros w64 left → 0 < left → left < 2 ^ 64 → now ≡ was ++ number ∷ []
      → now ++ numbers_at block (cleared left (trailing_zeros w64 left)) ≡ start ++ all
  one_listed number lowest some fits is =
      let rest = numbers_at block (cleared left (trailing_zeros w64 left)) in
      ap (λ xs. xs ++ rest) (is ∙ ap (λ m. was ++ m ∷ []) lowest)
      ∙ append_assoc was ((block * 64 + trailing_zeros w64 left) ∷ []) rest
      ∙ ap (λ xs. was ++ xs) (sym (lowest_out block left some fits))
      ∙ done

  pub all_listed : left ≡ 0 → was ≡ start ++ all
  all_listed none = sym (append-nil was) ∙ ap (λ xs. was ++ xs) (sym (no_bits block left none)) ∙ done

-- ---- whether a word has a number
and_none : (b : Bool) → (b && false) ≡ false
and_none true = refl
and_none false = refl

has_passing : (p : ℕ → Bool) (n : ℕ) (xs : List ℕ) → has (filter p xs) n ≡ (has xs n && p n)
has_passing p n [] = refl
has_passing p n (x ∷ xs) = by (p x) (n == x) refl refl (has_passing p n xs)
  where
    by : (b c : Bool) → p x ≡ b → (n == x) ≡ c → has (filter p xs) n ≡ (has xs n && p n) → has (cond b (x ∷ filter p xs) (filter p xs)) n ≡ ((c || has xs n) && p n)
    by true true e f rest = ap (λ d. d || has (filter p xs) n) f ∙ sym (ap p ((Decides-eqb n x).0 f) ∙ e)
    by true false e f rest = ap (λ d. d || has (filter p xs) n) f ∙ rest
    by false true e f rest =
        let none : p n ≡ false = ap p ((Decides-eqb n x).0 f) ∙ e in
        rest ∙ ap (λ d. has xs n && d) none ∙ and_none (has xs n) ∙ sym none
    by false false e f rest = rest

in_range : (n m a : ℕ) → a ≤ n → n < a + m → has (range_with_len a m) n ≡ true
in_range n zero a low high = absurd (omega (arith, low, high))
in_range n (suc m) a low high =
    elim (cases_lt a n) [
      | inl less ↦ ap (λ b. b || has (range_with_len (a + 1) m) n) (ne_eqb n a (λ e. omega (arith, less, e))) ∙ in_range n m (a + 1) (omega (arith, less)) (omega (arith, high))
      | inr more ↦ ap (λ b. b || has (range_with_len (a + 1) m) n) (eq-eqb n a (omega (arith, low, more)))
    ]

out_of_range : (n m a : ℕ) → ((k : ℕ) → a ≤ k → k < a + m → n ≡ k → ⊥) → has (range_with_len a m) n ≡ false
out_of_range n zero a none = refl
out_of_range n (suc m) a none =
    ap (λ b. b || has (range_with_len (a + 1) m) n) (ne_eqb n a (none a (omega arith) (omega arith)))
    ∙ out_of_range n m (a + 1) (λ k l h. none k (omega (arith, l)) (omega (arith, h)))

in_block : (block n : ℕ) → has (range_with_len (64 * block) block_size) n ≡ (block == n / 64)
in_block block n =
    elim (cases_eq block (n / 64)) [
      | inl at ↦ in_range n block_size (64 * block) (omega (arith, at)) (omega (arith, at, size_is)) ∙ sym (eq-eqb block (n / 64) at)
      | inr other ↦ out_of_range n block_size (64 * block) (λ k l h e. other (omega (arith, l, h, e, size_is))) ∙ sym (ne_eqb block (n / 64) other)
    ]

has_is : (block bits n : ℕ) → has (numbers_at block bits) n ≡ ((block == n / 64) && has_bit bits n)
unfolding numbers_at
has_is block bits n = has_passing (has_bit bits) n (range_with_len (64 * block) block_size) ∙ ap (λ b. b && has_bit bits n) (in_block block n)

-- a word has no number of another block
pub other_block : (block bits n : ℕ) → (block ≡ n / 64 → ⊥) → has (numbers_at block bits) n ≡ false
other_block block bits n other = has_is block bits n ∙ ap (λ b. b && has_bit bits n) (ne_eqb block (n / 64) other)

-- ---- one bit more, and one less
alike : (block bits new n : ℕ) → (block ≡ n / 64 → bit_at new (n % 64) ≡ bit_at bits (n % 64)) → ((block == n / 64) && has_bit new n) ≡ ((block == n / 64) && has_bit bits n)
alike block bits new n same =
    elim (cases_eq block (n / 64)) [
      | inl at ↦ ap (λ x. (block == n / 64) && (x == 1)) (same at)
      | inr other ↦ ap (λ b. b && has_bit new n) (ne_eqb block (n / 64) other) ∙ sym (ap (λ b. b && has_bit bits n) (ne_eqb block (n / 64) other))
    ]

module _ (block bits new number : ℕ) (own : block ≡ number / 64) (v : Bool) (at : has_bit new number ≡ v) (others : (i : ℕ) → i < 64 → (i ≡ number % 64 → ⊥) → bit_at new i ≡ bit_at bits i) where
  changed : (n : ℕ) → has (numbers_at block new) n ≡ cond (number == n) v (has (numbers_at block bits) n)
  changed n =
      elim (cases_eq number n) [
        | inl same ↦
            has_is block new n
            ∙ ap (λ b. b && has_bit new n) (eq-eqb block (n / 64) (own ∙ ap (λ k. k / 64) same))
            ∙ ap (has_bit new) (sym same) ∙ at
            ∙ sym (ap (λ b. cond b v (has (numbers_at block bits) n)) (eq-eqb number n same))
        | inr other ↦
            has_is block new n
            ∙ alike block bits new n (λ here. others (n % 64) (omega arith) (λ e. other (omega (arith, e, own, here))))
            ∙ sym (has_is block bits n)
            ∙ sym (ap (λ b. cond b v (has (numbers_at block bits) n)) (ne_eqb number n other))
      ]

module _ (block bits number : ℕ) (own : block ≡ number / 64) where
  small_bit : number % 64 < 64
  small_bit = omega arith

  pub one_more : (n : ℕ) → has (numbers_at block (bit_or bits (1 * 2 ^ (number % 64) % 2 ^ 64))) n ≡ cond (number == n) true (has (numbers_at block bits) n)
  one_more =
      changed block bits (bit_or bits (1 * 2 ^ (number % 64) % 2 ^ 64)) number own true (ap (λ b. b == 1) (bit_at_set_same w64 bits (number % 64) small_bit))
      (λ i low apart. bit_at_set_other w64 bits (number % 64) small_bit i apart)

  pub one_less : Loses (numbers_at block bits) (numbers_at block (cleared bits (number % 64))) number
  one_less =
      changed block bits (cleared bits (number % 64)) number own false (ap (λ b. b == 1) (bit_at_clear_same w64 bits (number % 64) small_bit))
      (λ i low apart. bit_at_clear_other w64 bits (number % 64) small_bit i low apart)
