-- The bits of slots as a list, and what a write to a word, and words more, change of it.
use Rattle.std.specs.Prelude.{◌==◌, bit_and, bit_or}
use Rattle.std.specs.Int.{bit_at, bit_not}
use Rattle.std.proofs.Common.{◌≡◌, ◌≢◌, ℕ, ◌+◌, ◌-◌, ◌*◌, ◌/◌, ◌%◌, ◌^◌, ◌<◌, ◌≤◌, min, Bool, true, false, cond, List, [], length, get_or, set, refl, sym, ap, ◌∙◌, inl, inr, arith, w64}
use Rattle.std.proofs.lemmas.Bool.{cases_eq, cases_lt}
use Rattle.std.proofs.lemmas.Bool.Decides.{nat_tests}
use Rattle.std.proofs.lemmas.Grind.{get_or-set_at}
use Rattle.std.proofs.lemmas.List.{get_or_default, get_or_past, get_or-set_other, length-set}
use Rattle.std.proofs.lemmas.List.FromFn.{fill_by_all, get_or-map-range_with_len, length-map-range_with_len}
use Rattle.std.proofs.lemmas.Nat.{pow_pos, shr-shr}
use Rattle.std.proofs.lemmas.Nat.Bits.{bit_at-lt, bit_at-zero, bit_at_above, bit_at_and, bit_at_cat_high, bit_at_cat_low, bit_at_clear_other, bit_at_clear_same, bit_at_not, bit_at_ones, bit_at_or, bit_at_set_other, bit_at_set_same, ones_shr}
use Rattle.table_store.specs.SlotBits.{bits_of, is_set}

-- ---- the list
pub length_bits : (words : List ℕ) → length (bits_of words) ≡ 64 * length words
unfolding bits_of
length_bits words = length-map-range_with_len (is_set words) 0 (64 * length words)

pub no_bits : bits_of [] ≡ []
unfolding bits_of
no_bits = refl

-- a slot that has a bit has a word
pub place_within : (words : List ℕ) (n : ℕ) → n < length (bits_of words) → n / 64 < length words
place_within words n within = omega (arith, within, length_bits words)

not_set : (words : List ℕ) (n : ℕ) → get_or words (n / 64) 0 ≡ 0 → is_set words n ≡ false
not_set words n none = ap (λ x. bit_at x (n % 64) == 1) none ∙ ap (λ b. b == 1) (bit_at-zero (n % 64))

pub bit_is : (words : List ℕ) (n : ℕ) → get_or (bits_of words) n false ≡ is_set words n
unfolding bits_of
bit_is words n = elim (cases_lt n (64 * length words)) [
  | inl within ↦ get_or-map-range_with_len (is_set words) 0 (64 * length words) n n false within (omega arith)
  | inr past ↦
      get_or_past (bits_of words) n false (omega (arith, past, length_bits words))
      ∙ sym (not_set words n (get_or_past words (n / 64) 0 (omega (arith, past))))
]

-- one bit is written
pub bits_written : (old new : List ℕ) (k : ℕ) (b : Bool) → length new ≡ length old → is_set new k ≡ b → ((n : ℕ) → n ≢ k → is_set new n ≡ is_set old n) → k < length (bits_of old)
    → bits_of new ≡ set (bits_of old) k b
unfolding bits_of
bits_written old new k b long here others within =
    sym (fill_by_all (is_set new) (set (bits_of old) k b) (64 * length new) false (length-set (bits_of old) k b ∙ length_bits old ∙ ap (λ n. 64 * n) (sym long)) (λ n low.
    elim (cases_eq n k) [
      | inl same ↦ get_or-set_at (bits_of old) k n b false same within ∙ sym here ∙ ap (is_set new) (sym same)
      | inr other ↦ get_or-set_other (bits_of old) k n b false other ∙ bit_is old n ∙ sym (others n other)
    ]))

-- words come whose bits are clear
pub bits_grown : (old new : List ℕ) → ((n : ℕ) → get_or new n 0 ≡ get_or old n 0) → (n : ℕ) → get_or (bits_of new) n false ≡ get_or (bits_of old) n false
bits_grown old new same n = bit_is new n ∙ ap (λ x. bit_at x (n % 64) == 1) (same (n / 64)) ∙ sym (bit_is old n)

-- ---- one word
small : (n : ℕ) → n % 64 < 64
small n = omega arith

other_bit : (n k : ℕ) → n ≢ k → n / 64 ≡ k / 64 → n % 64 ≢ k % 64
other_bit n k other place same = other (omega (arith, place, same))

module _ (old : List ℕ) (k word : ℕ) (within : k / 64 < length old) where
  abbrev written : List ℕ
  written = set old (k / 64) word

  pub word_here : (n : ℕ) → n / 64 ≡ k / 64 → get_or written (n / 64) 0 ≡ word
  word_here n place = get_or-set_at old (k / 64) (n / 64) word 0 place within

  pub others_stay : ((i : ℕ) → i < 64 → i ≢ k % 64 → bit_at word i ≡ bit_at (get_or old (k / 64) 0) i) → (n : ℕ) → n ≢ k → is_set written n ≡ is_set old n
  others_stay bits n other = elim (cases_eq (n / 64) (k / 64)) [
    | inl place ↦
        ap (λ x. bit_at x (n % 64) == 1) (word_here n place)
        ∙ ap (λ b. b == 1) (bits (n % 64) (small n) (other_bit n k other place))
        ∙ ap (λ p. bit_at (get_or old p 0) (n % 64) == 1) (sym place)
    | inr apart ↦ ap (λ x. bit_at x (n % 64) == 1) (get_or-set_other old (k / 64) (n / 64) word 0 apart)
  ]

module _ (old : List ℕ) (k : ℕ) (within : k / 64 < length old) (before d : ℕ) (is : before ≡ get_or old (k / 64) d) where
  was : before ≡ get_or old (k / 64) 0
  was = is ∙ get_or_default old (k / 64) d 0 within

  abbrev with_bit : ℕ
  with_bit = bit_or before (1 * 2 ^ (k % 64) % 2 ^ 64)

  abbrev without_bit : ℕ
  without_bit = bit_and before (bit_not w64 (1 * 2 ^ (k % 64) % 2 ^ 64))

  pub bit_set : is_set (set old (k / 64) with_bit) k ≡ true
  bit_set = ap (λ x. bit_at x (k % 64) == 1) (word_here old k with_bit within k refl) ∙ ap (λ b. b == 1) (bit_at_set_same w64 before (k % 64) (small k))

  pub bit_set_others : (n : ℕ) → n ≢ k → is_set (set old (k / 64) with_bit) n ≡ is_set old n
  bit_set_others = others_stay old k with_bit within (λ i low other. bit_at_set_other w64 before (k % 64) (small k) i other ∙ ap (λ x. bit_at x i) was)

  pub bit_cleared : is_set (set old (k / 64) without_bit) k ≡ false
  bit_cleared = ap (λ x. bit_at x (k % 64) == 1) (word_here old k without_bit within k refl) ∙ ap (λ b. b == 1) (bit_at_clear_same w64 before (k % 64) (small k))

  pub bit_cleared_others : (n : ℕ) → n ≢ k → is_set (set old (k / 64) without_bit) n ≡ is_set old n
  bit_cleared_others = others_stay old k without_bit within (λ i low other. bit_at_clear_other w64 before (k % 64) (small k) i low other ∙ ap (λ x. bit_at x i) was)

-- ---- the bits from a slot on
as_number : (x : ℕ) → x < 2 → x ≡ cond (x == 1) 1 0
as_number x low = grind (arith, nat_tests)

shifted_down : (w s n : ℕ) → bit_at (w / 2 ^ s) n ≡ bit_at w (s + n)
shifted_down w s n = ap (λ x. x % 2) (shr-shr w s n)

-- a word shifted up: its low bits are clear, and the others are the word's
shifted_low : (w t n : ℕ) → n < 64 → n < t → bit_at (w * 2 ^ t % 2 ^ 64) n ≡ 0
shifted_low w t n low below =
    let whole : w * 2 ^ t ≡ w * 2 ^ t / 2 ^ 64 * 2 ^ 64 + w * 2 ^ t % 2 ^ 64 = omega arith in
    let none : w * 2 ^ t ≡ w * 2 ^ t + 0 = omega arith in
    sym (ap (λ x. bit_at x n) whole ∙ bit_at_cat_low (w * 2 ^ t / 2 ^ 64) 64 (w * 2 ^ t % 2 ^ 64) n low)
    ∙ ap (λ x. bit_at x n) none ∙ bit_at_cat_low w t 0 n below ∙ bit_at-zero n

shifted_high : (w t n : ℕ) → n < 64 → t ≤ n → bit_at (w * 2 ^ t % 2 ^ 64) n ≡ bit_at w (n - t)
shifted_high w t n low above =
    let whole : w * 2 ^ t ≡ w * 2 ^ t / 2 ^ 64 * 2 ^ 64 + w * 2 ^ t % 2 ^ 64 = omega arith in
    let none : w * 2 ^ t ≡ w * 2 ^ t + 0 = omega arith in
    sym (ap (λ x. bit_at x n) whole ∙ bit_at_cat_low (w * 2 ^ t / 2 ^ 64) 64 (w * 2 ^ t % 2 ^ 64) n low)
    ∙ ap (λ x. bit_at x n) none ∙ bit_at_cat_high w t 0 n (pow_pos t) above

module _ (words : List ℕ) (slot n : ℕ) (low : n < 64) where
  told : (p i : ℕ) → (slot + n) / 64 ≡ p → (slot + n) % 64 ≡ i → bit_at (get_or words p 0) i ≡ cond (is_set words (slot + n)) 1 0
  told p i place at =
      ap (λ q. bit_at (get_or words q 0) i) (sym place) ∙ ap (bit_at (get_or words ((slot + n) / 64) 0)) (sym at)
      ∙ as_number (bit_at (get_or words ((slot + n) / 64) 0) ((slot + n) % 64)) (bit_at-lt (get_or words ((slot + n) / 64) 0) ((slot + n) % 64))

  -- the slot is the first of its word
  pub window_one : slot % 64 ≡ 0 → bit_at (get_or words (slot / 64) 0 / 2 ^ (slot % 64)) n ≡ cond (is_set words (slot + n)) 1 0
  window_one first = shifted_down (get_or words (slot / 64) 0) (slot % 64) n ∙ told (slot / 64) (slot % 64 + n) (omega (arith, first, low)) (omega (arith, first, low))

  pub window_two : get_or words (slot / 64) 0 < 2 ^ 64
      → bit_at (bit_or (get_or words (slot / 64) 0 / 2 ^ (slot % 64)) (get_or words (slot / 64 + 1) 0 * 2 ^ (64 - slot % 64) % 2 ^ 64)) n ≡ cond (is_set words (slot + n)) 1 0
  window_two fits =
      let s : ℕ = slot % 64 in
      let this : ℕ = get_or words (slot / 64) 0 in
      let next : ℕ = get_or words (slot / 64 + 1) 0 in
      bit_at_or (this / 2 ^ s) (next * 2 ^ (64 - s) % 2 ^ 64) n
      ∙ elim (cases_lt (s + n) 64) [
        | inl here ↦
            let above = shifted_low next (64 - s) n low (omega (arith, here)) in
            let is = shifted_down this s n in
            omega (arith, above, is) ∙ told (slot / 64) (s + n) (omega (arith, here)) (omega (arith, here))
        | inr there ↦
            let below = shifted_down this s n ∙ bit_at_above this 64 (s + n) fits there in
            let is = shifted_high next (64 - s) n low (omega (arith, there)) in
            omega (arith, below, is) ∙ told (slot / 64 + 1) (n - (64 - s)) (omega (arith, there, low)) (omega (arith, there, low))
      ]

-- ---- bits that are all set
none_clear : (x y : ℕ) → x < 2 → y ≡ 1 → min (1 - x) y ≡ 0 → (b : Bool) → x ≡ cond b 1 0 → b ≡ true
none_clear x y low one none true is = refl
none_clear x y low one none false is = absurd (omega (arith, one, none, is))

pub set_behind : (bits width n : ℕ) → bits < 2 ^ 64 → width ≤ 64 → n + 1 < width → bit_and (bit_not w64 bits) (bit_and ((2 ^ 64 - 1) / 2 ^ ((64 - width) % 64)) (bit_not w64 1)) ≡ 0
    → (b : Bool) → bit_at bits (n + 1) ≡ cond b 1 0 → b ≡ true
set_behind bits width n fits small within none =
    let k : ℕ = 64 - width in
    let shift : (64 - width) % 64 ≡ k = omega (arith, within) in
    let mask : bit_at ((2 ^ 64 - 1) / 2 ^ ((64 - width) % 64)) (n + 1) ≡ 1
    = ap (λ j. bit_at ((2 ^ 64 - 1) / 2 ^ j) (n + 1)) shift ∙ ap (λ x. bit_at x (n + 1)) (ones_shr 64 k (omega arith)) ∙ bit_at_ones (64 - k) (n + 1) (omega (arith, within, small)) in
    let rest : bit_at (bit_not w64 1) (n + 1) ≡ 1
    = bit_at_not w64 1 (n + 1) (omega arith) (omega (arith, within, small)) ∙ ap (λ x. 1 - x) (bit_at_above 1 1 (n + 1) (omega arith) (omega arith)) in
    let both : bit_at (bit_and ((2 ^ 64 - 1) / 2 ^ ((64 - width) % 64)) (bit_not w64 1)) (n + 1) ≡ 1
    = bit_at_and ((2 ^ 64 - 1) / 2 ^ ((64 - width) % 64)) (bit_not w64 1) (n + 1) ∙ omega (arith, mask, rest) in
    none_clear (bit_at bits (n + 1)) (bit_at (bit_and ((2 ^ 64 - 1) / 2 ^ ((64 - width) % 64)) (bit_not w64 1)) (n + 1)) (bit_at-lt bits (n + 1)) both
    (
    ap (λ x. min x (bit_at (bit_and ((2 ^ 64 - 1) / 2 ^ ((64 - width) % 64)) (bit_not w64 1)) (n + 1))) (sym (bit_at_not w64 bits (n + 1) fits (omega (arith, within, small))))
    ∙ sym (bit_at_and (bit_not w64 bits) (bit_and ((2 ^ 64 - 1) / 2 ^ ((64 - width) % 64)) (bit_not w64 1)) (n + 1))
    ∙ ap (λ x. bit_at x (n + 1)) none ∙ bit_at-zero (n + 1)
    )
