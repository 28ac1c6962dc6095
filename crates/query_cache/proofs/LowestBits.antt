-- The tables of a block, one by one: that of the lowest bit comes first.
use Rattle.std.specs.Prelude.{◌==◌, bit_and, filter}
use Rattle.std.specs.Int.{bit_at, bit_not, trailing_zeros}
use Rattle.std.specs.List.{range_with_len}
use Rattle.std.proofs.Common.{◌≡◌, ℕ, zero, suc, ◌+◌, ◌*◌, ◌%◌, ◌^◌, ◌<◌, ◌≤◌, Bool, true, false, cond, List, [], ◌∷◌, ◌++◌, append-nil, append_assoc, length, map, take, refl, sym, ap, ◌∙◌, inl, inr, arith, w64}
use Rattle.std.proofs.lemmas.Bool.{cases_eq, cases_lt}
use Rattle.std.proofs.lemmas.Nat.{and_le_l}
use Rattle.std.proofs.lemmas.Nat.Bits.{bit_at-trailing_zeros, bit_at_clear_other, bit_at_clear_same}
use Rattle.std.proofs.Math.Seq.{take-append_seam}
use Rattle.ecs_id.specs.declared.TableKey.{TableKey}
use Rattle.ecs_model.proofs.Ranges.{filter_alike}
use Rattle.query_cache.specs.declared.table_block.Block.{Block}
use Rattle.query_cache.specs.TableList.{IsBlock, key_at, keys_of}
use Rattle.query_cache.proofs.BlockBits.{no_bits}

-- ---- a list of which the first passes
module _ (p q : ℕ → Bool) (a x : ℕ) (rest : List ℕ) where
  first_stays_out : p a ≡ false → q a ≡ false → filter p rest ≡ x ∷ filter q rest → filter p (a ∷ rest) ≡ x ∷ filter q (a ∷ rest)
  first_stays_out none gone behind =
      ap (λ b. cond b (a ∷ filter p rest) (filter p rest)) none ∙ behind ∙ ap (λ b. x ∷ cond b (a ∷ filter q rest) (filter q rest)) (sym gone)

  first_is_it : a ≡ x → p x ≡ true → q x ≡ false → filter q rest ≡ filter p rest → filter p (a ∷ rest) ≡ x ∷ filter q (a ∷ rest)
  first_is_it at here gone same =
      ap (λ b. cond b (a ∷ filter p rest) (filter p rest)) (ap p at ∙ here)
      ∙ ap (λ xs. a ∷ xs) (sym same)
      ∙ ap (λ k. k ∷ filter q rest) at
      ∙ ap (λ b. x ∷ cond b (a ∷ filter q rest) (filter q rest)) (sym (ap q at ∙ gone))

-- the least number that passes one test, where it alone doesn't pass the other
least_out : (p q : ℕ → Bool) (x n a : ℕ) → a ≤ x → x < a + n → ((k : ℕ) → a ≤ k → k < x → p k ≡ false) → p x ≡ true → q x ≡ false
    → ((k : ℕ) → a ≤ k → k < a + n → (k ≡ x → ⊥) → q k ≡ p k) → filter p (range_with_len a n) ≡ x ∷ filter q (range_with_len a n)
least_out p q x zero a low high none here gone same = absurd (omega (arith, low, high))
least_out p q x (suc n) a low high none here gone same =
    elim (cases_lt a x) [
      | inl less ↦
          first_stays_out p q a x (range_with_len (a + 1) n) (none a (omega arith) less) (same a (omega arith) (omega arith) (λ e. omega (arith, less, e)) ∙ none a (omega arith) less)
          (least_out p q x n (a + 1) (omega (arith, less)) (omega (arith, high)) (λ k l h. none k (omega (arith, l)) h) here gone
          (λ k l h apart. same k (omega (arith, l)) (omega (arith, h)) apart))
      | inr more ↦
          first_is_it p q a x (range_with_len (a + 1) n) (omega (arith, low, more)) here gone
          (filter_alike q p (a + 1) n (λ k l h. same k (omega (arith, l)) (omega (arith, h)) (λ e. omega (arith, l, e, more))))
    ]

-- ---- the lowest bit
abbrev pub cleared : ℕ → ℕ → ℕ
cleared bits t = bit_and bits (bit_not w64 (1 * 2 ^ t % 2 ^ 64))

-- a bit that is set and is cleared leaves less
pub cleared_less : (bits t : ℕ) → t < 64 → bit_at bits t ≡ 1 → cleared bits t < bits
cleared_less bits t small set =
    elim (cases_eq (cleared bits t) bits) [
      | inl same ↦ absurd (omega (arith, set, bit_at_clear_same w64 bits t small, ap (λ x. bit_at x t) same))
      | inr other ↦ below (cleared bits t) bits (and_le_l bits (bit_not w64 (1 * 2 ^ t % 2 ^ 64))) other
    ]
  where
    below : (a b : ℕ) → a ≤ b → (a ≡ b → ⊥) → a < b
    below a b le apart = elim (cases_lt a b) [ inl less ↦ less | inr more ↦ absurd (apart (omega (arith, le, more))) ]

-- the block with these bits alone
abbrev pub with_bits : Block → ℕ → Block
with_bits b bits = record b { bits = bits }

-- some tables of a block were pushed to a list, and those of these bits are left
pub record ArePushed (b : Block) (start keys : List TableKey) (left : ℕ) : Type 0 where
  pub pushed : List TableKey
  pub are : keys ≡ start ++ pushed
  pub all : pushed ++ keys_of (with_bits b left) ≡ keys_of b
  pub behind : (n : ℕ) → b.width ≤ n → n < 64 → bit_at left n ≡ 0

pub none_pushed : (b : Block) → IsBlock b → (start : List TableKey) → ArePushed b start start b.bits
none_pushed b is start = record { pushed = []; are = sym (append-nil start); all = refl; behind = is.behind }

module _ (b : Block) (start keys : List TableKey) (left : ℕ) (before : ArePushed b start keys left) where
  -- what was there comes first
  pub still_front : take (length start) keys ≡ start
  still_front = ap (take (length start)) before.are ∙ take-append_seam start before.pushed

  pub all_pushed : left ≡ 0 → keys ≡ start ++ keys_of b
  all_pushed none =
      before.are ∙ ap (λ ks. start ++ ks) (sym (append-nil before.pushed) ∙ ap (λ ks. before.pushed ++ ks) (sym (no_bits (with_bits b left) none)) ∙ before.all)

  module _ (is : IsBlock b) (some : 0 < left) (fits : left < 2 ^ 64) where
    abbrev t : ℕ
    t = trailing_zeros w64 left

    pub lowest_set : (t < 64) × (bit_at left t ≡ 1)
    lowest_set = let l = bit_at-trailing_zeros w64 left some fits in (l.0, l.1)

    pub lowest_within : t < b.width
    lowest_within = elim (cases_lt t b.width) [
      | inl less ↦ less
      | inr past ↦ let set = lowest_set.1 in let none = before.behind t past lowest_set.0 in absurd (omega (arith, set, none))
    ]

    lowest_out : keys_of (with_bits b left) ≡ key_at b t ∷ keys_of (with_bits b (cleared left t))
    unfolding keys_of
    lowest_out =
        let lowest = bit_at-trailing_zeros w64 left some fits in
        ap (map (key_at b)) (least_out (λ n. bit_at left n == 1) (λ n. bit_at (cleared left t) n == 1) t b.width 0 (omega arith) (omega (arith, lowest_within))
        (λ n l h. ap (λ x. x == 1) (lowest.2 n h)) (ap (λ x. x == 1) lowest.1) (ap (λ x. x == 1) (bit_at_clear_same w64 left t lowest.0))
        (λ n l h apart. let width = is.width in ap (λ x. x == 1) (bit_at_clear_other w64 left t lowest.0 n (omega (arith, h, width)) apart)))

    -- one more is pushed
    pub one_pushed : (more : List TableKey) → more ≡ keys ++ key_at b t ∷ [] → ArePushed b start more (cleared left t)
    one_pushed more is = record {
      pushed = before.pushed ++ key_at b t ∷ [];
      are = is ∙ ap (λ ks. ks ++ key_at b t ∷ []) before.are ∙ append_assoc start before.pushed (key_at b t ∷ []);
      all = append_assoc before.pushed (key_at b t ∷ []) (keys_of (with_bits b (cleared left t))) ∙ ap (λ ks. before.pushed ++ ks) (sym lowest_out) ∙ before.all;
      behind = λ n past top. bit_at_clear_other w64 left t lowest_set.0 n top (λ e. let within = lowest_within in omega (arith, past, e, within)) ∙ before.behind n past top;
    }
