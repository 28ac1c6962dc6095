-- What a bit that is set or cleared changes of a block's tables.
use Rattle.std.specs.Prelude.{◌==◌, ◌&&◌, bit_and, bit_or, filter}
use Rattle.std.specs.Int.{bit_at, bit_not}
use Rattle.std.specs.List.{range_with_len}
use Rattle.std.proofs.Common.{◌≡◌, ℕ, ◌+◌, ◌-◌, ◌*◌, ◌%◌, ◌^◌, ◌<◌, ◌≤◌, Bool, true, false, cond, List, [], ◌∷◌, ◌++◌, append-nil, map, sym, ap, ◌∙◌, inl, inr, arith, eq-eqb, refl, true≢false, w64}
use Rattle.std.proofs.lemmas.Bool.{cases_lt}
use Rattle.std.proofs.lemmas.List.{map-append}
use Rattle.std.proofs.lemmas.List.Elements.{filter-append}
use Rattle.std.proofs.lemmas.Nat.Bits.{bit_at-zero, bit_at_above, bit_at_clear_other, bit_at_clear_same, bit_at_set_other, bit_at_set_same}
use Rattle.ecs_id.specs.declared.TableKey.{TableKey}
pub use Rattle.ecs_model.proofs.Ranges.{number_more, ranges_join}
use Rattle.ecs_model.proofs.Ranges.{filter_alike, filter_twice, none_between}
use Rattle.query_cache.specs.declared.table_block.Block.{Block}
use Rattle.query_cache.specs.TableList.{IsBlock, key_at, keys_of}

-- ---- lists
filter_mapped : {X Y : Type 0} (f : X → Y) (q : Y → Bool) (xs : List X) → filter q (map f xs) ≡ map f (filter (λ x. q (f x)) xs)
filter_mapped f q [] = refl
filter_mapped f q (x ∷ xs) =
    elim (q (f x)) as (λ b. cond b (f x ∷ filter q (map f xs)) (filter q (map f xs)) ≡ map f (cond b (x ∷ filter (λ x. q (f x)) xs) (filter (λ x. q (f x)) xs))) [
      | true ↦ ap (λ ys. f x ∷ ys) (filter_mapped f q xs)
      | false ↦ filter_mapped f q xs
    ]

-- ---- a bit that is set after all others
module _ (b : Block) (is : IsBlock b) (n : ℕ) (low : b.width ≤ n) (small : n < 64) where
  abbrev set_bits : ℕ
  set_bits = bit_or b.bits (1 * 2 ^ n % 2 ^ 64)

  abbrev with_one : Block
  with_one = record b { bits = set_bits; width = n + 1 }

  before : (k : ℕ) → k < n → (bit_at set_bits k == 1) ≡ (bit_at b.bits k == 1)
  before k less = ap (λ x. x == 1) (bit_at_set_other w64 b.bits n small k (λ e. omega (arith, less, e)))

  pub set_behind : keys_of with_one ≡ keys_of b ++ key_at b n ∷ []
  unfolding keys_of
  set_behind =
      let p : ℕ → Bool = λ k. bit_at b.bits k == 1 in
      let q : ℕ → Bool = λ k. bit_at set_bits k == 1 in
      let at : 0 + n ≡ n = omega arith in
      let sum : n ≡ b.width + (n - b.width) = omega (arith, low) in
      let set : q (0 + n) ≡ true = ap q at ∙ eq-eqb _ 1 (bit_at_set_same w64 b.bits n small) in
      let rest : filter p (range_with_len 0 n) ≡ filter p (range_with_len 0 b.width)
      = ap (λ m. filter p (range_with_len 0 m)) sum
      ∙ ap (filter p) (ranges_join 0 b.width (n - b.width))
      ∙ filter-append p (range_with_len 0 b.width) (range_with_len (0 + b.width) (n - b.width))
      ∙ ap (λ xs. filter p (range_with_len 0 b.width) ++ xs) (none_between p (0 + b.width) (n - b.width) (λ k above below. ap (λ x. x == 1) (is.behind k (omega (arith, above)) (omega (arith, below, low, small)))))
      ∙ append-nil (filter p (range_with_len 0 b.width)) in
      ap (map (key_at b)) (
      number_more q 0 n
      ∙ ap (λ c. filter q (range_with_len 0 n) ++ cond c ((0 + n) ∷ []) []) set
      ∙ ap (λ m. filter q (range_with_len 0 n) ++ m ∷ []) at
      ∙ ap (λ xs. xs ++ n ∷ []) (filter_alike q p 0 n (λ k above below. before k (omega (arith, below))) ∙ rest)
      )
      ∙ map-append (key_at b) (filter p (range_with_len 0 b.width)) (n ∷ [])

  pub set_block : b.slot + n < 2 ^ 32 → b.serial + n < 2 ^ 64 → IsBlock with_one
  set_block slot serial = record {
    width = omega (arith, small);
    slots = omega (arith, slot);
    serials = omega (arith, serial);
    behind = λ k above top. bit_at_set_other w64 b.bits n small k (λ e. omega (arith, above, e)) ∙ is.behind k (omega (arith, above, low)) top;
  }

-- ---- bits that are cleared
-- of the first bits of a block those are left whose tables stay, and of the others all
pub record AreLeft (b : Block) (keep : TableKey → Bool) (n bits : ℕ) : Type 0 where
  pub gone : (k : ℕ) → k < n → (bit_at bits k == 1) ≡ ((bit_at b.bits k == 1) && keep (key_at b k))
  pub rest : (k : ℕ) → n ≤ k → k < 64 → bit_at bits k ≡ bit_at b.bits k

pub begun : (b : Block) (keep : TableKey → Bool) → AreLeft b keep 0 b.bits
begun b keep = record { gone = λ k low. absurd (omega (arith, low)); rest = λ k above top. refl }

and_kept : (x y : Bool) → y ≡ true → x ≡ (x && y)
and_kept true true h = refl
and_kept false true h = refl
and_kept true false h = absurd (true≢false (sym h))
and_kept false false h = refl

and_gone : (x y : Bool) → y ≡ false → false ≡ (x && y)
and_gone true true h = absurd (true≢false h)
and_gone false true h = refl
and_gone true false h = refl
and_gone false false h = refl

module _ (b : Block) (keep : TableKey → Bool) (n bits : ℕ) (small : n < 64) (left : AreLeft b keep n bits) where
  pub one_stays : keep (key_at b n) ≡ true → AreLeft b keep (n + 1) bits
  one_stays stays = record {
    gone = λ k below.
        elim (cases_lt k n) [
          | inl earlier ↦ left.gone k earlier
          | inr late ↦
              let same : k ≡ n = omega (arith, below, late) in
              ap (λ x. x == 1) (left.rest k (omega (arith, late)) (omega (arith, same, small))) ∙ and_kept (bit_at b.bits k == 1) (keep (key_at b k)) (ap (λ m. keep (key_at b m)) same ∙ stays)
        ];
    rest = λ k above top. left.rest k (omega (arith, above)) top;
  }

  abbrev cleared : ℕ
  cleared = bit_and bits (bit_not w64 (1 * 2 ^ n % 2 ^ 64))

  pub one_goes : keep (key_at b n) ≡ false → AreLeft b keep (n + 1) cleared
  one_goes goes = record {
    gone = λ k below.
        elim (cases_lt k n) [
          | inl earlier ↦ ap (λ x. x == 1) (bit_at_clear_other w64 bits n small k (omega (arith, earlier, small)) (λ e. omega (arith, earlier, e))) ∙ left.gone k earlier
          | inr late ↦
              let same : k ≡ n = omega (arith, below, late) in
              ap (λ m. bit_at cleared m == 1) same ∙ ap (λ x. x == 1) (bit_at_clear_same w64 bits n small)
              ∙ and_gone (bit_at b.bits k == 1) (keep (key_at b k)) (ap (λ m. keep (key_at b m)) same ∙ goes)
        ];
    rest = λ k above top. bit_at_clear_other w64 bits n small k top (λ e. omega (arith, above, e)) ∙ left.rest k (omega (arith, above)) top;
  }

pub left_keys : (b : Block) (keep : TableKey → Bool) (bits : ℕ) → AreLeft b keep b.width bits → keys_of (record b { bits = bits }) ≡ filter keep (keys_of b)
unfolding keys_of
left_keys b keep bits left =
    let p : ℕ → Bool = λ k. bit_at b.bits k == 1 in
    ap (map (key_at b)) (
    filter_alike (λ k. bit_at bits k == 1) (λ k. p k && keep (key_at b k)) 0 b.width (λ k above below. left.gone k (omega (arith, below)))
    ∙ sym (filter_twice p (λ k. keep (key_at b k)) (range_with_len 0 b.width))
    )
    ∙ sym (filter_mapped (key_at b) keep (filter p (range_with_len 0 b.width)))

pub left_block : (b : Block) (keep : TableKey → Bool) (bits : ℕ) → AreLeft b keep b.width bits → IsBlock b → IsBlock (record b { bits = bits })
left_block b keep bits left is = record {
  width = is.width;
  slots = is.slots;
  serials = is.serials;
  behind = λ k above top. left.rest k above top ∙ is.behind k above top;
}

pub no_bits : (b : Block) → b.bits ≡ 0 → keys_of b ≡ []
unfolding keys_of
no_bits b none = ap (map (key_at b)) (none_between (λ k. bit_at b.bits k == 1) 0 b.width (λ k above below. ap (λ x. bit_at x k == 1) none ∙ ap (λ x. x == 1) (bit_at-zero k)))

-- ---- a block of one table
module _ (k : TableKey) (slot serial : ℕ) (same_slot : slot ≡ k.slot) (same_serial : serial ≡ k.serial) where
  abbrev one : Block
  one = record { serial = serial; bits = 1; slot = slot; width = 1 }

  pub one_key : keys_of one ≡ k ∷ []
  unfolding keys_of
  one_key =
      let slot_is : slot + 0 ≡ k.slot = omega (arith, same_slot) in
      let serial_is : serial + 0 ≡ k.serial = omega (arith, same_serial) in
      λ i. record { slot = slot_is i; serial = serial_is i } ∷ []

  pub one_block : slot < 2 ^ 32 → serial < 2 ^ 64 → IsBlock one
  one_block low_slot low_serial = record {
    width = omega arith;
    slots = omega (arith, low_slot);
    serials = omega (arith, low_serial);
    behind = λ n above top. bit_at_above 1 1 n (omega arith) above;
  }
