-- How many tables a block has: as many as bits are set.
use Rattle.std.specs.Prelude.{◌==◌, count_ones, filter}
use Rattle.std.specs.Int.{bit_at}
use Rattle.std.specs.Int.Count.{ones_step}
use Rattle.std.specs.List.{range_with_len}
use Rattle.std.proofs.Common.{◌≡◌, ◌⊎◌, inl, inr, ℕ, zero, suc, ◌+◌, ◌-◌, ◌/◌, ◌%◌, ◌^◌, ◌<◌, ◌≤◌, Bool, cond, List, [], ◌∷◌, ◌++◌, append-nil, drop, get_or, length, map, take, sym, ap, ◌∙◌, arith}
use Rattle.std.proofs.lemmas.List.{length-append, length-map, take-append-drop, take_more}
use Rattle.std.proofs.lemmas.List.Concat.{flat_map-append}
use Rattle.std.proofs.lemmas.List.Elements.{filter-append}
use Rattle.std.proofs.lemmas.Nat.{ones_le_self}
use Rattle.std.proofs.Math.Nat.{pow-suc}
use Rattle.std.proofs.lemmas.Nat.Bits.{bit_at-suc, bit_at_lowest}
use Rattle.ecs_model.proofs.Ranges.{none_between, ranges_join}
use Rattle.query_cache.specs.declared.table_block.Block.{Block}
use Rattle.query_cache.specs.TableList.{IsBlock, key_at, keys_in, keys_of}

digit : (n : ℕ) → (n % 2 ≡ 0) ⊎ (n % 2 ≡ 1)
digit n = grind arith

-- of numbers from a on those that stand for a digit that is set
ones_among : (f : ℕ → ℕ) (a w n : ℕ) → ((k : ℕ) → k < w → f (a + k) ≡ bit_at n k) → n < 2 ^ w → length (filter (λ k. f k == 1) (range_with_len a w)) ≡ count_ones n
ones_among f a zero n same small = omega (arith, ones_le_self n, small)
ones_among f a (suc w) n same small =
    let start : a ≡ a + 0 = omega arith in
    let first : f a ≡ n % 2 = ap f start ∙ same 0 (omega arith) ∙ bit_at_lowest n in
    let rest = ones_among f (a + 1) w (n / 2) (λ k low. let next : a + 1 + k ≡ a + suc k = omega arith in ap f next ∙ same (suc k) (omega (arith, low)) ∙ bit_at-suc n k) (omega (arith, pow-suc 2 w, small)) in
    by first rest (digit n)
  where
    by : f a ≡ n % 2 → length (filter (λ k. f k == 1) (range_with_len (a + 1) w)) ≡ count_ones (n / 2) → (n % 2 ≡ 0) ⊎ (n % 2 ≡ 1)
        → length (cond (f a == 1) (a ∷ filter (λ k. f k == 1) (range_with_len (a + 1) w)) (filter (λ k. f k == 1) (range_with_len (a + 1) w))) ≡ count_ones n
    by first rest (inl e) =
        let step = ones_step n in
        ap (λ d. length (cond (d == 1) (a ∷ filter (λ k. f k == 1) (range_with_len (a + 1) w)) (filter (λ k. f k == 1) (range_with_len (a + 1) w)))) (first ∙ e) ∙ omega (arith, rest, step, e)
    by first rest (inr e) =
        let step = ones_step n in
        ap (λ d. length (cond (d == 1) (a ∷ filter (λ k. f k == 1) (range_with_len (a + 1) w)) (filter (λ k. f k == 1) (range_with_len (a + 1) w)))) (first ∙ e) ∙ omega (arith, rest, step, e)

pub block_count : (b : Block) → IsBlock b → b.bits < 2 ^ 64 → count_ones b.bits ≡ length (keys_of b)
unfolding keys_of
block_count b is small =
    let p : ℕ → Bool = λ k. bit_at b.bits k == 1 in
    let sum : 64 ≡ b.width + (64 - b.width) = omega (arith, is.width) in
    let all : filter p (range_with_len 0 64) ≡ filter p (range_with_len 0 b.width)
    = ap (λ m. filter p (range_with_len 0 m)) sum
    ∙ ap (filter p) (ranges_join 0 b.width (64 - b.width))
    ∙ filter-append p (range_with_len 0 b.width) (range_with_len (0 + b.width) (64 - b.width))
    ∙ ap (λ xs. filter p (range_with_len 0 b.width) ++ xs) (none_between p (0 + b.width) (64 - b.width) (λ k above below. ap (λ x. x == 1) (is.behind k (omega (arith, above)) (omega (arith, below, is.width)))))
    ∙ append-nil (filter p (range_with_len 0 b.width)) in
    sym (ones_among (bit_at b.bits) 0 64 b.bits (λ k low. let same : 0 + k ≡ k = omega arith in ap (bit_at b.bits) same) small) ∙ ap length all ∙ sym (length-map (filter p (range_with_len 0 b.width)) (key_at b))

-- some blocks and one more have no more tables than all
pub part_counted : (blocks : List Block) (i n : ℕ) (d : Block) → n ≡ length (keys_of (get_or blocks i d)) → i < length blocks → length (keys_in (take i blocks)) + n ≤ length (keys_in blocks)
part_counted blocks i n d one low =
    let more = ap (λ bs. length (keys_in bs)) (take_more blocks i d low)
    ∙ ap length (flat_map-append keys_of (take i blocks) (get_or blocks i d ∷ []))
    ∙ length-append (keys_in (take i blocks)) (keys_in (get_or blocks i d ∷ []))
    ∙ ap (λ l. length (keys_in (take i blocks)) + length l) (append-nil (keys_of (get_or blocks i d))) in
    let all = ap (λ bs. length (keys_in bs)) (sym (take-append-drop (i + 1) blocks))
    ∙ ap length (flat_map-append keys_of (take (i + 1) blocks) (drop (i + 1) blocks))
    ∙ length-append (keys_in (take (i + 1) blocks)) (keys_in (drop (i + 1) blocks)) in
    omega (arith, one, more, all)
