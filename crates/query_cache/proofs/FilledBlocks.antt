-- The tables of blocks that have rows.
use Rattle.std.specs.Prelude.{◌&&◌, ◌==◌, bit_and, filter}
use Rattle.std.specs.Int.{bit_at}
use Rattle.std.specs.List.{Contains, range_with_len}
use Rattle.std.proofs.Common.{◌≡◌, ℕ, ◌+◌, ◌-◌, ◌<◌, ◌≤◌, min, Bool, true, false, cond, List, length, get_or, map, IsSome, sym, ap, subst, ◌∙◌, arith, eq-eqb, eqb-true, refl, true≢false, Ok, Err, OnOk, Result}
use Rattle.std.proofs.lemmas.Bool.{ne_eqb}
use Rattle.std.proofs.lemmas.List.{get_or-map, length-map}
use Rattle.std.proofs.lemmas.List.Elements.{Contains-get_or}
use Rattle.std.proofs.lemmas.List.FromFn.{get_or-range_with_len, length-range_with_len}
use Rattle.std.proofs.lemmas.Nat.Bits.{bit_at-lt, bit_at_and}
use Rattle.ecs_id.specs.declared.TableKey.{TableKey}
use Rattle.ecs_model.proofs.Members.{filtered, in_flat_map}
use Rattle.table_store.specs.Store.{Store, table_at}
use Rattle.query_cache.specs.declared.table_block.Block.{Block}
use Rattle.query_cache.specs.Kept.{has_rows}
use Rattle.query_cache.specs.TableList.{IsBlock, key_at, keys_in, keys_of}
use Rattle.query_cache.proofs.BlockBits.{AreLeft, left_block, left_keys}

-- ---- what a block has
in_map : {X Y : Type 0} (f : X → Y) (xs : List X) (x : X) → Contains xs x → Contains (map f xs) (f x)
in_map f xs x has = (has.0, subst (λ n. has.0 < n) (sym (length-map xs f)) has.1, get_or-map f xs has.0 x (f x) has.1 ∙ ap f has.2)

pub in_block : (b : Block) (n : ℕ) → n < b.width → (bit_at b.bits n == 1) ≡ true → Contains (keys_of b) (key_at b n)
unfolding keys_of
in_block b n low set =
    in_map (key_at b) (filter (λ k. bit_at b.bits k == 1) (range_with_len 0 b.width)) n ((filtered (λ k. bit_at b.bits k == 1) (range_with_len 0 b.width) n).1 (
      (n, subst (λ l. n < l) (sym (length-range_with_len 0 b.width)) low, get_or-range_with_len 0 b.width n n low ∙ omega arith),
      set,
    ))

-- what is said of all tables of some blocks is said of those of one
pub stand_in_one : (P : TableKey → Type 0) (blocks : List Block) (i : ℕ) (d : Block) → i < length blocks → ((k : TableKey) → Contains (keys_in blocks) k → P k) → (k : TableKey) → Contains (keys_of (get_or blocks i d)) k → P k
stand_in_one P blocks i d low all k has = all k (in_flat_map keys_of blocks (get_or blocks i d) k (Contains-get_or blocks i d low) has)

-- ---- bits of tables that have rows
both : (x y : ℕ) (h : Bool) → x ≡ 1 → y ≡ cond h 1 0 → (min x y == 1) ≡ h
both x y true one is = eq-eqb (min x y) 1 (omega (arith, one, is))
both x y false one is = ne_eqb (min x y) 1 (λ e. omega (arith, one, is, e))

not_both : (x y : ℕ) → x < 2 → (x == 1) ≡ false → (min x y == 1) ≡ false
not_both x y low none = ne_eqb (min x y) 1 (λ e. true≢false (sym (eq-eqb x 1 (omega (arith, low, e))) ∙ none))

module _ (b : Block) (is : IsBlock b) (s : Store) (bits : ℕ) (stand : (k : TableKey) → Contains (keys_of b) k → IsSome (table_at s k))
    (told : (k : TableKey) → IsSome (table_at s k) → b.slot ≤ k.slot → k.slot < b.slot + 64 → bit_at bits (k.slot - b.slot) ≡ cond (has_rows s k) 1 0) where
  abbrev pub filled : Block
  filled = record b { bits = bit_and b.bits bits }

  told_at : (n : ℕ) → n < b.width → (bit_at b.bits n == 1) ≡ true → bit_at bits n ≡ cond (has_rows s (key_at b n)) 1 0
  told_at n low set =
      let width = is.width in
      let at : n ≡ b.slot + n - b.slot = omega arith in
      ap (bit_at bits) at ∙ told (key_at b n) (stand (key_at b n) (in_block b n low set)) (omega arith) (omega (arith, low, width))

  filled_at : (n : ℕ) → n < b.width → (c : Bool) → (bit_at b.bits n == 1) ≡ c → (min (bit_at b.bits n) (bit_at bits n) == 1) ≡ (c && has_rows s (key_at b n))
  filled_at n low true set = both (bit_at b.bits n) (bit_at bits n) (has_rows s (key_at b n)) (eqb-true (bit_at b.bits n) 1 set) (told_at n low set)
  filled_at n low false set = not_both (bit_at b.bits n) (bit_at bits n) (bit_at-lt b.bits n) set

  left : AreLeft b (has_rows s) b.width (bit_and b.bits bits)
  left = record {
    gone = λ n low. ap (λ x. x == 1) (bit_at_and b.bits bits n) ∙ filled_at n low (bit_at b.bits n == 1) refl;
    rest = λ n above top. let none = is.behind n above top in bit_at_and b.bits bits n ∙ omega (arith, none);
  }

  pub filled_keys : keys_of filled ≡ filter (has_rows s) (keys_of b)
  filled_keys = left_keys b (has_rows s) (bit_and b.bits bits) left

  pub filled_block : IsBlock filled
  filled_block = left_block b (has_rows s) (bit_and b.bits bits) left is

-- ---- all tables of a block stay
pub all_stay : (b : Block) (keep : TableKey → Bool) → ((n : ℕ) → n < b.width → keep (key_at b n) ≡ true) → AreLeft b keep b.width b.bits
all_stay b keep stays = record {
  gone = λ n low. and_true (bit_at b.bits n == 1) (keep (key_at b n)) (stays n low);
  rest = λ n above top. refl;
}
  where
    and_true : (x y : Bool) → y ≡ true → x ≡ (x && y)
    and_true true true h = refl
    and_true false true h = refl
    and_true true false h = absurd (true≢false (sym h))
    and_true false false h = refl

-- what is said where a call succeeds
pub where_ok : {T E : Type 0} (r : Result T E) (A B : Type 0) → (A → B) → OnOk r A → OnOk r B
where_ok (Ok x) A B f h = f h
where_ok (Err e) A B f h = tt
