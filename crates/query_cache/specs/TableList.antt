-- Tables in blocks, and which of them stay in a list.
use Rattle.std.specs.Prelude.{◌≡◌, ℕ, ◌+◌, ◌^◌, ◌<◌, ◌≤◌, ◌==◌, Bool, List, filter, flat_map, map, is_some, nat_le}
use Rattle.std.specs.Int.{bit_at}
use Rattle.std.specs.List.{range_with_len}
use Rattle.ecs_id.specs.declared.TableKey.{TableKey}
use Rattle.table_store.specs.Store.{table_at}
use Rattle.query_cache.specs.declared.table_block.Block.{Block}
use Rattle.query_cache.specs.declared.table_block.Keep.{Keep}
use Rattle.query_cache.specs.declared.table_block.Keep.TheVariants.{Standing, UpTo}

-- what is seen of a list: its tables, in order
pub record Tables : Type 0 where
  pub items : List TableKey

-- the table that comes so many after the first one of a block
abbrev pub key_at : Block → ℕ → TableKey
key_at b n = record { slot = b.slot + n; serial = b.serial + n }

-- the tables of a block: those whose bits are set
unfoldable pub keys_of : Block → List TableKey
keys_of b = map (key_at b) (filter (λ n. bit_at b.bits n == 1) (range_with_len 0 b.width))

-- those of some blocks
abbrev pub keys_in : List Block → List TableKey
keys_in blocks = flat_map keys_of blocks

-- the numbers of a block's tables are numbers of tables, and no bit is set from its width on
pub record IsBlock (b : Block) : Type 0 where
  pub width : b.width ≤ 64
  pub slots : b.slot + b.width ≤ 2 ^ 32
  pub serials : b.serial + b.width ≤ 2 ^ 64
  pub behind : (n : ℕ) → b.width ≤ n → n < 64 → bit_at b.bits n ≡ 0

-- whether a table stays in a list
abbrev pub keeps : {A : Type 0} → Keep A → TableKey → Bool
keeps (Standing tables) k = is_some (table_at tables.now k)
keeps (UpTo serial) k = nat_le k.serial serial
