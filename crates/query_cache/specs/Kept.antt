-- The list of the tables that a kept query is about, and when it fits a store.
use Rattle.std.specs.Prelude.{◌≡◌, ◌↔◌, ◌⊎◌, ℕ, ◌+◌, ◌<◌, ◌≤◌, Bool, false, List, ◌++◌, map, length, is_some, max, nat_lt, IsTrue, IfOk, OnErr, OnOk, Result}
use Rattle.std.specs.List.{Contains, filter, list_all, list_any}
use Rattle.std.specs.List.Sorted.{IsStrictlySortedBy}
use Rattle.std.specs.Option.{option_map_or}
use Rattle.std.specs.Ordering.{nat_cmp}
use Rattle.ecs_id.specs.Id.{Id}
use Rattle.ecs_id.specs.declared.TableKey.{TableKey}
use Rattle.id_pattern.specs.declared.Pattern.{Pattern}
use Rattle.id_pattern.specs.Patterns.{matches}
use Rattle.table_store.specs.Rows.{rows_in}
use Rattle.table_store.specs.Store.{Store, IsStore, ids_at, table_at}

-- what each cacheable item asks of the ids of a table, the tables that have it, the greatest serial synced, and how often a table was judged
pub record Kept : Type 0 where
  pub patterns : List Pattern
  pub keys : List TableKey
  pub last : ℕ
  pub judged : ℕ

abbrev pub has_hit : List Id → Pattern → Bool
has_hit ids p = list_any (matches p) ids

-- whether each pattern has a hit among the ids
abbrev pub suits : List Pattern → List Id → Bool
suits patterns ids = list_all (has_hit ids) patterns

-- whether a table stands under the key whose ids suit
abbrev pub is_kept : List Pattern → Store → TableKey → Bool
is_kept patterns s k = option_map_or (suits patterns) (ids_at s k) false

-- whether a table stands under the key
abbrev pub stands : Store → TableKey → Bool
stands s k = is_some (table_at s k)

-- whether the table under the key has rows
abbrev pub has_rows : Store → TableKey → Bool
has_rows s k = nat_lt 0 (rows_in s k)

-- the serials rise, so that no key stands twice
abbrev pub IsRising : List TableKey → Type 0
IsRising keys = IsStrictlySortedBy nat_cmp (map (λ k. k.serial) keys)

-- the list fits a store: a sync with it leaves the right list
pub record Fits (kept : Kept) (s : Store) : Type 0 where
  pub last : kept.last ≤ s.last
  -- it has each table of the query that was there at the last sync; serials begin at 1
  pub has : (k : TableKey) → 1 ≤ k.serial → k.serial ≤ kept.last → IsTrue (is_kept kept.patterns s k) → Contains kept.keys k
  -- whatever else is in it was released
  pub only : (k : TableKey) → Contains kept.keys k → IsTrue (stands s k) → IsTrue (is_kept kept.patterns s k)
  pub given : (k : TableKey) → Contains kept.keys k → k.serial ≤ kept.last
  pub rising : IsRising kept.keys

-- no table that stands came after the last sync
abbrev pub IsSynced : Kept → Store → Type 0
IsSynced kept s = (k : TableKey) → IsTrue (stands s k) → k.serial ≤ kept.last

-- these are the standing tables above a serial, each once
pub record AreAbove (s : Store) (serial : ℕ) (keys : List TableKey) : Type 0 where
  pub listed : (k : TableKey) → Contains keys k ↔ (IsTrue (stands s k) × (serial < k.serial))
  pub rising : IsRising keys

-- a count has risen by so many, or is at its greatest number
abbrev pub Counts : ℕ → ℕ → ℕ → Type 0
Counts before n after = (after ≡ before + n) ⊎ ((0 < n) × (after ≡ 18446744073709551615) × (18446744073709551615 ≤ before + n))

-- so many tables were judged: each of the standing tables above a serial once, or some of them where the call was refused
pub record Judges {X E : Type 0} (s : Store) (serial : ℕ) (r : Result X E) (before after : ℕ) : Type 0 where
  pub above : List TableKey
  pub are_above : AreAbove s serial above
  pub count : ℕ
  pub at_most : count ≤ length above
  pub ok : OnOk r (count ≡ length above)
  pub counted : Counts before count after

-- the tables above a serial were judged, and those that suit were appended to the keys
pub record IsTakenIn {E : Type 0} (s : Store) (patterns : List Pattern) (last : ℕ) (r : Result ℕ E) (keys now : List TableKey) (before after : ℕ) : Type 0 where
  pub judges : Judges s last r before after
  pub taken : OnOk r (now ≡ keys ++ filter (is_kept patterns s) judges.above)
  pub greatest : IfOk r (λ n. (last ≤ n) × (n ≤ max last s.last) × ((k : TableKey) → IsTrue (stands s k) → last < k.serial → k.serial ≤ n))
  pub err : OnErr r (now ≡ keys)
  pub store : IsStore s
