-- The tables of a query, and the columns of values.
use Rattle.std.specs.Prelude.{◌≡◌, ◌⊎◌, ℕ, ◌+◌, ◌*◌, ◌^◌, ◌<◌, ◌≤◌, List, All, drop, flat_map, length, map, min, take, ℤ, false, true, IsPermutation, IsTrue, IfNone, Option, None, Some, IsSome}
use Rattle.ecs_id.specs.declared.TableKey.{TableKey}
use Rattle.ecs_id.specs.Id.{Id, IsPacking, packed}
use Rattle.ecs_model.specs.Bytes.{size_of}
use Rattle.ecs_model.specs.Schema.{Schema}
use Rattle.ecs_model.specs.World.{type_of_id}
use Rattle.ecs_model.specs.rows.Rows.{rows}
use Rattle.ecs_model.specs.rows.View.{view_of}
use Rattle.ecs_table.specs.Archetype.{Archetype, column_of}
use Rattle.ecs_world.specs.Standing.{Standing}
use Rattle.query_chunks.specs.Asked.{has_chunks}
use Rattle.query_chunks.specs.Chunk.{Chunk, rows_of}
use Rattle.query_chunks.specs.Run.{IsChunkIn}
use Rattle.query_meaning.specs.Standing.{IsCurrentIn}
use Rattle.query_model.specs.Query.{Query}
use Rattle.table_store.specs.Store.{table_at}
use Rattle.world_script.specs.Commanding.{SetsColumn, column_error}
use Rattle.world_script.specs.Stepping.{StepperState}
use Rattle.flecsq_c.specs.declared.lent.Column.{Column}
use Rattle.flecsq_c.specs.declared.lent.Table.{Table}
use Rattle.flecsq_c.specs.Asking.{query_at}
use Rattle.flecsq_c.specs.Statuses.{column_status, gone, not_held, not_tabled, ok, room, stale, unknown}

-- the key of a table that C holds
abbrev pub key_of : Table → TableKey
key_of t = record { slot = t.slot; serial = t.serial_low + t.serial_high * 2 ^ 64 }

-- what C is told of a table: its key, and how many entities it has
abbrev pub told_of : Table → TableKey × ℕ
told_of t = (key_of t, t.count)

abbrev pub told_chunk : Chunk → TableKey × ℕ
told_chunk c = (c.table, length c.entities)

-- the first of these tables were written, as many as fit, and what stood behind them stays
pub record AreWritten (chunks : List Chunk) (before after : List Table) : Type 0 where
  pub room : length after ≡ length before
  pub written : map told_of (take (length chunks) after) ≡ map told_chunk (take (length after) chunks)
  pub left : drop (length chunks) after ≡ drop (length chunks) before

-- the greatest number that is counted
abbrev pub most_counted : ℕ
most_counted = 18446744073709551615

-- the tables of a query, whose rows are just its rows, were written and counted
pub record WritesTables (w : Standing) (q : Query) (before after : List Table) (count : ℕ) : Type 0 where
  pub chunks : List Chunk
  pub rows : IsPermutation (flat_map rows_of chunks) (rows (view_of w.state) q)
  pub stand : All (IsChunkIn w q) chunks
  pub counted : count ≡ min (length chunks) most_counted
  pub are : AreWritten chunks before after

-- the status says whether all of them fit
abbrev pub TellsRoom : ℕ → ℕ → ℤ → Type 0
TellsRoom count places status = ((count ≤ places) × (status ≡ ok)) ⊎ ((places < count) × (status ≡ room))

-- the query that may be there was asked for its tables
abbrev pub TablesOf : List Table → List Table → ℕ → ℕ → Standing → Option Query → ℤ → Type 0
TablesOf tables written before after w None status = (written ≡ tables) × (after ≡ before) × (status ≡ unknown)
TablesOf tables written before after w (Some q) status =
    (IsCurrentIn w.state q × IsTrue (has_chunks q) × WritesTables w q tables written after × TellsRoom after (length tables) status)
    ⊎ ((written ≡ tables) × (after ≡ before)
    × ((¬ IsCurrentIn w.state q × (status ≡ stale)) ⊎ (IsCurrentIn w.state q × (has_chunks q ≡ false) × (status ≡ not_tabled))))

-- so was the query of a number
abbrev pub GivesTables : ℕ → List Table → List Table → ℕ → ℕ → Standing → List (Option Query) → ℤ → Type 0
GivesTables n tables written before after w queries status = TablesOf tables written before after w (query_at queries n) status

-- the bytes of an id's values in a table were lent, with the size of one
pub record LendsColumn (k : TableKey) (i : Id) (w : Standing) (column : Column) : Type 0 where
  pub table : Archetype
  pub bytes : List ℕ
  pub schema : Schema
  pub stands : table_at w.tables k ≡ Some table
  pub held : column_of table i ≡ Some bytes
  pub typed : type_of_id w.state i ≡ Some schema
  pub len : column.len ≡ length bytes
  pub size : column.size ≡ size_of schema

-- or the table isn't there, or has no values of the id
abbrev pub HasNoColumn : TableKey → Id → Standing → ℤ → Type 0
HasNoColumn k i w status =
    ((table_at w.tables k ≡ None) × (status ≡ gone))
    ⊎ ((t : Archetype) × (table_at w.tables k ≡ Some t) × ((column_of t i ≡ None) ⊎ (type_of_id w.state i ≡ None)) × (status ≡ not_held))

-- the values of the id of a number
abbrev pub GivesColumn : TableKey → ℕ → Column → Column → Standing → ℤ → Type 0
GivesColumn k n before after w status =
    ((i : Id) × (packed i ≡ n) × ((LendsColumn k i w after × (status ≡ ok)) ⊎ (HasNoColumn k i w status × (after ≡ before))))
    ⊎ (¬ IsPacking n × (after ≡ before) × (status ≡ unknown))

-- the values of an id were set in a table, or nothing was changed, and the status says the first reason
pub record SetsTable (k : TableKey) (i : Id) (bytes : List ℕ) (old new : StepperState) (status : ℤ) : Type 0 where
  pub told : status ≡ column_status (column_error old k i (length bytes))
  pub set : IfNone (column_error old k i (length bytes)) (SetsColumn k i bytes old new)
  pub unchanged : IsSome (column_error old k i (length bytes)) → new ≡ old

-- those of the id of a number
abbrev pub SetsValues : TableKey → ℕ → List ℕ → StepperState → StepperState → ℤ → Type 0
SetsValues k n bytes old new status =
    ((i : Id) × (packed i ≡ n) × SetsTable k i bytes old new status) ⊎ (¬ IsPacking n × (new ≡ old) × (status ≡ unknown))
