-- The laws of kept lists, as statements.
use Rattle.std.specs.Prelude.{◌≡◌, List}
use Rattle.ecs_id.specs.Id.{Id}
use Rattle.ecs_model.specs.stored.Tables.{lists_table}
use Rattle.query_model.specs.Query.{Query}
use Rattle.table_store.specs.Going.{TablesGoOn}
use Rattle.table_store.specs.Store.{Store}
use Rattle.query_cache.specs.Kept.{Fits, Kept, suits}
use Rattle.query_cache.specs.Patterns.{patterns_of}

-- a list that fits a store fits it later
abbrev pub FitsLater : Type 0
FitsLater = (kept : Kept) (s t : Store) → TablesGoOn s t → Fits kept s → Fits kept t

-- a query lists the tables of some ids exactly where they have a hit for each of its patterns
abbrev pub PatternsSuffice : Type 0
PatternsSuffice = (q : Query) (ids : List Id) → suits (patterns_of q) ids ≡ lists_table q ids
