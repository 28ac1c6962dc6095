-- What the cacheable items of a query ask of the ids of a table.
use Rattle.std.specs.Prelude.{◌↔◌, Bool, false, List, [], ◌∷◌, ◌++◌, option_map, if◌then◌else◌, IsTrue}
use Rattle.std.specs.List.{Contains}
use Rattle.std.specs.Option.{option_map_or}
use Rattle.id_pattern.specs.declared.Part.{Part}
use Rattle.id_pattern.specs.declared.Part.TheVariants as part
use Rattle.id_pattern.specs.declared.Pattern.{Pattern}
use Rattle.ecs_id.specs.declared.TableKey.{TableKey}
use Rattle.ecs_model.specs.rows.Level.{Level, done, also, unless, top}
use Rattle.ecs_model.specs.stored.Tables.{is_cacheable, lists_table}
use Rattle.query_model.specs.declared.query.Ref.{Ref}
use Rattle.query_model.specs.declared.query.Ref.TheVariants.{Is}
use Rattle.query_model.specs.declared.query.Term.{Term}
use Rattle.query_model.specs.Query.{Item, must, Query}
use Rattle.table_store.specs.Store.{Store, ids_at}

-- what a reference besides variables asks for: `_` has a hit exactly where `*` has one
abbrev pub part_of : Ref → Part
part_of (Is e) = part.Is e
part_of r = part.Any

abbrev pub pattern_of : Term → Pattern
pattern_of t = record { first = part_of t.component; second = option_map part_of t.target }

module _ (q : Query) where
  abbrev pub item_patterns : Item → List Pattern
  item_patterns (must t) = if is_cacheable q t then pattern_of t ∷ [] else []
  item_patterns i = []

  -- those of the items of a level, besides the items in groups
  abbrev pub level_patterns : Level → List Pattern
  level_patterns done = []
  level_patterns (also i rest) = item_patterns i ++ level_patterns rest
  level_patterns (unless from_term own inner rest) = level_patterns rest

-- the patterns of a query's cacheable items
unfoldable pub patterns_of : Query → List Pattern
patterns_of q = level_patterns q (top q)

-- whether a kept query lists the table under a key
abbrev pub is_listed : Query → Store → TableKey → Bool
is_listed q s k = option_map_or (lists_table q) (ids_at s k) false

-- these are the tables that a kept query lists
abbrev pub AreListed : Query → Store → List TableKey → Type 0
AreListed q s keys = (k : TableKey) → Contains keys k ↔ IsTrue (is_listed q s k)
