-- The lists of tables by pattern, as they are read.
use Rattle.std.specs.Prelude.{◌↔◌, List, [], unwrap_or, Contains}
use Rattle.std.specs.Map.{lookup}
use Rattle.std.specs.HashMap.{HashMap}
use Rattle.indexmap.specs.IndexSet.{insert_all}
use Rattle.ecs_id.specs.declared.TableKey.{TableKey}
use Rattle.id_pattern.specs.declared.Pattern.{Pattern}
use Rattle.ecs_id.specs.TableKeys.{table_eq}
use Rattle.component_index.specs.Entered.{Entered, IsMatched}
use Rattle.id_pattern.specs.SamePattern.{pattern_eq}

-- patterns, each with its tables
abbrev pub Lists : Type 0
Lists = List (Pattern × List TableKey)

abbrev pub lists_of : {S : Type 0} → HashMap Pattern (List TableKey) S → Lists
lists_of lists = lists.entries

-- the tables that are listed for a pattern, in order, each once
abbrev pub listed_in : Lists → Pattern → List TableKey
listed_in lists pattern = insert_all table_eq [] (unwrap_or (lookup (pattern_eq pattern) lists) [])

-- for each pattern exactly the tables that are entered with an id that it matches
abbrev pub ListsEntered : Entered → Lists → Type 0
ListsEntered tables lists = (pattern : Pattern) (key : TableKey) → Contains (listed_in lists pattern) key ↔ IsMatched tables pattern key
