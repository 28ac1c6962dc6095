-- The forms of a list of tables.
use Rattle.std.specs.Prelude.{List, []}
use Rattle.ecs_id.specs.declared.TableKey.{TableKey}
use Rattle.component_index.specs.declared.table_list.Tables.{Tables}
use Rattle.component_index.specs.declared.table_list.Tables.TheVariants.{Empty, One, More}

-- the tables of a list in each of its forms
abbrev pub keys_of : {A : Type 0} → Tables A → List TableKey
keys_of Empty = []
keys_of (One keys) = keys
keys_of (More keys) = keys.items
