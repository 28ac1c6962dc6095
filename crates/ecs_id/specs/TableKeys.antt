-- The keys of tables.
use Rattle.std.specs.Prelude.{◌==◌, ◌&&◌, Bool}
use Rattle.ecs_id.specs.declared.TableKey.{TableKey}

-- whether two keys are the same
abbrev pub table_eq : TableKey → TableKey → Bool
table_eq x y = x.slot == y.slot && x.serial == y.serial
