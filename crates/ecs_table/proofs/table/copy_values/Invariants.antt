use Rattle.std.proofs.Common.{◌≡◌, ◌-◌, ◌++◌, map, take, drop}
use Rattle.std.specs.List.{zip}
use Rattle.ecs_table.specs.Archetype.{replaced, value_of}
use Rattle.ecs_table.proofs.table.copy_values.Given as goal

abbrev pub invariant-loop-k : goal.invariant-loop-k
invariant-loop-k g l = let first = l.fn.columns.columns in l.columns ≡ record l.fn.columns { columns = map (λ p. replaced (l.fn.columns.len - 1) (value_of l.source l.row p.0) p.1) (take l.k (zip l.ids first)) ++ drop l.k first }
