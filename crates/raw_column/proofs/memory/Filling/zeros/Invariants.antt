use Rattle.std.proofs.Common.{◌≡◌, ◌+◌, ◌++◌, replicate}
use Rattle.raw_column.proofs.memory.Filling.zeros.Given as goal

abbrev pub invariant-loop-i : goal.invariant-loop-i
invariant-loop-i l = record { same : l.filling.at ≡ l.fn.self.at; items : l.filling.items ≡ l.fn.self.items ++ replicate l.i 0; spare : l.filling.spare + l.i ≡ l.fn.self.spare }
