-- A run and its row go on to fit.
use Rattle.std.proofs.Common.{◌≡◌}
use Rattle.whole_rows.specs.WholeRows.{Fits}
use Rattle.test_queries.proofs.runs.pull.Given as goal

abbrev pub invariant-loop-at : goal.invariant-loop-at
invariant-loop-at g l = record { room : l.run.room ≡ l.fn.run.room; fits : Fits l.row l.run }
