use Rattle.std.proofs.Common.{take}
use Rattle.std.specs.List.{All}
use Rattle.test_store.specs.Closed.{MentionsInside}
use Rattle.test_store.proofs.list_graph.are_closed.Given as goal

abbrev pub invariant-loop-row : goal.invariant-loop-row
invariant-loop-row l = All (λ row. All (MentionsInside l.count) row.items) (take l.row-index l.rows)
