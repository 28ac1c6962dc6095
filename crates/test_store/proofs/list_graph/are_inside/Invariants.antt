use Rattle.std.proofs.Common.{take}
use Rattle.std.specs.List.{All}
use Rattle.test_store.specs.Closed.{MentionsInside}
use Rattle.test_store.proofs.list_graph.are_inside.Given as goal

abbrev pub invariant-loop-id : goal.invariant-loop-id
invariant-loop-id l = All (MentionsInside l.count) (take l.id-index l.row)
