use Rattle.std.proofs.Common.{take}
use Rattle.watch_stored.specs.Moves.{AddsMoves}
use Rattle.watch_stored.proofs.moves.push_searched.Given as goal

abbrev pub invariant-loop-entity : goal.invariant-loop-entity
invariant-loop-entity g l = AddsMoves l.question (take l.entity-index l.moving) l.initial.rows l.rows
