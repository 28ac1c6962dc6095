use Rattle.std.proofs.Common.{drop}
use Rattle.ecs_archetypes.proofs.TableMoves.{AreCarried}
use Rattle.ecs_archetypes.proofs.Archetypes.move_all.Given as goal

abbrev pub invariant-loop-one : goal.invariant-loop-one
invariant-loop-one g l = AreCarried l.initial.self l.moves l.self (drop l.one-index l.moves)
