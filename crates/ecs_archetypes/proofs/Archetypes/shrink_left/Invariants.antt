use Rattle.ecs_archetypes.proofs.TableMoves.{AreShrunk}
use Rattle.ecs_archetypes.proofs.Archetypes.shrink_left.Given as goal

abbrev pub invariant-loop-one : goal.invariant-loop-one
invariant-loop-one g l = AreShrunk l.initial.self l.self
