use Rattle.std.specs.FinMap.{len}
use Rattle.ecs_archetypes.proofs.Releases.{AreReleased}
use Rattle.ecs_archetypes.proofs.tables.EnteredTables.release_matched.Given as goal

abbrev pub invariant-loop-listed : goal.invariant-loop-listed
invariant-loop-listed g l = AreReleased l.pattern l.initial.self-inside.store l.self-inside.store l.self-inside.index

abbrev pub decreases-loop-listed : goal.decreases-loop-listed
decreases-loop-listed g l = len l.self-inside.index
