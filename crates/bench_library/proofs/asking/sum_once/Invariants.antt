-- The query that is asked stays current.
use Rattle.query_meaning.specs.Standing.{IsCurrentIn}
use Rattle.bench_library.proofs.asking.sum_once.Given as goal

abbrev pub invariant-loop-entity : goal.invariant-loop-entity
invariant-loop-entity l = IsCurrentIn (l.view).world.state l.matcher
