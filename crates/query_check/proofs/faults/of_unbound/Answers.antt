-- One more occurrence at each turn.
use Rattle.std.proofs.Common.{[], get_or, map, refl}
use Rattle.query_check.specs.declared.scope.Occurrence.{Occurrence}
use Rattle.query_model.specs.Check.{unbound}
use Rattle.query_model.specs.Scope.{occurrences}
use Rattle.query_model.specs.Seen.{seen_part}
use Rattle.query_check.proofs.LeastFaults.{one_judged}
use Rattle.query_check.proofs.VariableRoots.{level_at, no_occurrence, seen_at}
use Rattle.query_check.proofs.faults.of_unbound.Goals as goal

nobody : Occurrence
nobody = record { name = record { ref_ptr = (0, 0); now = [] }; level = 0; span = record { start = 0; end = 0 } }

pub of_variable-least-requires-clause-within : goal.of_variable-least-requires-clause-within
unfolding nobody
of_variable-least-requires-clause-within c =
    level_at (map seen_part c.args.parts.now) c.args.found_in.now c.args.places.now c.loop-occurrence.occurrence-index nobody c.requires.occurrences c.requires.places c.loop-occurrence-test.true

pub loop-occurrence-preserved : goal.loop-occurrence-preserved
unfolding nobody
loop-occurrence-preserved c =
    let ps = map seen_part c.args.parts.now in
    let i = c.loop-occurrence.occurrence-index in
    let at = seen_at ps c.args.found_in.now i nobody c.requires.occurrences c.loop-occurrence-test.true in
    one_judged (unbound ps) (occurrences ps) i c.args.found c.loop-occurrence.least _ _ no_occurrence c.loop-occurrence.invariant at.0.within refl
    (c.of_variable-least.ensures (get_or (occurrences ps) i no_occurrence) at.1 (rw c.requires.places at.0.rooted))
