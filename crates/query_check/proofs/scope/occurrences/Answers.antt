-- One more reference at each turn.
use Rattle.std.proofs.Common.{◌∙◌, [], ap, sym, map}
use Rattle.std.proofs.lemmas.List.{length-map}
use Rattle.query_check.specs.Seen.{seen_use, seen_occurrence, sighting_of}
use Rattle.query_check.proofs.PartReferences.{added, none_left, not_added, one_seen_less}
use Rattle.query_check.proofs.scope.occurrences.Goals as goal
use Rattle.query_check.proofs.scope.occurrences.Goals.{in-Some+in_ok-push, in_default}

pub loop-used-preserved : goal.loop-used-preserved
loop-used-preserved g c =
    one_seen_less seen_use sighting_of c.args.uses.now c.loop-used.used-index [] (map seen_occurrence c.loop-used.found.items) _ _ _ c.loop-used.invariant c.loop-used-test.true
    (sym c.occurrence_of.ensures)
    (elim c.match-occurrence_of.branch [
      | in-Some+in_ok-push w ↦ added seen_occurrence c.occurrence_of.result w.in-Some.occurrence c.loop-used.found.items _ w.in-Some.is (ap (λ v. v.items) w.found-is ∙ w.in_ok-push.ensures.items)
      | in_default w ↦ not_added seen_occurrence c.occurrence_of.result c.loop-used.found.items _ w.in_default.is (ap (λ v. v.items) w.found-is)
    ])

pub returns : goal.returns
returns g c = none_left sighting_of (map seen_use c.args.uses.now) c.loop-used.used-index [] (map seen_occurrence c.loop-used.found.items) c.loop-used.invariant (rw length-map c.loop-used-test.false)
