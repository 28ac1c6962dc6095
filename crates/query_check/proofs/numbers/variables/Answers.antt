-- One more occurrence at each turn, and then each variable once.
use Rattle.std.proofs.Common.{arith}
use Rattle.std.proofs.lemmas.Grind.{common_steps}
use Rattle.std.proofs.Common.{◌∙◌, [], ap, get_or, map, sym}
use Rattle.query_check.specs.declared.scope.Occurrence as code
use Rattle.query_check.specs.Seen.{seen_variable, seen_occurrence}
use Rattle.query_model.specs.Scope.{occurrences, owner, sightings}
use Rattle.query_model.specs.Seen.{seen_part}
use Rattle.std.proofs.lemmas.List.{map-append}
use Rattle.query_check.proofs.VariableNumbers.{one_owned, owned_is}
use Rattle.query_check.proofs.VariableRoots.{level_at, no_occurrence, seen_at}
use Rattle.query_check.proofs.numbers.variables.Goals as goal

abbrev nobody : code.Occurrence
nobody = record { name = record { ref_ptr = (0, 0); now = [] }; level = 0; span = record { start = 0; end = 0 } }

pub owner-requires-clause-within : goal.owner-requires-clause-within
owner-requires-clause-within g c =
    level_at (map seen_part c.args.parts.now) c.args.found.now c.args.places.now c.loop-occurrence.occurrence-index nobody c.requires.occurrences c.requires.places c.loop-occurrence-test.true

pub loop-occurrence-preserved : goal.loop-occurrence-preserved
loop-occurrence-preserved g c =
    let ps = map seen_part c.args.parts.now in
    let i = c.loop-occurrence.occurrence-index in
    let at = seen_at ps c.args.found.now i nobody c.requires.occurrences c.loop-occurrence-test.true in
    let owns = c.owner.ensures (get_or (occurrences ps) i no_occurrence).path (sym (ap (λ s. s.level) at.1)) (rw c.requires.places at.0.rooted) in
    ap (map seen_variable) c.in_ok-push.ensures.items ∙ map-append seen_variable c.loop-occurrence.owned.items _
    ∙ one_owned (sightings ps) (occurrences ps) i no_occurrence (map seen_variable c.loop-occurrence.owned.items) _ at.0.within c.loop-occurrence.invariant
    (owned_is (sightings ps) (get_or (occurrences ps) i no_occurrence) (seen_occurrence (get_or c.args.found.now i nobody)) c.owner.result at.1
    (owns ∙ ap (λ all. owner all (get_or c.args.found.now i nobody).name.now (get_or (occurrences ps) i no_occurrence).path) c.requires.occurrences))

pub loop-occurrence-init : goal.loop-occurrence-init
loop-occurrence-init g c = grind arith

pub offset_bounds-found-occurrence-index : goal.offset_bounds-found-occurrence-index
offset_bounds-found-occurrence-index g c = grind arith

pub owner-requires-clause-tree : goal.owner-requires-clause-tree
owner-requires-clause-tree g c = grind arith

pub returns-in_err-push : goal.returns-in_err-push
returns-in_err-push g c = grind arith

pub has_this-requires : goal.has_this-requires
has_this-requires g c = grind arith

pub returns-in_err-push-2 : goal.returns-in_err-push-2
returns-in_err-push-2 g c = grind arith

pub returns-in_err-add_new : goal.returns-in_err-add_new
returns-in_err-add_new g c = grind arith

pub returns-in_err-add_new-2 : goal.returns-in_err-add_new-2
returns-in_err-add_new-2 g c = grind arith

pub returns : goal.returns
returns g c = grind (arith, common_steps)
