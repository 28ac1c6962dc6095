-- One more alternative at each turn.
use Rattle.std.proofs.Common.{arith}
use Rattle.std.proofs.lemmas.Grind.{common_steps}
use Rattle.std.proofs.Common.{◌<◌, ◌∙◌, ap, get_or, length, map, sym}
use Rattle.std.specs.Prelude.{option_map}
use Rattle.std.proofs.lemmas.List.{get_or-map, length-map}
use Rattle.query_model.specs.Query.{checked_term}
use Rattle.query_model.specs.Seen.{seen_part, seen_term}
use Rattle.query_check.specs.Seen.{seen_occurrence, seen_variable}
use Rattle.query_check.proofs.BuiltPieces.{none_asked, one_asked}
use Rattle.query_check.proofs.AbsentElements.{no_part}
use Rattle.query_check.proofs.query.add_alternatives.Goals as goal

pub loop-part-preserved : goal.loop-part-preserved
loop-part-preserved g c path at rooted =
    let parts = c.args.parts.now in
    let scope = c.args.scope.now in
    let i = c.loop-part.part-index in
    let part = seen_part (get_or parts i no_part) in
    let within : i < length (map seen_part parts) = rw length-map c.loop-part-test.true in
    one_asked (checked_term (g.W.Lookup.known c.args.world.now) (map seen_occurrence scope.found.now) (map seen_variable scope.numbered.now) path) c.args.all.now.items c.loop-part.all.items (map seen_part parts) i part within
    (get_or-map seen_part parts i no_part part c.loop-part-test.true) (c.loop-part.invariant path at rooted)
    (seen_term c.in-Some.term.now) (sym c.alternative.ensures ∙ ap (option_map (λ t. seen_term t.now)) c.in-Some.is) c.term_of.result (c.term_of.ensures path at rooted) _ c.in_ok-push.ensures.items

pub returns-in_default : goal.returns-in_default
returns-in_default g c path at rooted =
    let parts = c.args.parts.now in
    let scope = c.args.scope.now in
    let i = c.loop-part.part-index in
    let part = seen_part (get_or parts i no_part) in
    let within : i < length (map seen_part parts) = rw length-map c.loop-part-test.true in
    none_asked (checked_term (g.W.Lookup.known c.args.world.now) (map seen_occurrence scope.found.now) (map seen_variable scope.numbered.now) path) c.args.all.now.items c.loop-part.all.items (map seen_part parts) i part within
    (get_or-map seen_part parts i no_part part c.loop-part-test.true) (c.loop-part.invariant path at rooted)
    (sym c.alternative.ensures ∙ ap (option_map (λ t. seen_term t.now)) c.in_default.is)

pub returns : goal.returns
returns g c = grind (arith, common_steps)
