-- One more alternative at each turn.
use Rattle.std.proofs.Common.{◌<◌, ◌∙◌, ap, get_or, length, map, sym}
use Rattle.std.specs.Prelude.{option_map}
use Rattle.std.proofs.lemmas.List.{get_or-map, length-map}
use Rattle.query_model.specs.Scope.{names_variable}
use Rattle.query_model.specs.Seen.{seen_part, seen_term}
use Rattle.query_check.proofs.AbsentElements.{no_part}
use Rattle.query_check.proofs.PartReferences.{no_more, one_fails, one_passes}
use Rattle.query_check.proofs.scope.alternatives_name.Goals as goal

pub loop-part-preserved : goal.loop-part-preserved
loop-part-preserved c =
    let parts = c.args.parts.now in
    let i = c.loop-part.part-index in
    let part = seen_part (get_or parts i no_part) in
    let within : i < length (map seen_part parts) = rw length-map c.loop-part-test.true in
    one_passes (names_variable c.args.name.now) (map seen_part parts) i part within (get_or-map seen_part parts i no_part part c.loop-part-test.true) c.loop-part.invariant
    (seen_term c.in-Some.term.now) (sym c.alternative.ensures ∙ ap (option_map (λ t. seen_term t.now)) c.in-Some.is) c.if-not-names_variable.ensures

pub returns-in_default : goal.returns-in_default
returns-in_default c =
    let parts = c.args.parts.now in
    let i = c.loop-part.part-index in
    let part = seen_part (get_or parts i no_part) in
    let within : i < length (map seen_part parts) = rw length-map c.loop-part-test.true in
    no_more (names_variable c.args.name.now) (map seen_part parts) i part within (get_or-map seen_part parts i no_part part c.loop-part-test.true) c.loop-part.invariant
    (sym c.alternative.ensures ∙ ap (option_map (λ t. seen_term t.now)) c.in_default.is)

pub returns-then-not-names_variable : goal.returns-then-not-names_variable
returns-then-not-names_variable c =
    let parts = c.args.parts.now in
    let i = c.loop-part.part-index in
    let part = seen_part (get_or parts i no_part) in
    let within : i < length (map seen_part parts) = rw length-map c.loop-part-test.true in
    one_fails (names_variable c.args.name.now) (map seen_part parts) i part within (get_or-map seen_part parts i no_part part c.loop-part-test.true) c.loop-part.invariant
    (seen_term c.in-Some.term.now) (sym c.alternative.ensures ∙ ap (option_map (λ t. seen_term t.now)) c.in-Some.is) c.if-not-names_variable.ensures
