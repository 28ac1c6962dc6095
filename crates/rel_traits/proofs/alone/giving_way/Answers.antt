use Rattle.std.proofs.Common.{◌≡◌, ◌∙◌, ◌∷◌, [], true, arith, ap, sym, subst}
use Rattle.std.specs.List.{cons_option}
use Rattle.ecs_id.specs.Id.{first_of, pair, second_of}
use Rattle.ecs_model.specs.Added.{is_exclusive}
use Rattle.ecs_model.specs.Links.{targets_in}
use Rattle.rel_traits.specs.Simple.{TakesPlaceOf}
use Rattle.rel_traits.proofs.LoneFacts.{own_stays, takes_place, target_index}
use Rattle.rel_traits.proofs.alone.giving_way.Goals as goal

pub pair-requires-clause-target : goal.pair-requires-clause-target
pair-requires-clause-target g c =
    let ids = g.G.Graph.ids c.args.graph.now in
    let k = c.args.fact in
    let held = c.ids.ensures ∙ ap ids c.entity.ensures in
    let first = c.first.ensures.value ∙ ap first_of c.id-id.ensures in
    let leads : targets_in (ids k.0) (first_of k.1) ≡ c.in-Some-2.other ∷ [] = (λ j. targets_in (sym held j) (sym first j)) ∙ c.in_ok-other.ensures ∙ ap (λ o. cons_option o []) c.in-Some-2.is in
    target_index c.size.ensures.links k.0 (first_of k.1) c.in-Some-2.other leads

pub returns-then-other-target : goal.returns-then-other-target
returns-then-other-target g c =
    let ids = g.G.Graph.ids c.args.graph.now in
    let k = c.args.fact in
    let held = c.ids.ensures ∙ ap ids c.entity.ensures in
    let first = c.first.ensures.value ∙ ap first_of c.id-id.ensures in
    let leads : targets_in (ids k.0) (first_of k.1) ≡ c.in-Some-2.other ∷ [] = (λ j. targets_in (sym held j) (sym first j)) ∙ c.in_ok-other.ensures ∙ ap (λ o. cons_option o []) c.in-Some-2.is in
    own_stays ids k c.in-Some.target c.in-Some-2.other (sym (c.in-Some.ensures.value ∙ ap second_of c.id-id.ensures)) leads c.if-other-target.true

pub returns : goal.returns
returns g c =
    let ids = g.G.Graph.ids c.args.graph.now in
    let k = c.args.fact in
    let held = c.ids.ensures ∙ ap ids c.entity.ensures in
    let first = c.first.ensures.value ∙ ap first_of c.id-id.ensures in
    let leads : targets_in (ids k.0) (first_of k.1) ≡ c.in-Some-2.other ∷ [] = (λ j. targets_in (sym held j) (sym first j)) ∙ c.in_ok-other.ensures ∙ ap (λ o. cons_option o []) c.in-Some-2.is in
    let only : is_exclusive ids (first_of k.1) ≡ true = sym (c.contains.ensures tt ∙ c.requires.traits 0 (omega arith)) ∙ c.if-not-contains.false in
    let again = c.first-2.ensures.value ∙ ap first_of c.id-id.ensures in
    subst (TakesPlaceOf ids k) (sym (c.pair.ensures ∙ ap (λ r. pair r c.in-Some-2.other) again))
    (takes_place ids k c.in-Some.target c.in-Some-2.other (sym (c.in-Some.ensures.value ∙ ap second_of c.id-id.ensures)) c.requires.alone only leads c.if-other-target.false)
