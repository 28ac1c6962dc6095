use Rattle.std.proofs.Common.{◌≡◌, ◌∙◌, ◌++◌, ap, sym, subst}
use Rattle.std.proofs.lemmas.List.{append-nil}
use Rattle.std.specs.Prelude.{OnOk}
use Rattle.ecs_id.specs.Id.{first_of, second_of}
use Rattle.ecs_model.specs.Added.{displaced, is_exclusive, is_symmetric, others_of}
use Rattle.rel_traits.proofs.ReplacedFacts.{gives_way, nothing_gives_way}
use Rattle.rel_traits.proofs.replaced.push_displaced.Goals as goal

pub returns-then-contains : goal.returns-then-contains
returns-then-contains g c =
    let ids = g.G.Graph.ids c.args.graph.now in
    let first = first_of c.args.fact.1 in
    let relationship : c.first-relationship.result ≡ first = c.first-relationship.ensures.value ∙ ap first_of c.id-id.ensures in
    let exclusive : is_exclusive ids first ≡ c.contains.result = rw (c.contains.ensures.value, c.ids-traits.ensures, c.plain.ensures, relationship) in
    let symmetric : c.contains-is_symmetric.result ≡ is_symmetric ids first = rw (c.contains-is_symmetric.ensures.value, c.ids-traits.ensures, c.plain-then-contains.ensures, relationship) in
    let same : others_of c.contains-is_symmetric.result c.entity-then-contains.result c.first-relationship.result c.in-Some.target c.ids-ids.result.now ≡ displaced ids c.args.fact =
    rw (symmetric, c.entity-then-contains.ensures, relationship, c.ids-ids.ensures, c.entity.ensures)
    (gives_way ids c.args.fact c.in-Some.target (c.in-Some.ensures.value ∙ ap second_of c.id-id.ensures) (exclusive ∙ c.if-contains.true)) in
    subst (λ ks. OnOk c.push_others.result (c.push_others.new.facts.items ≡ c.args.facts.now.items ++ ks)) same c.push_others.ensures

pub returns-else-contains : goal.returns-else-contains
returns-else-contains g c =
    let ids = g.G.Graph.ids c.args.graph.now in
    let tells : is_exclusive ids (first_of c.args.fact.1) ≡ c.contains.result = rw (c.contains.ensures.value, c.ids-traits.ensures, c.plain.ensures, c.first-relationship.ensures.value, c.id-id.ensures) in
    rw (← nothing_gives_way ids c.args.fact (tells ∙ c.if-contains.false)) (sym (append-nil c.args.facts.now.items))
