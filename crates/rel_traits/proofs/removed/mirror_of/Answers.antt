use Rattle.std.proofs.Common.{◌≡◌, ◌∙◌, ap}
use Rattle.ecs_id.specs.Id.{first_of, second_of}
use Rattle.ecs_model.specs.Added.{is_symmetric}
use Rattle.rel_traits.proofs.ReplacedFacts.{mirrored, not_mirrored}
use Rattle.rel_traits.proofs.removed.mirror_of.Goals as goal

pub returns-then-contains : goal.returns-then-contains
returns-then-contains g c =
    let ids = g.G.Graph.ids c.args.graph.now in
    let tells : is_symmetric ids (first_of c.args.fact.1) ≡ c.contains.result = rw (c.contains.ensures.value, c.ids.ensures, c.plain.ensures, c.first.ensures.value, c.id-id.ensures) in
    rw (c.new.ensures, c.pair.ensures, c.first-then-contains.ensures.value, c.entity.ensures, c.id-id.ensures)
    (mirrored ids c.args.fact c.in_ok-target.target (c.in_ok-target.ensures.value ∙ ap second_of c.id-id.ensures) (tells ∙ c.if-contains.true))

pub returns-else-contains : goal.returns-else-contains
returns-else-contains g c =
    let ids = g.G.Graph.ids c.args.graph.now in
    let tells : is_symmetric ids (first_of c.args.fact.1) ≡ c.contains.result = rw (c.contains.ensures.value, c.ids.ensures, c.plain.ensures, c.first.ensures.value, c.id-id.ensures) in
    not_mirrored ids c.args.fact (tells ∙ c.if-contains.false)
