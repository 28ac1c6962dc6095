use Rattle.std.proofs.Common.{sym, ap, subst, ◌∙◌}
use Rattle.ecs_archetypes.specs.Linked.{ids_at_index}
use Rattle.ecs_model.specs.World.{ids_of}
use Rattle.rel_traits.specs.Simple.{Arrives}
use Rattle.ecs_world.proofs.World.arrival_of.Goals as goal

pub returns-then-plain_comes_alone : goal.returns-then-plain_comes_alone
returns-then-plain_comes_alone g c =
    let ids = ids_of c.args.self.now.state in
    c.plain_comes_alone.ensures c.if-plain_comes_alone.true ids c.args.entity.index (c.ids_at.ensures ∙ ap ids c.first.ensures.value)

pub returns-in-Some : goal.returns-in-Some
returns-in-Some g c =
    let sees = (c.links.ensures).sees in
    subst (λ ids. Arrives ids (c.args.entity.index, c.args.id) c.arrival_of.result) (λ j e. sym (sees.ids_are e) j) (subst (λ k. Arrives (ids_at_index c.links.result) k c.arrival_of.result) c.new.ensures c.arrival_of.ensures)
