use Rattle.ecs_archetypes.specs.Linked.{AreListsOf}
use Rattle.ecs_archetypes.proofs.links.Links.new.Goals as goal

pub invariant_of-result : goal.invariant_of-result
invariant_of-result g c =
    let lists : AreListsOf c.args.archetypes.now c.listings-listings.result =
    rw (← c.graph.ensures) (record { listed = c.listings-listings.ensures.listed; once = c.listings-listings.ensures.once; holders = c.listings-listings.ensures.holders }) in
    record { linked = c.requires.linked; lists = lists }
