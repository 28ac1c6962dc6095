use Rattle.std.proofs.Common.{subst}
use Rattle.ecs_model.specs.Links.{IsAcyclic}
use Rattle.test_queries.proofs.searches.first_above.Goals as goal

pub first_up-requires-clause-acyclic : goal.first_up-requires-clause-acyclic
first_up-requires-clause-acyclic c =
    let seen = c.links-links.ensures.sees in
    subst (λ ids. IsAcyclic ids c.args.relationship) (λ j e. seen.ids_are e j) (c.has_no_cycle.ensures c.if-not-has_no_cycle.false)
