use Rattle.std.proofs.Common.{◌≡◌}
use Rattle.ecs_archetypes.specs.Linked.{tables_under}
use Rattle.ecs_archetypes.proofs.links.LinksHolders.tables_of.Goals as goal

pub returns-clause-holders : goal.returns-clause-holders
returns-clause-holders g c =
    let is : c.tables_of.result.now ≡ tables_under c.args.self.now c.args.pattern = rw (← c.self.view_is) c.tables_of.ensures.listed in
    rw is (c.lists_holders.ensures c.args.pattern)
