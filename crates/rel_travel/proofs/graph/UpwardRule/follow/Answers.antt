use Rattle.ecs_model.specs.Links.{targets_in}
use Rattle.rel_travel.proofs.AddedLists.{grown_so}
use Rattle.rel_travel.proofs.graph.UpwardRule.follow.Goals as goal

pub returns-clause-grown : goal.returns-clause-grown
returns-clause-grown g c =
    rw (← c.ids.ensures) (grown_so (targets_in c.ids.result.now c.args.self.now.relationship) c.args.found.now.items c.add_targets.new.found.items c.add_targets.ensures.items)
