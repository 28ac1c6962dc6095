use Rattle.ecs_model.proofs.LivePairs.{upward_below}
use Rattle.rel_travel.proofs.Cleanup.{pairs_below}
use Rattle.rel_travel.proofs.scratch.follow.Goals as goal

pub follow-requires : goal.follow-requires
follow-requires g c = upward_below c.size.ensures.links c.args.list.relationship c.args.found.now.size c.requires.covered c.args.entity

pub follow-requires-else-list : goal.follow-requires-else-list
follow-requires-else-list g c = pairs_below c.size.ensures.links c.args.list.relationship c.args.found.now.size c.requires.covered c.args.entity
