use Rattle.watch_events.proofs.OrderedChanges.{came_rises, went_rises}
use Rattle.watch_events.proofs.before.held_before.Goals as goal

pub is_among-requires : goal.is_among-requires
is_among-requires g c = rw c.went.ensures (went_rises c.args.world.now.state c.args.changes.now c.requires)

pub is_among-requires-then-has : goal.is_among-requires-then-has
is_among-requires-then-has g c = rw c.came.ensures (came_rises c.args.world.now.state c.args.changes.now c.requires c.keeps.ensures)
