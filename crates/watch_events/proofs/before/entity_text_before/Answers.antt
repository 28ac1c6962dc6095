use Rattle.watch_events.proofs.OrderedChanges.{died_rises}
use Rattle.watch_events.proofs.before.entity_text_before.Goals as goal

pub death_at-requires : goal.death_at-requires
death_at-requires g c = died_rises c.args.world.now.state c.args.changes.now c.requires
