use Rattle.std.proofs.Common.{take}
use Rattle.std.specs.Prelude.{flat_map}
use Rattle.watch_touched.specs.Leaning.{Adds}
use Rattle.watch_touched.proofs.RoleWalks.{behind_entry}
use Rattle.watch_touched.proofs.roles.Walk.push_from_fact.Given as goal

abbrev pub invariant-entries : goal.invariant-entries
invariant-entries g l = Adds (flat_map (behind_entry l.self.query.now l.self.world.now.state l.self.changes.now l.fact) (take l.one-index (l.self.asked.now).others.items)) l.initial.moving.items l.moving.items
