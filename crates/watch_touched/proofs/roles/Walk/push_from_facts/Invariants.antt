use Rattle.std.proofs.Common.{take}
use Rattle.std.specs.Prelude.{flat_map}
use Rattle.watch_touched.specs.Leaning.{Adds}
use Rattle.watch_touched.specs.Steps.{found_from}
use Rattle.watch_touched.proofs.roles.Walk.push_from_facts.Given as goal

abbrev pub invariant-loop-fact : goal.invariant-loop-fact
invariant-loop-fact g l = Adds (flat_map (found_from l.self.query.now l.self.world.now.state l.self.changes.now (l.self.asked.now).others.items) (take l.fact-index l.facts)) l.initial.moving.items l.moving.items
