-- The id comes where it isn't held, and then its value is written.
use Rattle.std.proofs.Common.{length, replicate}
use Rattle.ecs_archetypes.specs.Housing.{holdings_of}
use Rattle.ecs_archetypes.proofs.ArchetypeCalls.{held_after, put_after}
use Rattle.ecs_archetypes.proofs.StandingTables.{last_more, last_then}
use Rattle.ecs_archetypes.proofs.Archetypes.put.Goals as goal

pub set_value-requires-2-clause-held : goal.set_value-requires-2-clause-held
set_value-requires-2-clause-held g c = held_after (holdings_of c.add.new.self) (holdings_of c.args.self.now) c.args.entity.index c.args.id (replicate (length c.args.bytes.now) 0) c.in_ok-now.ensures.added

pub returns-clause-put : goal.returns-clause-put
returns-clause-put g c = put_after (holdings_of c.add.new.self) (holdings_of c.args.self.now) c.args.entity.index c.args.id (replicate (length c.args.bytes.now) 0) c.in_ok-now.ensures.added _ c.args.bytes.now c.set_value-2.ensures.written

pub returns-clause-kept : goal.returns-clause-kept
returns-clause-kept g c = last_then _ _ _ _ c.add.ensures.kept c.set_value-2.ensures.alike c.set_value-2.ensures.kept.whole

pub returns-then-found-clause-kept : goal.returns-then-found-clause-kept
returns-then-found-clause-kept g c = last_more c.set_value.ensures.kept
