-- Each deletion leaves the others as they were.
use Rattle.std.proofs.Common.{arith, refl, subst}
use Rattle.ecs_archetypes.specs.Housing.{IsHoused}
use Rattle.ecs_archetypes.proofs.DeathLists.{deleted_more, next_deletable, next_settled}
use Rattle.ecs_archetypes.proofs.Soundness.{holdings}
use Rattle.ecs_archetypes.proofs.Archetypes.delete_each.Goals as goal

pub delete_alone-requires-clause-settled : goal.delete_alone-requires-clause-settled
delete_alone-requires-clause-settled g c = next_settled c.args.self.now c.loop-entity.self c.args.dead.now c.loop-entity.entity-index _ _ refl (omega (arith, c.loop-entity-test.true)) c.loop-entity.invariant

pub delete_alone-requires-clause-deletable : goal.delete_alone-requires-clause-deletable
delete_alone-requires-clause-deletable g c = next_deletable c.args.self.now c.loop-entity.self c.args.dead.now c.loop-entity.entity-index _ _ refl (omega (arith, c.loop-entity-test.true)) c.loop-entity.invariant

pub loop-entity-preserved : goal.loop-entity-preserved
loop-entity-preserved g c = deleted_more c.args.self.now c.loop-entity.self c.args.dead.now c.loop-entity.entity-index _ _ refl (omega (arith, c.loop-entity-test.true)) c.loop-entity.invariant c.delete_alone.new.self c.delete_alone.ensures.held c.delete_alone.ensures.alike

pub returns-clause-holdings : goal.returns-clause-holdings
returns-clause-holdings g c = holdings c.loop-entity.self.entities c.loop-entity.self.tables (subst IsHoused c.self.view_is c.self.invariant)
