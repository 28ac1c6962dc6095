-- Each move has the room that was made for it.
use Rattle.std.proofs.lemmas.Grind.{common_steps}
use Rattle.std.proofs.Common.{arith, refl}
use Rattle.ecs_archetypes.proofs.TableMoves.{carried_on}
use Rattle.ecs_archetypes.proofs.Archetypes.move_all.Goals as goal

pub loop-one-preserved : goal.loop-one-preserved
loop-one-preserved g c =
    carried_on c.args.self.now c.loop-one.self c.move_to.new.self c.args.moves.now c.loop-one.one-index _ _ refl (omega (arith, c.loop-one-test.true)) c.loop-one.invariant c.move_to.ensures.held c.move_to.ensures.alike c.move_to.ensures.room

pub move_to-requires-clause-settled : goal.move_to-requires-clause-settled
move_to-requires-clause-settled g c = grind (arith, common_steps)

pub move_to-requires-clause-room : goal.move_to-requires-clause-room
move_to-requires-clause-room g c = grind (arith, common_steps)

pub returns-clause-held : goal.returns-clause-held
returns-clause-held g c = grind (arith, common_steps)
