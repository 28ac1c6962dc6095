-- Each table that gives memory back stands with its rows.
use Rattle.ecs_archetypes.proofs.TableMoves.{shrunk_more}
use Rattle.ecs_archetypes.proofs.Archetypes.shrink_left.Goals as goal

pub loop-one-preserved : goal.loop-one-preserved
loop-one-preserved g c = shrunk_more c.args.self.now c.loop-one.self c.shrink.new.self c.loop-one.invariant c.shrink.ensures.held c.shrink.ensures.alike
