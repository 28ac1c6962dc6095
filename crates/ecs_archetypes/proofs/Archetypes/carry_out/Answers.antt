-- The moves, and then memory that is given back.
use Rattle.std.proofs.Common.{subst}
use Rattle.ecs_archetypes.specs.Holdings.{HoldAlike}
use Rattle.ecs_archetypes.specs.Housing.{holdings_of}
use Rattle.ecs_archetypes.specs.Moves.{with_all_moved}
use Rattle.ecs_archetypes.proofs.TableMoves.{alike_then}
use Rattle.ecs_archetypes.proofs.Soundness.{holdings}
use Rattle.ecs_archetypes.proofs.Archetypes.carry_out.Goals as goal

pub returns-clause-held : goal.returns-clause-held
returns-clause-held g c = alike_then _ _ _ c.shrink_left.ensures.held
    (subst (λ ms. HoldAlike (holdings_of c.move_all.new.self) (with_all_moved c.args.self.now.tables ms (holdings_of c.args.self.now))) c.moves-moves.ensures c.move_all.ensures.held)

pub returns-clause-holdings : goal.returns-clause-holdings
returns-clause-holdings g c = holdings c.shrink_left.new.self.entities c.shrink_left.new.self.tables c.shrink_left.ensures.whole
