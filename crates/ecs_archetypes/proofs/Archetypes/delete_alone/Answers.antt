-- The entity leaves its row.
use Rattle.std.proofs.Common.{◌∙◌, ap, not, subst, sym}
use Rattle.std.specs.Option.{IsSome, is_some}
use Rattle.ecs_model.proofs.Maps.{both_true}
use Rattle.ecs_archetypes.specs.Holdings.{cells_at, lives}
use Rattle.ecs_archetypes.specs.Housing.{holdings_of}
use Rattle.ecs_archetypes.proofs.ArchetypeCalls.{settled_there}
use Rattle.ecs_archetypes.proofs.MapLists.{both}
use Rattle.ecs_model.specs.World.{is_built_in}
use Rattle.entity_index.specs.Entities.{is_alive}
use Rattle.ecs_archetypes.proofs.Archetypes.delete_alone.Goals as goal

pub unwrap-place-requires : goal.unwrap-place-requires
unwrap-place-requires g c =
    let h = both_true (lives (holdings_of c.args.self.now) c.args.entity) (is_some (cells_at (holdings_of c.args.self.now) c.args.entity.index)) c.requires.settled in
    subst IsSome (sym c.place.ensures) (settled_there c.self.inside.entities c.self.inside.tables c.self.invariant (holdings_of c.args.self.now) (ap holdings_of c.self.view_is) c.args.entity h.0 h.1)

pub leave_alone-requires-clause-deletable : goal.leave_alone-requires-clause-deletable
leave_alone-requires-clause-deletable g c =
    let h = both_true (lives (holdings_of c.args.self.now) c.args.entity) (is_some (cells_at (holdings_of c.args.self.now) c.args.entity.index)) c.requires.settled in
    both (is_alive c.self.inside.entities c.args.entity) (not (is_built_in c.args.entity.index)) (ap (λ z. lives (holdings_of z) c.args.entity) c.self.view_is ∙ h.0) (ap not c.requires.deletable)
