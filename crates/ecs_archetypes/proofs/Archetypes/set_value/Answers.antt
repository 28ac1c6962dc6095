-- The value is written in the entity's row.
use Rattle.std.proofs.Common.{◌∙◌, ap, subst, sym}
use Rattle.std.specs.FinMap.{put}
use Rattle.ecs_id.specs.Id.{id_cmp}
use Rattle.entity_index.specs.Entities.{place_of}
use Rattle.ecs_archetypes.specs.Archetypes.{meaning}
use Rattle.ecs_archetypes.specs.Holdings.{HoldAlike, held_at, with_cells}
use Rattle.ecs_archetypes.specs.Housing.{holdings_of}
use Rattle.ecs_archetypes.proofs.ArchetypeCalls.{found_lives, held_size, row_here}
use Rattle.ecs_archetypes.proofs.RowChanges.{alike_written, sound_written}
use Rattle.ecs_archetypes.proofs.Soundness.{row_within}
use Rattle.ecs_archetypes.proofs.StandingTables.{last_alike}
use Rattle.ecs_archetypes.proofs.Archetypes.set_value.Goals as goal

pub set_value-requires-clause-there : goal.set_value-requires-clause-there
set_value-requires-clause-there g c =
    let r = row_here c.self.inside.entities c.self.inside.tables c.self.invariant (holdings_of c.args.self.now) (ap holdings_of c.self.view_is) c.args.entity (found_lives c.self.inside.entities c.self.inside.tables c.self.invariant (holdings_of c.args.self.now) (ap holdings_of c.self.view_is) c.args.entity c.args.place (ap (λ h. place_of h.entities c.args.entity) c.self.view_is ∙ c.requires.there)) c.args.place (ap (λ h. place_of h.entities c.args.entity) c.self.view_is ∙ c.requires.there) in
    row_within c.self.inside.tables c.args.place (c.args.entity, r.0) r.1

pub set_value-requires-clause-size : goal.set_value-requires-clause-size
set_value-requires-clause-size g c =
    held_size c.self.inside.entities c.self.inside.tables c.self.invariant (holdings_of c.args.self.now) (ap holdings_of c.self.view_is) c.args.entity (found_lives c.self.inside.entities c.self.inside.tables c.self.invariant (holdings_of c.args.self.now) (ap holdings_of c.self.view_is) c.args.entity c.args.place (ap (λ h. place_of h.entities c.args.entity) c.self.view_is ∙ c.requires.there)) c.args.place (ap (λ h. place_of h.entities c.args.entity) c.self.view_is ∙ c.requires.there) c.args.id _ c.requires.held c.requires.size

pub invariant_of-self : goal.invariant_of-self
invariant_of-self g c =
    let r = row_here c.self.inside.entities c.self.inside.tables c.self.invariant (holdings_of c.args.self.now) (ap holdings_of c.self.view_is) c.args.entity (found_lives c.self.inside.entities c.self.inside.tables c.self.invariant (holdings_of c.args.self.now) (ap holdings_of c.self.view_is) c.args.entity c.args.place (ap (λ h. place_of h.entities c.args.entity) c.self.view_is ∙ c.requires.there)) c.args.place (ap (λ h. place_of h.entities c.args.entity) c.self.view_is ∙ c.requires.there) in
    sound_written c.self.inside.entities c.self.inside.tables c.set_value.new.self c.self.invariant c.args.entity c.args.place (put id_cmp c.args.id c.args.bytes.now r.0) (ap (λ h. place_of h.entities c.args.entity) c.self.view_is ∙ c.requires.there) c.set_value.ensures.whole (c.set_value.ensures.rows (c.args.entity, r.0) r.1)

pub returns-clause-written : goal.returns-clause-written
returns-clause-written g c =
    let r = row_here c.self.inside.entities c.self.inside.tables c.self.invariant (holdings_of c.args.self.now) (ap holdings_of c.self.view_is) c.args.entity (found_lives c.self.inside.entities c.self.inside.tables c.self.invariant (holdings_of c.args.self.now) (ap holdings_of c.self.view_is) c.args.entity c.args.place (ap (λ h. place_of h.entities c.args.entity) c.self.view_is ∙ c.requires.there)) c.args.place (ap (λ h. place_of h.entities c.args.entity) c.self.view_is ∙ c.requires.there) in
    subst (λ h. HoldAlike (meaning c.self.inside.entities c.set_value.new.self) (with_cells h c.args.entity.index (put id_cmp c.args.id c.args.bytes.now (held_at (holdings_of c.args.self.now) c.args.entity.index)))) (ap holdings_of c.self.view_is)
    (subst (λ z. HoldAlike (meaning c.self.inside.entities c.set_value.new.self) (with_cells (meaning c.self.inside.entities c.self.inside.tables) c.args.entity.index (put id_cmp c.args.id c.args.bytes.now z))) (sym r.2)
    (alike_written c.self.inside.entities c.self.inside.tables c.set_value.new.self c.self.invariant c.args.entity c.args.place (put id_cmp c.args.id c.args.bytes.now r.0) (ap (λ h. place_of h.entities c.args.entity) c.self.view_is ∙ c.requires.there) c.set_value.ensures.whole (c.set_value.ensures.rows (c.args.entity, r.0) r.1)))

pub returns-clause-kept : goal.returns-clause-kept
returns-clause-kept g c =
    let r = row_here c.self.inside.entities c.self.inside.tables c.self.invariant (holdings_of c.args.self.now) (ap holdings_of c.self.view_is) c.args.entity (found_lives c.self.inside.entities c.self.inside.tables c.self.invariant (holdings_of c.args.self.now) (ap holdings_of c.self.view_is) c.args.entity c.args.place (ap (λ h. place_of h.entities c.args.entity) c.self.view_is ∙ c.requires.there)) c.args.place (ap (λ h. place_of h.entities c.args.entity) c.self.view_is ∙ c.requires.there) in
    last_alike c.self.inside.entities c.self.inside.tables c.args.self.now c.self.view_is c.self.invariant c.self.inside.entities c.set_value.new.self c.set_value.ensures.alike
    (sound_written c.self.inside.entities c.self.inside.tables c.set_value.new.self c.self.invariant c.args.entity c.args.place (put id_cmp c.args.id c.args.bytes.now r.0) (ap (λ h. place_of h.entities c.args.entity) c.self.view_is ∙ c.requires.there) c.set_value.ensures.whole (c.set_value.ensures.rows (c.args.entity, r.0) r.1))
