-- The row moves to the table without the id.
use Rattle.std.proofs.Common.{◌∙◌, [], ap}
use Rattle.entity_index.specs.Entities.{place_of}
use Rattle.ecs_archetypes.specs.Housing.{holdings_of}
use Rattle.ecs_archetypes.proofs.ArchetypeCalls.{alike_narrower, apart_narrower, found_lives}
use Rattle.ecs_archetypes.proofs.Soundness.{own_row, row_stands}
use Rattle.ecs_archetypes.proofs.StandingTables.{last_room, last_rows}
use Rattle.ecs_archetypes.proofs.Archetypes.remove.Goals as goal

pub narrower-requires : goal.narrower-requires
narrower-requires g c =
    let r = own_row c.self.inside.entities c.self.inside.tables c.self.invariant c.args.entity c.args.place (ap (λ h. place_of h.entities c.args.entity) c.self.view_is ∙ c.requires.there) in
    record { stands = row_stands c.self.inside.tables c.args.place (c.args.entity, r.0) r.1 }

pub carry_alone-requires-clause-apart : goal.carry_alone-requires-clause-apart
carry_alone-requires-clause-apart g c =
    apart_narrower c.self.inside.entities c.self.inside.tables c.narrower.new.self c.self.invariant c.narrower.ensures.kept.grown.rows c.narrower.ensures.kept.whole (holdings_of c.args.self.now) (ap holdings_of c.self.view_is) c.args.entity (found_lives c.self.inside.entities c.self.inside.tables c.self.invariant (holdings_of c.args.self.now) (ap holdings_of c.self.view_is) c.args.entity c.args.place (ap (λ h. place_of h.entities c.args.entity) c.self.view_is ∙ c.requires.there)) c.args.place (ap (λ h. place_of h.entities c.args.entity) c.self.view_is ∙ c.requires.there) c.args.id c.in_ok-to.to c.requires.held c.in_ok-to.ensures.shape

pub returns-clause-removed : goal.returns-clause-removed
returns-clause-removed g c =
    alike_narrower c.self.inside.entities c.self.inside.tables c.narrower.new.self c.self.invariant c.narrower.ensures.kept.grown.rows c.narrower.ensures.kept.whole (holdings_of c.args.self.now) (ap holdings_of c.self.view_is) c.args.entity (found_lives c.self.inside.entities c.self.inside.tables c.self.invariant (holdings_of c.args.self.now) (ap holdings_of c.self.view_is) c.args.entity c.args.place (ap (λ h. place_of h.entities c.args.entity) c.self.view_is ∙ c.requires.there)) c.args.place (ap (λ h. place_of h.entities c.args.entity) c.self.view_is ∙ c.requires.there) c.args.id c.in_ok-to.to _ c.in_ok-to.ensures.shape c.carry_alone.ensures.held

pub returns-in_err-to-clause-kept : goal.returns-in_err-to-clause-kept
returns-in_err-to-clause-kept g c = last_room c.self.inside.entities c.self.inside.tables c.args.self.now c.self.view_is c.self.invariant [] c.narrower.new.self c.narrower.ensures.kept

pub returns-clause-kept : goal.returns-clause-kept
returns-clause-kept g c = last_rows c.self.inside.entities c.self.inside.tables c.args.self.now c.self.view_is c.self.invariant [] c.narrower.new.self c.narrower.ensures.kept
    c.carry_alone.new.entities c.carry_alone.new.tables c.carry_alone.ensures.alike c.carry_alone.ensures.sound
