-- The row moves to the table with the id.
use Rattle.std.proofs.Common.{arith}
use Rattle.std.proofs.Common.{◌∙◌, ◌∷◌, [], ap}
use Rattle.entity_index.specs.Entities.{place_of}
use Rattle.ecs_archetypes.specs.Housing.{holdings_of}
use Rattle.ecs_archetypes.proofs.ArchetypeCalls.{alike_wider, apart_wider, found_lives}
use Rattle.ecs_archetypes.proofs.Soundness.{own_row, row_stands}
use Rattle.ecs_archetypes.proofs.StandingTables.{last_room, last_rows}
use Rattle.ecs_archetypes.proofs.Archetypes.add.Goals as goal

pub wider-requires-clause-stands : goal.wider-requires-clause-stands
wider-requires-clause-stands g c =
    let r = own_row c.self.inside.entities c.self.inside.tables c.self.invariant c.args.entity c.args.place (ap (λ h. place_of h.entities c.args.entity) c.self.view_is ∙ c.requires.there) in
    row_stands c.self.inside.tables c.args.place (c.args.entity, r.0) r.1

pub carry_alone-now-requires-clause-apart : goal.carry_alone-now-requires-clause-apart
carry_alone-now-requires-clause-apart g c =
    apart_wider c.self.inside.entities c.self.inside.tables c.wider.new.self c.self.invariant c.wider.ensures.kept.grown.rows c.wider.ensures.kept.whole (holdings_of c.args.self.now) (ap holdings_of c.self.view_is) c.args.entity (found_lives c.self.inside.entities c.self.inside.tables c.self.invariant (holdings_of c.args.self.now) (ap holdings_of c.self.view_is) c.args.entity c.args.place (ap (λ h. place_of h.entities c.args.entity) c.self.view_is ∙ c.requires.there)) c.args.place (ap (λ h. place_of h.entities c.args.entity) c.self.view_is ∙ c.requires.there) c.args.id c.in_ok-to.to c.args.size c.requires.not_held c.in_ok-to.ensures.shape

pub returns-clause-added : goal.returns-clause-added
returns-clause-added g c =
    alike_wider c.self.inside.entities c.self.inside.tables c.wider.new.self c.self.invariant c.wider.ensures.kept.grown.rows c.wider.ensures.kept.whole (holdings_of c.args.self.now) (ap holdings_of c.self.view_is) c.args.entity (found_lives c.self.inside.entities c.self.inside.tables c.self.invariant (holdings_of c.args.self.now) (ap holdings_of c.self.view_is) c.args.entity c.args.place (ap (λ h. place_of h.entities c.args.entity) c.self.view_is ∙ c.requires.there)) c.args.place (ap (λ h. place_of h.entities c.args.entity) c.self.view_is ∙ c.requires.there) c.args.id c.in_ok-to.to c.args.size _ c.requires.not_held c.in_ok-to.ensures.shape c.carry_alone-now.ensures.held

pub returns-in_err-to-clause-kept : goal.returns-in_err-to-clause-kept
returns-in_err-to-clause-kept g c = last_room c.self.inside.entities c.self.inside.tables c.args.self.now c.self.view_is c.self.invariant ((c.args.id, c.args.size) ∷ []) c.wider.new.self c.wider.ensures.kept

pub returns-clause-kept : goal.returns-clause-kept
returns-clause-kept g c = last_rows c.self.inside.entities c.self.inside.tables c.args.self.now c.self.view_is c.self.invariant ((c.args.id, c.args.size) ∷ []) c.wider.new.self c.wider.ensures.kept
    c.carry_alone-now.new.entities c.carry_alone-now.new.tables c.carry_alone-now.ensures.alike c.carry_alone-now.ensures.sound

pub wider-requires-clause-small : goal.wider-requires-clause-small
wider-requires-clause-small g c = grind arith

pub wider-requires-clause-agree : goal.wider-requires-clause-agree
wider-requires-clause-agree g c = grind arith

pub invariant_of-self : goal.invariant_of-self
invariant_of-self g c = grind arith

pub returns-in_err-to-clause-placed : goal.returns-in_err-to-clause-placed
returns-in_err-to-clause-placed g c = grind arith

pub returns-in_err-to-clause-added : goal.returns-in_err-to-clause-added
returns-in_err-to-clause-added g c = grind arith

pub returns-in_err-to-clause-refused : goal.returns-in_err-to-clause-refused
returns-in_err-to-clause-refused g c = grind arith

pub carry_alone-now-requires-clause-sound : goal.carry_alone-now-requires-clause-sound
carry_alone-now-requires-clause-sound g c = grind arith

pub carry_alone-now-requires-clause-there : goal.carry_alone-now-requires-clause-there
carry_alone-now-requires-clause-there g c = grind arith

pub carry_alone-now-requires-clause-room : goal.carry_alone-now-requires-clause-room
carry_alone-now-requires-clause-room g c = grind arith

pub invariant_of-self-2 : goal.invariant_of-self-2
invariant_of-self-2 g c = grind arith

pub returns-clause-placed : goal.returns-clause-placed
returns-clause-placed g c = grind arith
