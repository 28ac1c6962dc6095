-- The new entity enters the table.
use Rattle.std.proofs.Common.{arith}
use Rattle.std.proofs.Common.{◌∙◌, ap, refl, subst, sym}
use Rattle.ecs_archetypes.specs.Holdings.{upcoming}
use Rattle.ecs_archetypes.specs.Archetypes.{IsSound}
use Rattle.ecs_archetypes.specs.Housing.{holdings_of}
use Rattle.table_store.specs.Store.{shape_at}
use Rattle.ecs_archetypes.proofs.ArchetypeCalls.{alike_born, born_alive, sound_born}
use Rattle.ecs_archetypes.proofs.FirstHoldings.{same_next}
use Rattle.ecs_archetypes.proofs.Soundness.{holdings}
use Rattle.ecs_archetypes.proofs.Archetypes.create_in.Goals as goal

pub enter-requires-clause-sound : goal.enter-requires-clause-sound
enter-requires-clause-sound g c = sound_born c.self.inside.entities c.create.new.self c.self.inside.tables c.self.invariant c.in-Ok.entity c.in-Ok.ensures.smallest c.in-Ok.ensures.born c.create.ensures.well_formed

pub enter-requires-clause-alive : goal.enter-requires-clause-alive
enter-requires-clause-alive g c = born_alive c.self.inside.entities c.create.new.self c.self.inside.tables c.self.invariant c.in-Ok.entity c.in-Ok.ensures.smallest c.in-Ok.ensures.born c.create.ensures.well_formed

pub returns-in_default-clause-holdings : goal.returns-in_default-clause-holdings
returns-in_default-clause-holdings g c = holdings c.create.new.self c.self.inside.tables (subst (λ u. IsSound u c.self.inside.tables) (sym c.in_default.ensures.err) c.self.invariant)

pub returns-clause-holdings : goal.returns-clause-holdings
returns-clause-holdings g c = holdings c.enter.new.entities c.enter.new.tables c.enter.ensures.sound

pub returns-clause-next : goal.returns-clause-next
returns-clause-next g c = sym (same_next c.self.inside.entities c.self.inside.tables c.self.invariant.last ∙ ap (λ h. upcoming (holdings_of h)) c.self.view_is) ∙ c.in-Ok.ensures.next

pub returns-clause-born : goal.returns-clause-born
returns-clause-born g c = λ f shape.
    alike_born c.self.inside.entities c.create.new.self c.self.inside.tables c.self.inside.tables c.self.invariant (λ p. refl) c.self.invariant.stored (holdings_of c.args.self.now) (ap holdings_of c.self.view_is) c.in-Ok.entity c.in-Ok.ensures.born _ _
    (c.enter.ensures.held f (ap (λ h. shape_at h.tables c.args.to) c.self.view_is ∙ shape))

pub invariant_of-self : goal.invariant_of-self
invariant_of-self g c = grind arith

pub returns-in_default-clause-refused : goal.returns-in_default-clause-refused
returns-in_default-clause-refused g c = grind arith

pub returns-in_default-clause-alike : goal.returns-in_default-clause-alike
returns-in_default-clause-alike g c = grind arith

pub returns-in_default-clause-whole : goal.returns-in_default-clause-whole
returns-in_default-clause-whole g c = grind arith

pub enter-requires-clause-nowhere : goal.enter-requires-clause-nowhere
enter-requires-clause-nowhere g c = grind arith

pub enter-requires-clause-room : goal.enter-requires-clause-room
enter-requires-clause-room g c = grind arith

pub invariant_of-self-2 : goal.invariant_of-self-2
invariant_of-self-2 g c = grind arith

pub returns-clause-alike : goal.returns-clause-alike
returns-clause-alike g c = grind arith

pub returns-clause-whole : goal.returns-clause-whole
returns-clause-whole g c = grind arith
