-- The row moves to the table, unless it stands there.
use Rattle.std.proofs.Common.{arith}
use Rattle.std.proofs.Common.{◌∙◌, ap, subst, sym}
use Rattle.std.specs.Option.{IsSome, is_some}
use Rattle.ecs_model.proofs.Maps.{both_true}
use Rattle.ecs_archetypes.specs.Holdings.{cells_at, lives}
use Rattle.ecs_archetypes.specs.Housing.{holdings_of}
use Rattle.ecs_archetypes.proofs.ArchetypeCalls.{settled_there}
use Rattle.ecs_archetypes.proofs.TableMoves.{alike_staying, not_false}
use Rattle.ecs_archetypes.proofs.Placings.{table_eq-tells}
use Rattle.table_store.specs.Store.{shape_at}
use Rattle.ecs_archetypes.proofs.Archetypes.move_to.Goals as goal

pub unwrap-place-requires : goal.unwrap-place-requires
unwrap-place-requires g c =
    let h = both_true (lives (holdings_of c.args.self.now) c.args.entity) (is_some (cells_at (holdings_of c.args.self.now) c.args.entity.index)) c.requires.settled in
    subst IsSome (sym c.place.ensures) (settled_there c.self.inside.entities c.self.inside.tables c.self.invariant (holdings_of c.args.self.now) (ap holdings_of c.self.view_is) c.args.entity h.0 h.1)

pub returns-else-ne-clause-held : goal.returns-else-ne-clause-held
returns-else-ne-clause-held g c =
    let h = both_true (lives (holdings_of c.args.self.now) c.args.entity) (is_some (cells_at (holdings_of c.args.self.now) c.args.entity.index)) c.requires.settled in
    let same = (table_eq-tells c.unwrap-place.result.table c.args.to).0 (not_false _ (sym c.ne.ensures ∙ c.if-ne.false)) in
    λ f shape. alike_staying c.self.inside.entities c.self.inside.tables c.self.invariant (holdings_of c.args.self.now) (ap holdings_of c.self.view_is) c.args.entity h.0 c.unwrap-place.result (sym c.place.ensures ∙ c.unwrap-place.ensures) f
    (ap (shape_at c.self.inside.tables) same ∙ ap (λ z. shape_at z.tables c.args.to) c.self.view_is ∙ shape)

pub carry-requires-clause-sound : goal.carry-requires-clause-sound
carry-requires-clause-sound g c = grind arith

pub carry-requires-clause-there : goal.carry-requires-clause-there
carry-requires-clause-there g c = grind arith

pub carry-requires-clause-apart : goal.carry-requires-clause-apart
carry-requires-clause-apart g c = grind arith

pub carry-requires-clause-room : goal.carry-requires-clause-room
carry-requires-clause-room g c = grind arith

pub invariant_of-self : goal.invariant_of-self
invariant_of-self g c = grind arith

pub returns-then-ne-clause-held : goal.returns-then-ne-clause-held
returns-then-ne-clause-held g c = grind arith

pub returns-then-ne-clause-alike : goal.returns-then-ne-clause-alike
returns-then-ne-clause-alike g c = grind arith

pub returns-then-ne-clause-room : goal.returns-then-ne-clause-room
returns-then-ne-clause-room g c = grind arith

pub returns-then-ne-clause-whole : goal.returns-then-ne-clause-whole
returns-then-ne-clause-whole g c = grind arith

pub returns-else-ne-clause-alike : goal.returns-else-ne-clause-alike
returns-else-ne-clause-alike g c = grind arith

pub returns-else-ne-clause-room : goal.returns-else-ne-clause-room
returns-else-ne-clause-room g c = grind arith

pub returns-else-ne-clause-whole : goal.returns-else-ne-clause-whole
returns-else-ne-clause-whole g c = grind arith
