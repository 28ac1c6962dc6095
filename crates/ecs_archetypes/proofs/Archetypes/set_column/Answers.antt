use Rattle.std.proofs.Common.{◌∙◌, ap, subst, sym}
use Rattle.table_store.specs.Rows.{AreValues}
use Rattle.table_store.specs.Store.{size_in, table_at}
use Rattle.ecs_archetypes.specs.Archetypes.{meaning}
use Rattle.ecs_archetypes.specs.Holdings.{HoldAlike, with_each_written}
use Rattle.ecs_archetypes.specs.Housing.{holdings_of}
use Rattle.ecs_archetypes.proofs.WholeColumns.{alike_column, sound_column}
use Rattle.ecs_archetypes.proofs.StandingTables.{last_alike}
use Rattle.ecs_archetypes.proofs.Archetypes.set_column.Goals as goal

pub set_column-requires : goal.set_column-requires
set_column-requires g c = subst (λ h. AreValues h.tables c.args.key c.args.id c.args.bytes.now) (sym c.self.view_is) c.requires

pub invariant_of-self : goal.invariant_of-self
invariant_of-self g c =
    let values = subst (λ h. AreValues h.tables c.args.key c.args.id c.args.bytes.now) (sym c.self.view_is) c.requires in
    sound_column c.self.inside.entities c.self.inside.tables c.set_column.new.self c.self.invariant c.set_column.ensures.whole c.args.key c.args.id values.0 c.args.bytes.now (c.set_column.ensures.rows values.0 values.1)

pub returns-clause-written : goal.returns-clause-written
returns-clause-written g c =
    λ t n at size.
    let rows = c.set_column.ensures.rows n (ap (λ h. size_in h.tables c.args.key c.args.id) c.self.view_is ∙ size) in
    subst (λ h. HoldAlike (meaning c.self.inside.entities c.set_column.new.self) (with_each_written c.args.id n t.entities c.args.bytes.now h)) (ap holdings_of c.self.view_is)
    (alike_column c.self.inside.entities c.self.inside.tables c.set_column.new.self c.self.invariant c.set_column.ensures.whole c.args.key c.args.id n c.args.bytes.now rows t (ap (λ h. table_at h.tables c.args.key) c.self.view_is ∙ at))

pub returns-clause-kept : goal.returns-clause-kept
returns-clause-kept g c =
    let values = subst (λ h. AreValues h.tables c.args.key c.args.id c.args.bytes.now) (sym c.self.view_is) c.requires in
    last_alike c.self.inside.entities c.self.inside.tables c.args.self.now c.self.view_is c.self.invariant c.self.inside.entities c.set_column.new.self c.set_column.ensures.alike
    (sound_column c.self.inside.entities c.self.inside.tables c.set_column.new.self c.self.invariant c.set_column.ensures.whole c.args.key c.args.id values.0 c.args.bytes.now (c.set_column.ensures.rows values.0 values.1))
