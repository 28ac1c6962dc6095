-- The entity's row is read in its table.
use Rattle.std.proofs.Common.{◌∙◌, ap, sym}
use Rattle.std.specs.Option.{option_copied}
use Rattle.ecs_archetypes.proofs.RowReads.{bytes_read, no_table, none_alive, none_placed, row_fits}
use Rattle.ecs_archetypes.specs.Housing.{holdings_of}
use Rattle.ecs_archetypes.proofs.Archetypes.bytes.Goals as goal

pub returns-in_err-entity : goal.returns-in_err-entity
returns-in_err-entity g c = ap option_copied c.from_residual.ensures
    ∙ none_alive c.self.inside.entities c.self.inside.tables c.self.invariant (holdings_of c.args.self.now) (ap holdings_of c.self.view_is) c.args.index c.args.id (sym c.at.ensures ∙ c.in_err-entity.was)

pub returns-in_err-place : goal.returns-in_err-place
returns-in_err-place g c = ap option_copied c.from_residual-in_err-place.ensures
    ∙ none_placed c.self.inside.entities c.self.inside.tables c.self.invariant (holdings_of c.args.self.now) (ap holdings_of c.self.view_is) c.args.index c.args.id c.in_ok-entity.entity
    (sym c.at.ensures ∙ c.in_ok-entity.was) (sym c.place.ensures ∙ c.in_err-place.was)

pub returns-in_err-table : goal.returns-in_err-table
returns-in_err-table g c = absurd (no_table c.self.inside.entities c.self.inside.tables c.self.invariant (holdings_of c.args.self.now) (ap holdings_of c.self.view_is) c.in_ok-entity.entity c.in_ok-place.place
    (sym c.place.ensures ∙ c.in_ok-place.was) c.in_err-table.ensures.table)

pub value_in-requires : goal.value_in-requires
value_in-requires g c = row_fits c.self.inside.entities c.self.inside.tables c.self.invariant (holdings_of c.args.self.now) (ap holdings_of c.self.view_is) c.in_ok-entity.entity c.in_ok-place.place
    (sym c.place.ensures ∙ c.in_ok-place.was) c.in_ok-table.table.now c.in_ok-table.ensures.table

pub returns : goal.returns
returns g c = c.value_in.ensures
    ∙ bytes_read c.self.inside.entities c.self.inside.tables c.self.invariant (holdings_of c.args.self.now) (ap holdings_of c.self.view_is) c.in_ok-entity.entity c.in_ok-place.place
    (sym c.place.ensures ∙ c.in_ok-place.was) c.in_ok-table.table.now c.in_ok-table.ensures.table c.args.index c.args.id (sym c.at.ensures ∙ c.in_ok-entity.was)
