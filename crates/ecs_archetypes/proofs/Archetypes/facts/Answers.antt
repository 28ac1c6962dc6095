-- The cells of the row where the entity stands.
use Rattle.std.proofs.Common.{Some, ◌∙◌, ap, sym}
use Rattle.ecs_archetypes.proofs.RowReads.{facts_read, no_facts, no_table, row_fits}
use Rattle.ecs_archetypes.specs.Housing.{holdings_of}
use Rattle.ecs_archetypes.proofs.Archetypes.facts.Goals as goal

pub returns-in_err-place : goal.returns-in_err-place
returns-in_err-place g c = c.from_residual.ensures
    ∙ no_facts c.self.inside.entities c.self.inside.tables c.self.invariant (holdings_of c.args.self.now) (ap holdings_of c.self.view_is) c.args.entity (sym c.place.ensures ∙ c.in_err-place.was)

pub returns-in_err-table : goal.returns-in_err-table
returns-in_err-table g c = absurd (no_table c.self.inside.entities c.self.inside.tables c.self.invariant (holdings_of c.args.self.now) (ap holdings_of c.self.view_is) c.args.entity c.in_ok-place.place
    (sym c.place.ensures ∙ c.in_ok-place.was) c.in_err-table.ensures.table)

pub new-requires : goal.new-requires
new-requires g c = row_fits c.self.inside.entities c.self.inside.tables c.self.invariant (holdings_of c.args.self.now) (ap holdings_of c.self.view_is) c.args.entity c.in_ok-place.place
    (sym c.place.ensures ∙ c.in_ok-place.was) c.in_ok-table.table.now c.in_ok-table.ensures.table

pub returns : goal.returns
returns g c = ap Some c.new.ensures
    ∙ facts_read c.self.inside.entities c.self.inside.tables c.self.invariant (holdings_of c.args.self.now) (ap holdings_of c.self.view_is) c.args.entity c.in_ok-place.place
    (sym c.place.ensures ∙ c.in_ok-place.was) c.in_ok-table.table.now c.in_ok-table.ensures.table
