-- The table that lost the row keeps its rows when it gives memory back.
use Rattle.std.proofs.Common.{◌∙◌}
use Rattle.ecs_archetypes.proofs.KnownIds.{shape_stands, shape_there}
use Rattle.ecs_archetypes.proofs.Soundness.{alike_then, own_row, row_stands}
use Rattle.ecs_archetypes.proofs.rows.carry_alone.Goals as goal

pub shrink-requires : goal.shrink-requires
shrink-requires g c =
    let r = own_row c.args.entities.now c.args.tables.now c.requires.sound c.args.entity c.args.place c.requires.there in
    let f = shape_there c.args.tables.now c.args.place.table (row_stands c.args.tables.now c.args.place (c.args.entity, r.0) r.1) in
    record { stands = shape_stands c.carry-now.new.tables c.args.place.table f.0 (c.carry-now.ensures.alike.shapes c.args.place.table ∙ f.1) }

pub returns-clause-held : goal.returns-clause-held
returns-clause-held g c = λ f at. alike_then c.carry-now.new.entities c.carry-now.new.tables c.shrink.new.self c.carry-now.ensures.sound c.shrink.ensures.rows c.shrink.ensures.whole _ (c.carry-now.ensures.held f at)
