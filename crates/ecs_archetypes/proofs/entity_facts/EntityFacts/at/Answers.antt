-- The id at this place, with what its table has of it.
use Rattle.std.proofs.Common.{Some, None}
use Rattle.ecs_archetypes.proofs.RowReads.{cell_at, id_at}
use Rattle.ecs_archetypes.proofs.entity_facts.EntityFacts.at.Goals as goal

pub returns-in-Some-clause-here : goal.returns-in-Some-clause-here
returns-in-Some-clause-here g c =
    let at = id_at c.self.inside.table.now c.self.inside.row c.ids.result.now c.ids.ensures.value c.args.self.now c.self.view_is c.args.place c.index-ids-place.result c.requires c.index-ids-place.is in
    rw (← c.self.view_is) (cell_at c.self.inside.table.now c.self.inside.row c.args.place c.index-ids-place.result (Some c.in-Some.bytes.now) at c.in-Some.ensures.value).0

pub returns-in-Some-clause-value : goal.returns-in-Some-clause-value
returns-in-Some-clause-value g c =
    let at = id_at c.self.inside.table.now c.self.inside.row c.ids.result.now c.ids.ensures.value c.args.self.now c.self.view_is c.args.place c.index-ids-place.result c.requires c.index-ids-place.is in
    rw (← c.self.view_is) (cell_at c.self.inside.table.now c.self.inside.row c.args.place c.index-ids-place.result (Some c.in-Some.bytes.now) at c.in-Some.ensures.value).1

pub returns-in-None-clause-here : goal.returns-in-None-clause-here
returns-in-None-clause-here g c =
    let at = id_at c.self.inside.table.now c.self.inside.row c.ids.result.now c.ids.ensures.value c.args.self.now c.self.view_is c.args.place c.index-ids-place.result c.requires c.index-ids-place.is in
    rw (← c.self.view_is) (cell_at c.self.inside.table.now c.self.inside.row c.args.place c.index-ids-place.result None at c.in-None.ensures.value).0

pub returns-in-None-clause-value : goal.returns-in-None-clause-value
returns-in-None-clause-value g c =
    let at = id_at c.self.inside.table.now c.self.inside.row c.ids.result.now c.ids.ensures.value c.args.self.now c.self.view_is c.args.place c.index-ids-place.result c.requires c.index-ids-place.is in
    rw (← c.self.view_is) (cell_at c.self.inside.table.now c.self.inside.row c.args.place c.index-ids-place.result None at c.in-None.ensures.value).1
