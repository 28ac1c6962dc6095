-- The row moves, the last row fills its gap, and the index is given both places.
use Rattle.std.proofs.Common.{arith}
use Rattle.std.proofs.Common.{◌≡◌, ◌∙◌, ◌<◌, None, ap, option_map, rules, subst, sym, true}
use Rattle.entity_index.specs.Entities.{is_alive}
use Rattle.table_store.specs.Rows.{filler}
use Rattle.ecs_archetypes.proofs.RowChanges.{alike_carried, filler_alive, places_alone, places_both, placed_carried, sound_carried}
use Rattle.ecs_archetypes.proofs.TableMoves.{moved_room}
use Rattle.ecs_archetypes.proofs.KnownIds.{room_stands}
use Rattle.ecs_archetypes.proofs.Soundness.{own_row, placed_alive, row_within, stands_there}
use Rattle.ecs_archetypes.specs.Archetypes.{IsSound}
use Rattle.table_store.specs.Store.{room_at}
use Rattle.ecs_archetypes.proofs.EnteredTables.{entered_alike}
use Rattle.ecs_archetypes.proofs.rows.carry.Goals as goal

pub move_row-row-requires-clause-there : goal.move_row-row-requires-clause-there
move_row-row-requires-clause-there g c =
    let sound = subst (IsSound c.args.entities.now) (sym c.tables.view_is) c.requires.sound in
    let r = own_row c.args.entities.now c.tables.inside.store sound c.args.entity c.args.place c.requires.there in
    row_within c.tables.inside.store c.args.place (c.args.entity, r.0) r.1

pub set_place-requires-2 : goal.set_place-requires-2
set_place-requires-2 g c =
    let sound = subst (IsSound c.args.entities.now) (sym c.tables.view_is) c.requires.sound in
    ap (λ u. is_alive u c.in-Some.other) c.set_place.ensures.placed
    ∙ filler_alive c.args.entities.now c.tables.inside.store sound c.args.place c.in-Some.other (sym c.move_row-row.ensures.filled ∙ c.in-Some.is)

pub returns-clause-sound : goal.returns-clause-sound
returns-clause-sound g c =
    let sound = subst (IsSound c.args.entities.now) (sym c.tables.view_is) c.requires.sound in
    let room = subst (λ s. 0 < room_at s c.args.to) (sym c.tables.view_is) c.requires.room in
    let f = room_stands c.tables.inside.store c.args.to room in
    let alive : is_alive c.args.entities.now c.args.entity ≡ true = placed_alive c.args.entities.now c.args.entity c.args.place c.requires.there in
    sound_carried c.args.entities.now c.set_place-2.new.self c.tables.inside.store c.move_row-row.new.self sound c.args.entity c.args.place (record { table = c.args.to; row = c.move_row-row.result.0 }) f.0 c.requires.there c.move_row-row.ensures.vacant
    (places_both c.args.entities.now c.args.entity c.args.place (record { table = c.args.to; row = c.move_row-row.result.0 }) alive c.set_place.new.self c.set_place-2.new.self c.in-Some.other c.set_place.ensures.placed (ap (λ u. is_alive u c.in-Some.other) c.set_place.ensures.placed ∙ filler_alive c.args.entities.now c.tables.inside.store sound c.args.place c.in-Some.other (sym c.move_row-row.ensures.filled ∙ c.in-Some.is)) c.set_place-2.ensures.placed (option_map (λ r. r.0) (filler c.tables.inside.store c.args.place)) (sym c.move_row-row.ensures.filled ∙ c.in-Some.is))
    (ap (λ u. u.live) c.set_place-2.ensures.placed ∙ ap (λ u. u.live) c.set_place.ensures.placed) (ap (λ u. u.deletions) c.set_place-2.ensures.placed ∙ ap (λ u. u.deletions) c.set_place.ensures.placed) (ap (λ u. u.last) c.set_place-2.ensures.placed ∙ ap (λ u. u.last) c.set_place.ensures.placed) c.set_place-2.ensures.well_formed c.move_row-row.ensures.whole
    (λ v there. c.move_row-row.ensures.rows v f.0 there f.1)

pub returns-clause-held : goal.returns-clause-held
returns-clause-held g c =
    let sound = subst (IsSound c.args.entities.now) (sym c.tables.view_is) c.requires.sound in
    let alive : is_alive c.args.entities.now c.args.entity ≡ true = placed_alive c.args.entities.now c.args.entity c.args.place c.requires.there in
    rw (← c.tables.view_is) (λ f at.
    alike_carried c.args.entities.now c.set_place-2.new.self c.tables.inside.store c.move_row-row.new.self sound c.args.entity c.args.place (record { table = c.args.to; row = c.move_row-row.result.0 }) f c.requires.there c.move_row-row.ensures.vacant
    (places_both c.args.entities.now c.args.entity c.args.place (record { table = c.args.to; row = c.move_row-row.result.0 }) alive c.set_place.new.self c.set_place-2.new.self c.in-Some.other c.set_place.ensures.placed (ap (λ u. is_alive u c.in-Some.other) c.set_place.ensures.placed ∙ filler_alive c.args.entities.now c.tables.inside.store sound c.args.place c.in-Some.other (sym c.move_row-row.ensures.filled ∙ c.in-Some.is)) c.set_place-2.ensures.placed (option_map (λ r. r.0) (filler c.tables.inside.store c.args.place)) (sym c.move_row-row.ensures.filled ∙ c.in-Some.is))
    (ap (λ u. u.live) c.set_place-2.ensures.placed ∙ ap (λ u. u.live) c.set_place.ensures.placed) (ap (λ u. u.deletions) c.set_place-2.ensures.placed ∙ ap (λ u. u.deletions) c.set_place.ensures.placed) (ap (λ u. u.last) c.set_place-2.ensures.placed ∙ ap (λ u. u.last) c.set_place.ensures.placed) c.set_place-2.ensures.well_formed c.move_row-row.ensures.whole
    (λ v there. c.move_row-row.ensures.rows v f there at))

pub returns-in_default-clause-sound : goal.returns-in_default-clause-sound
returns-in_default-clause-sound g c =
    let sound = subst (IsSound c.args.entities.now) (sym c.tables.view_is) c.requires.sound in
    let room = subst (λ s. 0 < room_at s c.args.to) (sym c.tables.view_is) c.requires.room in
    let f = room_stands c.tables.inside.store c.args.to room in
    let alive : is_alive c.args.entities.now c.args.entity ≡ true = placed_alive c.args.entities.now c.args.entity c.args.place c.requires.there in
    let none : c.move_row-row.result.1 ≡ None = search rules in
    sound_carried c.args.entities.now c.set_place.new.self c.tables.inside.store c.move_row-row.new.self sound c.args.entity c.args.place (record { table = c.args.to; row = c.move_row-row.result.0 }) f.0 c.requires.there c.move_row-row.ensures.vacant
    (places_alone c.args.entities.now c.args.entity c.args.place (record { table = c.args.to; row = c.move_row-row.result.0 }) alive c.set_place.new.self c.set_place.ensures.placed (option_map (λ r. r.0) (filler c.tables.inside.store c.args.place)) (sym c.move_row-row.ensures.filled ∙ none))
    (ap (λ u. u.live) c.set_place.ensures.placed) (ap (λ u. u.deletions) c.set_place.ensures.placed) (ap (λ u. u.last) c.set_place.ensures.placed) c.set_place.ensures.well_formed c.move_row-row.ensures.whole
    (λ v there. c.move_row-row.ensures.rows v f.0 there f.1)

pub returns-in_default-clause-held : goal.returns-in_default-clause-held
returns-in_default-clause-held g c =
    let sound = subst (IsSound c.args.entities.now) (sym c.tables.view_is) c.requires.sound in
    let alive : is_alive c.args.entities.now c.args.entity ≡ true = placed_alive c.args.entities.now c.args.entity c.args.place c.requires.there in
    let none : c.move_row-row.result.1 ≡ None = search rules in
    rw (← c.tables.view_is) (λ f at.
    alike_carried c.args.entities.now c.set_place.new.self c.tables.inside.store c.move_row-row.new.self sound c.args.entity c.args.place (record { table = c.args.to; row = c.move_row-row.result.0 }) f c.requires.there c.move_row-row.ensures.vacant
    (places_alone c.args.entities.now c.args.entity c.args.place (record { table = c.args.to; row = c.move_row-row.result.0 }) alive c.set_place.new.self c.set_place.ensures.placed (option_map (λ r. r.0) (filler c.tables.inside.store c.args.place)) (sym c.move_row-row.ensures.filled ∙ none))
    (ap (λ u. u.live) c.set_place.ensures.placed) (ap (λ u. u.deletions) c.set_place.ensures.placed) (ap (λ u. u.last) c.set_place.ensures.placed) c.set_place.ensures.well_formed c.move_row-row.ensures.whole
    (λ v there. c.move_row-row.ensures.rows v f there at))

pub returns-clause-room : goal.returns-clause-room
returns-clause-room g c =
    let sound = subst (IsSound c.args.entities.now) (sym c.tables.view_is) c.requires.sound in
    let t = stands_there c.args.entities.now c.tables.inside.store sound c.args.entity c.args.place c.requires.there in
    rw (← c.tables.view_is) (moved_room c.tables.inside.store c.move_row-row.new.self c.args.place.table c.args.to c.args.place.row t.0 (c.move_row-row.ensures.tables t.0 t.1))

pub returns-in_default-clause-room : goal.returns-in_default-clause-room
returns-in_default-clause-room g c =
    let sound = subst (IsSound c.args.entities.now) (sym c.tables.view_is) c.requires.sound in
    let t = stands_there c.args.entities.now c.tables.inside.store sound c.args.entity c.args.place c.requires.there in
    rw (← c.tables.view_is) (moved_room c.tables.inside.store c.move_row-row.new.self c.args.place.table c.args.to c.args.place.row t.0 (c.move_row-row.ensures.tables t.0 t.1))

pub returns-clause-placed : goal.returns-clause-placed
returns-clause-placed g c =
    let sound = subst (IsSound c.args.entities.now) (sym c.tables.view_is) c.requires.sound in
    let room = subst (λ s. 0 < room_at s c.args.to) (sym c.tables.view_is) c.requires.room in
    let f = room_stands c.tables.inside.store c.args.to room in
    let alive : is_alive c.args.entities.now c.args.entity ≡ true = placed_alive c.args.entities.now c.args.entity c.args.place c.requires.there in
    placed_carried c.args.entities.now c.set_place-2.new.self c.tables.inside.store c.move_row-row.new.self sound c.args.entity c.args.place (record { table = c.args.to; row = c.move_row-row.result.0 }) f.0 c.requires.there c.move_row-row.ensures.vacant
    (places_both c.args.entities.now c.args.entity c.args.place (record { table = c.args.to; row = c.move_row-row.result.0 }) alive c.set_place.new.self c.set_place-2.new.self c.in-Some.other c.set_place.ensures.placed (ap (λ u. is_alive u c.in-Some.other) c.set_place.ensures.placed ∙ filler_alive c.args.entities.now c.tables.inside.store sound c.args.place c.in-Some.other (sym c.move_row-row.ensures.filled ∙ c.in-Some.is)) c.set_place-2.ensures.placed (option_map (λ r. r.0) (filler c.tables.inside.store c.args.place)) (sym c.move_row-row.ensures.filled ∙ c.in-Some.is))
    (ap (λ u. u.live) c.set_place-2.ensures.placed ∙ ap (λ u. u.live) c.set_place.ensures.placed) (ap (λ u. u.deletions) c.set_place-2.ensures.placed ∙ ap (λ u. u.deletions) c.set_place.ensures.placed) (ap (λ u. u.last) c.set_place-2.ensures.placed ∙ ap (λ u. u.last) c.set_place.ensures.placed) c.set_place-2.ensures.well_formed c.move_row-row.ensures.whole
    (λ v there. c.move_row-row.ensures.rows v f.0 there f.1)

pub returns-in_default-clause-placed : goal.returns-in_default-clause-placed
returns-in_default-clause-placed g c =
    let sound = subst (IsSound c.args.entities.now) (sym c.tables.view_is) c.requires.sound in
    let room = subst (λ s. 0 < room_at s c.args.to) (sym c.tables.view_is) c.requires.room in
    let f = room_stands c.tables.inside.store c.args.to room in
    let alive : is_alive c.args.entities.now c.args.entity ≡ true = placed_alive c.args.entities.now c.args.entity c.args.place c.requires.there in
    let none : c.move_row-row.result.1 ≡ None = search rules in
    placed_carried c.args.entities.now c.set_place.new.self c.tables.inside.store c.move_row-row.new.self sound c.args.entity c.args.place (record { table = c.args.to; row = c.move_row-row.result.0 }) f.0 c.requires.there c.move_row-row.ensures.vacant
    (places_alone c.args.entities.now c.args.entity c.args.place (record { table = c.args.to; row = c.move_row-row.result.0 }) alive c.set_place.new.self c.set_place.ensures.placed (option_map (λ r. r.0) (filler c.tables.inside.store c.args.place)) (sym c.move_row-row.ensures.filled ∙ none))
    (ap (λ u. u.live) c.set_place.ensures.placed) (ap (λ u. u.deletions) c.set_place.ensures.placed) (ap (λ u. u.last) c.set_place.ensures.placed) c.set_place.ensures.well_formed c.move_row-row.ensures.whole
    (λ v there. c.move_row-row.ensures.rows v f.0 there f.1)

pub invariant_of-tables : goal.invariant_of-tables
invariant_of-tables g c = entered_alike c.tables.inside.store c.move_row-row.new.self c.tables.inside.index c.move_row-row.ensures.shapes c.tables.invariant

pub invariant_of-tables-2 : goal.invariant_of-tables-2
invariant_of-tables-2 g c = entered_alike c.tables.inside.store c.move_row-row.new.self c.tables.inside.index c.move_row-row.ensures.shapes c.tables.invariant

pub move_row-row-requires-clause-apart : goal.move_row-row-requires-clause-apart
move_row-row-requires-clause-apart g c = grind arith

pub move_row-row-requires-clause-room : goal.move_row-row-requires-clause-room
move_row-row-requires-clause-room g c = grind arith

pub set_place-requires : goal.set_place-requires
set_place-requires g c = grind arith

pub returns-in_default-clause-alike : goal.returns-in_default-clause-alike
returns-in_default-clause-alike g c = grind arith

pub returns-clause-alike : goal.returns-clause-alike
returns-clause-alike g c = grind arith
