-- A table whose serial is newer was just made.
use Rattle.std.proofs.Common.{OnOk, Result, Err, Ok, ◌∙◌, ap, arith, subst, sym}
use Rattle.std.specs.Option.{IsSome}
use Rattle.table_store.specs.Store.{shape_at, table_at}
use Rattle.ecs_archetypes.proofs.EnteredTables.{kept_known, kept_reserved, room_wanted}
use Rattle.ecs_archetypes.proofs.tables.enter_made.Goals as goal

in_any_case : {T E X : Type 0} (r : Result T E) → X → OnOk r X
in_any_case (Ok v) x = x
in_any_case (Err e) x = tt

pub returns-then-key-last-clause-shapes : goal.returns-then-key-last-clause-shapes
returns-then-key-last-clause-shapes g c = in_any_case c.reserve-known.result c.reserve-known.ensures.shapes

pub returns-then-key-last-clause-room : goal.returns-then-key-last-clause-room
returns-then-key-last-clause-room g c = room_wanted c.args.store.now c.reserve-known.new.self c.args.key c.rows-rows.result _ c.reserve-known.result c.reserve-known.ensures.tables c.requires.stands c.rows-rows.ensures

pub returns-then-key-last-clause-kept : goal.returns-then-key-last-clause-kept
returns-then-key-last-clause-kept g c = λ s f added is made are sizes.
    kept_reserved added s c.args.store.now c.reserve-known.new.self c.args.index.now c.args.key c.rows-rows.result c.reserve-known.result c.reserve-known.ensures.tables c.reserve-known.ensures.err
    c.reserve-known.ensures.shapes c.reserve-known.ensures.last c.reserve-known.ensures.rows c.reserve-known.ensures.whole
    (kept_known added s c.args.store.now c.args.key f made c.args.index.now are sizes (let e = is in omega (arith, e)) c.get.ensures.whole)

pub returns-in_err-enter_new-clause-kept : goal.returns-in_err-enter_new-clause-kept
returns-in_err-enter_new-clause-kept g c = λ s f added is made are sizes. c.enter_new.ensures.kept s f added (let e = is in omega (arith, e)) made are sizes

pub reserve-requires : goal.reserve-requires
reserve-requires g c = record { stands = subst (λ z. IsSome (table_at z c.args.key)) (sym c.in_ok-enter_new.ensures.store) c.requires.stands }

pub returns-clause-shapes : goal.returns-clause-shapes
returns-clause-shapes g c = in_any_case c.reserve.result (λ q. c.reserve.ensures.shapes q ∙ ap (λ z. shape_at z q) c.in_ok-enter_new.ensures.store)

pub returns-clause-room : goal.returns-clause-room
returns-clause-room g c = room_wanted c.enter_new.new.store c.reserve.new.self c.args.key c.rows-rows.result _ c.reserve.result c.reserve.ensures.tables
    (subst (λ z. IsSome (table_at z c.args.key)) (sym c.in_ok-enter_new.ensures.store) c.requires.stands) c.rows-rows.ensures

pub returns-clause-kept : goal.returns-clause-kept
returns-clause-kept g c = λ s f added is made are sizes.
    kept_reserved added s c.enter_new.new.store c.reserve.new.self c.enter_new.new.index c.args.key c.rows-rows.result c.reserve.result c.reserve.ensures.tables c.reserve.ensures.err
    c.reserve.ensures.shapes c.reserve.ensures.last c.reserve.ensures.rows c.reserve.ensures.whole
    (c.enter_new.ensures.kept s f added (let e = is in omega (arith, e)) made are sizes)
