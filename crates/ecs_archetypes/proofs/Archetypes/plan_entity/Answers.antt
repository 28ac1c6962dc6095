-- The entity stands in a table, and the next one has room for its move and for all that were planned before.
use Rattle.std.proofs.Common.{arith}
use Rattle.std.proofs.Common.{◌≡◌, ◌≤◌, ◌+◌, ◌++◌, ◌∷◌, [], ◌∙◌, Some, ap, subst, sym}
use Rattle.std.specs.Option.{is_some}
use Rattle.table_store.specs.Store.{room_at, shape_at}
use Rattle.table_store.specs.Rows.{shape_of_cells}
use Rattle.ecs_archetypes.specs.declared.plans.EntityMove.{EntityMove}
use Rattle.ecs_archetypes.specs.Holdings.{held_at}
use Rattle.ecs_archetypes.specs.Housing.{holdings_of}
use Rattle.ecs_archetypes.specs.Moves.{AreReady, moves_to}
use Rattle.ecs_archetypes.proofs.FactTables.{stands_as, stands_at}
use Rattle.ecs_archetypes.proofs.MovePlans.{ready_more}
use Rattle.ecs_archetypes.proofs.Archetypes.plan_entity.Goals as goal

pub unwrap-entity-requires : goal.unwrap-entity-requires
unwrap-entity-requires g c =
    ap is_some (c.at.ensures ∙ (stands_at c.self.inside.entities c.self.inside.tables c.self.invariant (holdings_of c.args.self.now) (ap holdings_of c.self.view_is) c.args.index c.requires.settled).1)

pub unwrap-requires : goal.unwrap-requires
unwrap-requires g c =
    ap is_some (c.place.ensures ∙ (stands_as c.self.inside.entities c.self.inside.tables c.self.invariant (holdings_of c.args.self.now) (ap holdings_of c.self.view_is) c.args.index c.requires.settled
    c.unwrap-entity.result (sym c.at.ensures ∙ c.unwrap-entity.ensures)).at)

pub table_after-requires-clause-there : goal.table_after-requires-clause-there
table_after-requires-clause-there g c =
    let stands = stands_as c.self.inside.entities c.self.inside.tables c.self.invariant (holdings_of c.args.self.now) (ap holdings_of c.self.view_is) c.args.index c.requires.settled
    c.unwrap-entity.result (sym c.at.ensures ∙ c.unwrap-entity.ensures) in
    let same : Some c.unwrap.result ≡ Some stands.place = sym c.unwrap.ensures ∙ c.place.ensures ∙ stands.at in
    let here : c.unwrap.result ≡ stands.place = cc in
    ap (λ z. shape_at z.tables c.unwrap.result.table) (sym c.self.view_is) ∙ ap (λ p. shape_at c.self.inside.tables p.table) here ∙ stands.shape
    ∙ ap (λ i. Some (shape_of_cells (held_at (holdings_of c.args.self.now) i))) (sym stands.index)

pub returns-clause-ready : goal.returns-clause-ready
returns-clause-ready g c =
    let stands = stands_as c.self.inside.entities c.self.inside.tables c.self.invariant (holdings_of c.args.self.now) (ap holdings_of c.self.view_is) c.args.index c.requires.settled
    c.unwrap-entity.result (sym c.at.ensures ∙ c.unwrap-entity.ensures) in
    let one : EntityMove = record { entity = c.unwrap-entity.result; from = c.unwrap.result.table; to = c.in_ok-to.to } in
    subst (AreReady c.table_after.new.self) (sym (c.in_ok-push.ensures.pushed ∙ ap (λ ms. ms ++ one ∷ []) c.table_after.ensures.moves))
    (ready_more c.args.self.now c.table_after.new.self c.args.plan.now.moves one c.requires.ready stands.settled c.table_after.ensures.held c.table_after.ensures.grown
    (subst (λ ms. moves_to c.in_ok-to.to ms + 1 ≤ room_at c.table_after.new.self.tables c.in_ok-to.to) c.table_after.ensures.moves c.in_ok-to.ensures.room))

pub returns-in_err-to-clause-kept : goal.returns-in_err-to-clause-kept
returns-in_err-to-clause-kept g c = record { grown = c.table_after.ensures.grown; held = c.table_after.ensures.held; sizes = c.table_after.ensures.sizes; whole = c.table_after.ensures.whole }

pub returns-in_err-push-clause-kept : goal.returns-in_err-push-clause-kept
returns-in_err-push-clause-kept g c = record { grown = c.table_after.ensures.grown; held = c.table_after.ensures.held; sizes = c.table_after.ensures.sizes; whole = c.table_after.ensures.whole }

pub returns-clause-kept : goal.returns-clause-kept
returns-clause-kept g c = record { grown = c.table_after.ensures.grown; held = c.table_after.ensures.held; sizes = c.table_after.ensures.sizes; whole = c.table_after.ensures.whole }

pub table_after-requires-clause-settled : goal.table_after-requires-clause-settled
table_after-requires-clause-settled g c = grind arith

pub table_after-requires-clause-came_ascend : goal.table_after-requires-clause-came_ascend
table_after-requires-clause-came_ascend g c = grind arith

pub table_after-requires-clause-went_ascend : goal.table_after-requires-clause-went_ascend
table_after-requires-clause-went_ascend g c = grind arith

pub table_after-requires-clause-unheld : goal.table_after-requires-clause-unheld
table_after-requires-clause-unheld g c = grind arith

pub table_after-requires-clause-small : goal.table_after-requires-clause-small
table_after-requires-clause-small g c = grind arith

pub table_after-requires-clause-agree : goal.table_after-requires-clause-agree
table_after-requires-clause-agree g c = grind arith

pub returns-in_err-to-clause-planned : goal.returns-in_err-to-clause-planned
returns-in_err-to-clause-planned g c = grind arith

pub returns-in_err-to-clause-ready : goal.returns-in_err-to-clause-ready
returns-in_err-to-clause-ready g c = grind arith

pub returns-in_err-push-clause-planned : goal.returns-in_err-push-clause-planned
returns-in_err-push-clause-planned g c = grind arith

pub returns-in_err-push-clause-ready : goal.returns-in_err-push-clause-ready
returns-in_err-push-clause-ready g c = grind arith

pub returns-clause-planned : goal.returns-clause-planned
returns-clause-planned g c = grind arith
