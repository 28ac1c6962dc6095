-- The row moves to the table with the one id and without the other.
use Rattle.std.proofs.Common.{arith}
use Rattle.std.proofs.Common.{◌≡◌, ◌∙◌, ◌∷◌, [], ℕ, Some, ap, subst}
use Rattle.ecs_model.specs.World.{Key}
use Rattle.table_store.specs.Rows.{shape_of_cells}
use Rattle.table_store.specs.Store.{shape_at}
use Rattle.ecs_archetypes.specs.Archetypes.{known_in}
use Rattle.ecs_archetypes.specs.FactChanges.{changed_shape, is_among}
use Rattle.ecs_archetypes.specs.Holdings.{KeepsSizes, held_at}
use Rattle.ecs_archetypes.specs.Housing.{HasRoomMade, IsHoused, holdings_of}
use Rattle.ecs_archetypes.proofs.IdReplacements.{alike_replaced, apart_replaced, one_rises, stands, stays_settled}
use Rattle.ecs_archetypes.proofs.StandingTables.{last_grown, last_moved}
use Rattle.ecs_archetypes.proofs.Archetypes.replace.Goals as goal

pub table_after-requires-clause-there : goal.table_after-requires-clause-there
table_after-requires-clause-there g c = stands c.args.self.now (subst IsHoused c.self.view_is c.self.invariant) c.args.entity c.args.place c.requires.there

pub table_after-requires-clause-settled : goal.table_after-requires-clause-settled
table_after-requires-clause-settled g c = stays_settled c.args.self.now (subst IsHoused c.self.view_is c.self.invariant) c.args.entity c.args.place c.requires.there

pub table_after-requires-clause-went_ascend : goal.table_after-requires-clause-went_ascend
table_after-requires-clause-went_ascend g c = one_rises c.new-3.result.1

pub carry_to-requires-clause-apart : goal.carry_to-requires-clause-apart
carry_to-requires-clause-apart g c =
    let b = c.args.self.now in
    let e = c.args.entity in
    let came = c.new-2.ensures ∙ ap (λ k. (k, c.args.size)) c.new.ensures in
    let next : shape_at c.table_after.new.self.tables c.in_ok-to.to ≡ Some (changed_shape ((c.args.id, c.args.size) ∷ []) (is_among (c.args.old ∷ [])) (shape_of_cells (held_at (holdings_of b) e.index))) =
    c.in_ok-to.ensures.shape ∙ (λ k. Some (changed_shape (((came k).0.1, (came k).1) ∷ []) (is_among ((c.new-3.ensures k).1 ∷ [])) (shape_of_cells (held_at (holdings_of b) e.index)))) in
    apart_replaced b (subst IsHoused c.self.view_is c.self.invariant) e c.args.place c.requires.there c.table_after.new.self c.table_after.ensures.grown c.table_after.ensures.held
    c.args.old c.args.id c.args.size c.requires.not_held c.in_ok-to.to next

pub returns-clause-replaced : goal.returns-clause-replaced
returns-clause-replaced g c =
    let b = c.args.self.now in
    let e = c.args.entity in
    let came = c.new-2.ensures ∙ ap (λ k. (k, c.args.size)) c.new.ensures in
    let next : shape_at c.table_after.new.self.tables c.in_ok-to.to ≡ Some (changed_shape ((c.args.id, c.args.size) ∷ []) (is_among (c.args.old ∷ [])) (shape_of_cells (held_at (holdings_of b) e.index))) =
    c.in_ok-to.ensures.shape ∙ (λ k. Some (changed_shape (((came k).0.1, (came k).1) ∷ []) (is_among ((c.new-3.ensures k).1 ∷ [])) (shape_of_cells (held_at (holdings_of b) e.index)))) in
    alike_replaced b (subst IsHoused c.self.view_is c.self.invariant) e c.args.place c.requires.there c.table_after.new.self c.table_after.ensures.grown c.table_after.ensures.held
    c.args.old c.args.id c.args.size c.requires.not_held c.in_ok-to.to next (holdings_of c.carry_to.new.self) c.carry_to.ensures.held

pub returns-in_err-to-clause-kept : goal.returns-in_err-to-clause-kept
returns-in_err-to-clause-kept g c =
    let came = c.new-2.ensures ∙ ap (λ k. (k, c.args.size)) c.new.ensures in
    let sizes = subst (λ (x : Key × ℕ). KeepsSizes (known_in c.args.self.now.tables) ((x.0.1, x.1) ∷ []) (known_in c.table_after.new.self.tables)) came c.table_after.ensures.sizes in
    let made : HasRoomMade ((c.args.id, c.args.size) ∷ []) c.args.self.now c.table_after.new.self = record { grown = c.table_after.ensures.grown; held = c.table_after.ensures.held; sizes = sizes; whole = c.table_after.ensures.whole } in
    last_grown _ _ _ made

pub returns-clause-kept : goal.returns-clause-kept
returns-clause-kept g c =
    let came = c.new-2.ensures ∙ ap (λ k. (k, c.args.size)) c.new.ensures in
    let sizes = subst (λ (x : Key × ℕ). KeepsSizes (known_in c.args.self.now.tables) ((x.0.1, x.1) ∷ []) (known_in c.table_after.new.self.tables)) came c.table_after.ensures.sizes in
    let made : HasRoomMade ((c.args.id, c.args.size) ∷ []) c.args.self.now c.table_after.new.self = record { grown = c.table_after.ensures.grown; held = c.table_after.ensures.held; sizes = sizes; whole = c.table_after.ensures.whole } in
    last_moved _ _ _ _ made c.carry_to.ensures.alike c.carry_to.ensures.whole

pub shared_whole_as_slice-table_after : goal.shared_whole_as_slice-table_after
shared_whole_as_slice-table_after g c = grind arith

pub shared_whole_as_slice-table_after-2 : goal.shared_whole_as_slice-table_after-2
shared_whole_as_slice-table_after-2 g c = grind arith

pub table_after-requires-clause-came_ascend : goal.table_after-requires-clause-came_ascend
table_after-requires-clause-came_ascend g c = grind arith

pub table_after-requires-clause-unheld : goal.table_after-requires-clause-unheld
table_after-requires-clause-unheld g c = grind arith

pub table_after-requires-clause-small : goal.table_after-requires-clause-small
table_after-requires-clause-small g c = grind arith

pub table_after-requires-clause-agree : goal.table_after-requires-clause-agree
table_after-requires-clause-agree g c = grind arith

pub returns-in_err-to-clause-placed : goal.returns-in_err-to-clause-placed
returns-in_err-to-clause-placed g c = grind arith

pub returns-in_err-to-clause-replaced : goal.returns-in_err-to-clause-replaced
returns-in_err-to-clause-replaced g c = grind arith

pub returns-in_err-to-clause-refused : goal.returns-in_err-to-clause-refused
returns-in_err-to-clause-refused g c = grind arith

pub carry_to-requires-clause-there : goal.carry_to-requires-clause-there
carry_to-requires-clause-there g c = grind arith

pub carry_to-requires-clause-room : goal.carry_to-requires-clause-room
carry_to-requires-clause-room g c = grind arith

pub returns-clause-placed : goal.returns-clause-placed
returns-clause-placed g c = grind arith
