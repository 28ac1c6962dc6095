-- One fact follows an edge, and more of them make a list of ids.
use Rattle.std.proofs.Common.{arith}
use Rattle.std.proofs.lemmas.Grind.{common_steps}
use Rattle.std.proofs.Common.{◌≡◌, ◌∙◌, Some, ap, length, subst, sym}
use Rattle.std.proofs.lemmas.Bool.Decides.{Decides-eqb}
use Rattle.std.proofs.lemmas.List.{nil_from_length}
use Rattle.std.specs.Result.{IfOk}
use Rattle.table_store.specs.Store.{shape_at}
use Rattle.table_store.specs.Rows.{shape_of_cells}
use Rattle.ecs_archetypes.specs.Holdings.{held_at}
use Rattle.ecs_archetypes.specs.FactChanges.{ids_among, is_among}
use Rattle.ecs_archetypes.specs.Housing.{IsHoused, holdings_of}
use Rattle.ecs_archetypes.proofs.FactTables.{facts_rise, ids_agree, ids_kept, ids_rise, ids_small, one_comes, one_leaves}
use Rattle.ecs_archetypes.proofs.Archetypes.table_after.Goals as goal

pub returns-then-came-eq1-clause-shape : goal.returns-then-came-eq1-clause-shape
returns-then-came-eq1-clause-shape g c =
    let none = nil_from_length c.args.went.now ((Decides-eqb (length c.args.went.now) 0).0 (sym c.is_empty.ensures ∙ c.if-is_empty.true)) in
    subst (λ f. IfOk c.wider_beside.result (λ key. shape_at c.wider_beside.new.self.tables key ≡ Some f))
    (one_comes c.args.came.now c.args.went.now (shape_of_cells (held_at (holdings_of c.args.self.now) c.args.entity.index)) c.id.result c.size.result c.index-came-0.result c.index-came-0-then-came-eq1.result none
    c.if-came-eq1.true c.index-came-0.is c.index-came-0-then-came-eq1.is (c.id.ensures ∙ ap (λ z. z.1) c.key.ensures) c.size.ensures)
    (c.wider_beside.ensures.shape (shape_of_cells (held_at (holdings_of c.args.self.now) c.args.entity.index)) c.requires.there)

pub returns-then-went-eq1-clause-shape : goal.returns-then-went-eq1-clause-shape
returns-then-went-eq1-clause-shape g c =
    let none = nil_from_length c.args.came.now ((Decides-eqb (length c.args.came.now) 0).0 (sym c.is_empty-2.ensures ∙ c.if-is_empty-2.true)) in
    subst (λ f. IfOk c.narrower_beside.result (λ key. shape_at c.narrower_beside.new.self.tables key ≡ Some f))
    (one_leaves c.args.came.now c.args.went.now (shape_of_cells (held_at (holdings_of c.args.self.now) c.args.entity.index)) c.id-then-went-eq1.result c.index-went-0.result none
    c.if-went-eq1.true c.index-went-0.is c.id-then-went-eq1.ensures)
    (c.narrower_beside.ensures.shape (shape_of_cells (held_at (holdings_of c.args.self.now) c.args.entity.index)) c.requires.there)

pub merge_ids-requires-clause-held_ascend : goal.merge_ids-requires-clause-held_ascend
merge_ids-requires-clause-held_ascend g c = facts_rise c.args.self.now (subst IsHoused c.self.view_is c.self.invariant) c.args.entity c.unwrap-facts.result c.requires.settled (sym c.facts.ensures ∙ c.unwrap-facts.ensures)

pub prepare-requires-clause-ascend : goal.prepare-requires-clause-ascend
prepare-requires-clause-ascend g c = ids_rise c.args.self.now (subst IsHoused c.self.view_is c.self.invariant) c.args.entity c.unwrap-facts.result c.requires.settled (sym c.facts.ensures ∙ c.unwrap-facts.ensures)
    c.args.from c.requires.there c.args.came.now (is_among (ids_among c.args.went.now)) c.as_slice.result.now (c.as_slice.ensures.value ∙ c.in_ok-merge_ids.ensures)

pub prepare-requires-clause-small : goal.prepare-requires-clause-small
prepare-requires-clause-small g c = ids_small c.args.self.now (subst IsHoused c.self.view_is c.self.invariant) c.args.entity c.unwrap-facts.result c.requires.settled (sym c.facts.ensures ∙ c.unwrap-facts.ensures)
    c.args.from c.requires.there c.args.came.now (is_among (ids_among c.args.went.now)) c.as_slice.result.now (c.as_slice.ensures.value ∙ c.in_ok-merge_ids.ensures) c.requires.small

pub prepare-requires-clause-agree : goal.prepare-requires-clause-agree
prepare-requires-clause-agree g c = ids_agree c.args.self.now (subst IsHoused c.self.view_is c.self.invariant) c.args.entity c.unwrap-facts.result c.requires.settled (sym c.facts.ensures ∙ c.unwrap-facts.ensures)
    c.args.from c.requires.there c.args.came.now (is_among (ids_among c.args.went.now)) c.as_slice.result.now (c.as_slice.ensures.value ∙ c.in_ok-merge_ids.ensures) c.requires.agree

pub returns-clause-sizes : goal.returns-clause-sizes
returns-clause-sizes g c = ids_kept c.args.self.now (subst IsHoused c.self.view_is c.self.invariant) c.args.entity c.unwrap-facts.result c.requires.settled (sym c.facts.ensures ∙ c.unwrap-facts.ensures)
    c.args.from c.requires.there c.args.came.now (is_among (ids_among c.args.went.now)) c.as_slice.result.now (c.as_slice.ensures.value ∙ c.in_ok-merge_ids.ensures)
    c.prepare.new.self.tables c.prepare.ensures.kept.sizes

pub bounds-came-0 : goal.bounds-came-0
bounds-came-0 g c = grind arith

pub bounds-came-0-then-came-eq1 : goal.bounds-came-0-then-came-eq1
bounds-came-0-then-came-eq1 g c = grind arith

pub wider_beside-requires-clause-stands : goal.wider_beside-requires-clause-stands
wider_beside-requires-clause-stands g c = grind arith

pub wider_beside-requires-clause-small : goal.wider_beside-requires-clause-small
wider_beside-requires-clause-small g c = grind (arith, common_steps)

pub wider_beside-requires-clause-agree : goal.wider_beside-requires-clause-agree
wider_beside-requires-clause-agree g c = grind (arith, common_steps)

pub returns-then-came-eq1-clause-room : goal.returns-then-came-eq1-clause-room
returns-then-came-eq1-clause-room g c = grind arith

pub returns-then-came-eq1-clause-moves : goal.returns-then-came-eq1-clause-moves
returns-then-came-eq1-clause-moves g c = grind arith

pub returns-then-came-eq1-clause-entities : goal.returns-then-came-eq1-clause-entities
returns-then-came-eq1-clause-entities g c = grind arith

pub returns-then-came-eq1-clause-grown : goal.returns-then-came-eq1-clause-grown
returns-then-came-eq1-clause-grown g c = grind arith

pub returns-then-came-eq1-clause-held : goal.returns-then-came-eq1-clause-held
returns-then-came-eq1-clause-held g c = grind arith

pub returns-then-came-eq1-clause-sizes : goal.returns-then-came-eq1-clause-sizes
returns-then-came-eq1-clause-sizes g c = grind (arith, common_steps)

pub returns-then-came-eq1-clause-whole : goal.returns-then-came-eq1-clause-whole
returns-then-came-eq1-clause-whole g c = grind arith

pub bounds-went-0 : goal.bounds-went-0
bounds-went-0 g c = grind arith

pub narrower_beside-requires : goal.narrower_beside-requires
narrower_beside-requires g c = grind arith

pub returns-then-went-eq1-clause-room : goal.returns-then-went-eq1-clause-room
returns-then-went-eq1-clause-room g c = grind arith

pub returns-then-went-eq1-clause-moves : goal.returns-then-went-eq1-clause-moves
returns-then-went-eq1-clause-moves g c = grind arith

pub returns-then-went-eq1-clause-entities : goal.returns-then-went-eq1-clause-entities
returns-then-went-eq1-clause-entities g c = grind arith

pub returns-then-went-eq1-clause-grown : goal.returns-then-went-eq1-clause-grown
returns-then-went-eq1-clause-grown g c = grind arith

pub returns-then-went-eq1-clause-held : goal.returns-then-went-eq1-clause-held
returns-then-went-eq1-clause-held g c = grind arith

pub returns-then-went-eq1-clause-sizes : goal.returns-then-went-eq1-clause-sizes
returns-then-went-eq1-clause-sizes g c = grind arith

pub returns-then-went-eq1-clause-whole : goal.returns-then-went-eq1-clause-whole
returns-then-went-eq1-clause-whole g c = grind arith

pub unwrap-facts-requires : goal.unwrap-facts-requires
unwrap-facts-requires g c = grind arith

pub merge_ids-requires-clause-came_ascend : goal.merge_ids-requires-clause-came_ascend
merge_ids-requires-clause-came_ascend g c = grind arith

pub merge_ids-requires-clause-went_ascend : goal.merge_ids-requires-clause-went_ascend
merge_ids-requires-clause-went_ascend g c = grind arith

pub merge_ids-requires-clause-unheld : goal.merge_ids-requires-clause-unheld
merge_ids-requires-clause-unheld g c = grind arith

pub returns-in_err-merge_ids-clause-shape : goal.returns-in_err-merge_ids-clause-shape
returns-in_err-merge_ids-clause-shape g c = grind arith

pub returns-in_err-merge_ids-clause-room : goal.returns-in_err-merge_ids-clause-room
returns-in_err-merge_ids-clause-room g c = grind arith

pub returns-in_err-merge_ids-clause-moves : goal.returns-in_err-merge_ids-clause-moves
returns-in_err-merge_ids-clause-moves g c = grind arith

pub returns-in_err-merge_ids-clause-entities : goal.returns-in_err-merge_ids-clause-entities
returns-in_err-merge_ids-clause-entities g c = grind arith

pub returns-in_err-merge_ids-clause-grown : goal.returns-in_err-merge_ids-clause-grown
returns-in_err-merge_ids-clause-grown g c = grind arith

pub returns-in_err-merge_ids-clause-held : goal.returns-in_err-merge_ids-clause-held
returns-in_err-merge_ids-clause-held g c = grind arith

pub returns-in_err-merge_ids-clause-sizes : goal.returns-in_err-merge_ids-clause-sizes
returns-in_err-merge_ids-clause-sizes g c = grind arith

pub returns-in_err-merge_ids-clause-whole : goal.returns-in_err-merge_ids-clause-whole
returns-in_err-merge_ids-clause-whole g c = grind arith

pub returns-clause-shape : goal.returns-clause-shape
returns-clause-shape g c = grind arith

pub returns-clause-room : goal.returns-clause-room
returns-clause-room g c = grind arith

pub returns-clause-moves : goal.returns-clause-moves
returns-clause-moves g c = grind arith

pub returns-clause-entities : goal.returns-clause-entities
returns-clause-entities g c = grind arith

pub returns-clause-grown : goal.returns-clause-grown
returns-clause-grown g c = grind arith

pub returns-clause-held : goal.returns-clause-held
returns-clause-held g c = grind arith

pub returns-clause-whole : goal.returns-clause-whole
returns-clause-whole g c = grind arith
