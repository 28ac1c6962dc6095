use Rattle.std.specs.Prelude.{◌-◌}
use Rattle.std.proofs.Common.{ap, arith, sym, ◌∙◌}
use Rattle.std.proofs.lemmas.List.{length-set}
use Rattle.ecs_observe.specs.Parts.{with_all_kept}
use Rattle.ecs_observe.specs.Stored.{entries_of}
use Rattle.ecs_observe.proofs.EventEffects.{placed_more}
use Rattle.ecs_observe.proofs.PlacedMoves.{split_last}
use Rattle.ecs_observe.proofs.telling.put_rows.Goals as goal

pub placed-preserved : goal.placed-preserved
placed-preserved g c = record {
  held =
      let es = entries_of c.placed.stored in
      let x = c.index_mut.result.now in
      let left = c.pop.new.self.items in
      ap (with_all_kept left) c.keep_placed.ensures.held
      ∙ (sym (placed_more left x.0 x.1 es)
      ∙ (ap (λ ps. with_all_kept ps es) (split_last c.placed.rows.items left (c.len-last.result - 1) x c.keep_placed.new.placed (omega arith) c.index_mut.ensures.value _ c.pop.ensures.rest (omega (arith, length-set c.placed.rows.items (c.len-last.result - 1) c.keep_placed.new.placed))) ∙ c.placed.invariant.held));
  lists = λ s was. c.keep_placed.ensures.lists s (c.placed.invariant.lists s was);
  stored = c.keep_placed.ensures.stored;
}

pub placed-preserved-in-placed : goal.placed-preserved-in-placed
placed-preserved-in-placed g c = record {
  held =
      let es = entries_of c.placed.stored in
      let x = c.index_mut.result.now in
      let left = c.pop.new.self.items in
      ap (with_all_kept left) c.keep_placed.ensures.held
      ∙ (sym (placed_more left x.0 x.1 es)
      ∙ (ap (λ ps. with_all_kept ps es) (split_last c.placed.rows.items left (c.len-last.result - 1) x c.keep_placed.new.placed (omega arith) c.index_mut.ensures.value _ c.pop.ensures.rest (omega (arith, length-set c.placed.rows.items (c.len-last.result - 1) c.keep_placed.new.placed))) ∙ c.placed.invariant.held));
  lists = λ s was. c.keep_placed.ensures.lists s (c.placed.invariant.lists s was);
  stored = c.keep_placed.ensures.stored;
}

pub placed-preserved-in-placed-2 : goal.placed-preserved-in-placed-2
placed-preserved-in-placed-2 g c = record {
  held =
      let es = entries_of c.placed.stored in
      let x = c.index_mut.result.now in
      let left = c.pop.new.self.items in
      ap (with_all_kept left) c.keep_placed.ensures.held
      ∙ (sym (placed_more left x.0 x.1 es)
      ∙ (ap (λ ps. with_all_kept ps es) (split_last c.placed.rows.items left (c.len-last.result - 1) x c.keep_placed.new.placed (omega arith) c.index_mut.ensures.value _ c.pop.ensures.rest (omega (arith, length-set c.placed.rows.items (c.len-last.result - 1) c.keep_placed.new.placed))) ∙ c.placed.invariant.held));
  lists = λ s was. c.keep_placed.ensures.lists s (c.placed.invariant.lists s was);
  stored = c.keep_placed.ensures.stored;
}
