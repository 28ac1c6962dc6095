-- The greatest may have gone.
use Rattle.std.proofs.Common.{◌∙◌, arith, sym}
use Rattle.entity_index.proofs.Tops.{gone_below, gone_left, was_below}
use Rattle.entity_index.proofs.sized.EntityIndex.delete.Goals as goal

pub overflow_add-entity : goal.overflow_add-entity
overflow_add-entity g c =
    let low = was_below c.self.inside.inner c.self.inside.size c.self.invariant c.args.entity (sym c.delete-is_deleted.ensures.answer ∙ c.if-is_deleted.true) in
    omega (arith, low, c.self.ranges)

pub reach_below-self-inside-requires-clause-bound : goal.reach_below-self-inside-requires-clause-bound
reach_below-self-inside-requires-clause-bound g c = gone_below c.self.inside.inner c.self.inside.size c.self.invariant c.delete-is_deleted.new.self c.args.entity.index c.if-is_deleted.ensures.deleted c.if-self-entity.true

pub invariant_of-self-else-self-entity : goal.invariant_of-self-else-self-entity
invariant_of-self-else-self-entity g c = record {
  well_formed = c.delete-is_deleted.ensures.well_formed;
  reach = gone_left c.self.inside.inner c.self.inside.size c.self.invariant c.delete-is_deleted.new.self c.args.entity.index c.if-is_deleted.ensures.deleted c.if-self-entity.false c.delete-is_deleted.ensures.well_formed;
}
