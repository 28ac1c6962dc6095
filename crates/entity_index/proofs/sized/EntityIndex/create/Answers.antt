-- The new entity is the greatest, or the one that was.
use Rattle.std.proofs.Common.{◌∙◌}
use Rattle.entity_index.proofs.Tops.{born_size}
use Rattle.entity_index.proofs.sized.EntityIndex.create.Goals as goal

pub invariant_of-self-2 : goal.invariant_of-self-2
invariant_of-self-2 g c = record {
  well_formed = c.create.ensures.well_formed;
  reach = c.max-self-inside.ensures ∙ born_size c.self.inside.inner c.self.inside.size c.self.invariant c.create.new.self c.in_ok-entity.entity c.in_ok-entity.ensures.born c.create.ensures.well_formed;
}
