use Rattle.std.proofs.Common.{[], ◌∷◌, ap, ◌∙◌, arith}
use Rattle.ecs_archetypes.specs.Staying.{none_goes, stay_then}
use Rattle.table_store.specs.Going.{goes_on_then}
use Rattle.ecs_world.specs.Changes.{with_copies}
use Rattle.ecs_world.proofs.BaseCopies.{copy_alive, copy_held, copy_next, copy_of_base, copy_sound}
use Rattle.ecs_world.proofs.World.write_copies.Goals as goal

pub write_copy-requires-clause-alive : goal.write_copy-requires-clause-alive
write_copy-requires-clause-alive g c =
    copy_alive c.args.self.now.state c.args.entity c.args.base c.args.copies.now c.requires c.loop-copy.copy-index c.copy-item.result (omega arith) c.copy-item.is c.loop-copy.self.state c.loop-copy.invariant.state

pub write_copy-requires-clause-held : goal.write_copy-requires-clause-held
write_copy-requires-clause-held g c =
    rw c.id.ensures
    (copy_held c.args.self.now.state c.args.entity c.args.base c.args.copies.now c.requires c.loop-copy.copy-index c.copy-item.result (omega arith) c.copy-item.is c.loop-copy.self.state c.loop-copy.invariant.state)

pub write_copy-requires-clause-of_base : goal.write_copy-requires-clause-of_base
write_copy-requires-clause-of_base g c =
    rw c.id.ensures
    (copy_of_base c.args.self.now.state c.args.entity c.args.base c.args.copies.now c.requires c.loop-copy.copy-index c.copy-item.result (omega arith) c.copy-item.is c.loop-copy.self.state c.loop-copy.invariant.state)

pub write_copy-requires-clause-sound : goal.write_copy-requires-clause-sound
write_copy-requires-clause-sound g c =
    rw c.id.ensures
    (copy_sound c.args.self.now.state c.args.entity c.args.base c.args.copies.now c.requires c.loop-copy.copy-index c.copy-item.result (omega arith) c.copy-item.is c.loop-copy.self.state c.loop-copy.invariant.state)

pub loop-copy-preserved : goal.loop-copy-preserved
loop-copy-preserved g c = record {
  state =
      c.write_copy.ensures.state
      ∙ ap (λ i. with_copies c.loop-copy.self.state c.args.base ((c.args.entity.index, i) ∷ [])) c.id.ensures
      ∙ copy_next c.args.self.now.state c.args.entity c.args.base c.args.copies.now c.requires c.loop-copy.copy-index c.copy-item.result (omega arith) c.copy-item.is c.loop-copy.self.state c.loop-copy.invariant.state;
  tables = goes_on_then _ _ _ c.loop-copy.invariant.tables c.write_copy.ensures.goes_on;
  stay = stay_then none_goes _ _ _ c.loop-copy.invariant.stay c.write_copy.ensures.stay;
}
