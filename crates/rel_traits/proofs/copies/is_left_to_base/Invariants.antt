use Rattle.std.proofs.Common.{◌≡◌, false, take}
use Rattle.ecs_id.specs.Id.{pair}
use Rattle.ecs_model.specs.BuiltIns.{dont_inherit_mode, inherit_mode, on_instantiate}
use Rattle.ecs_model.specs.Links.{is_held}
use Rattle.rel_traits.proofs.copies.is_left_to_base.Given as goal

abbrev pub invariant-loop-id : goal.invariant-loop-id
invariant-loop-id l = (is_held (take l.id-index l.traits) (pair on_instantiate inherit_mode) ≡ false) × (is_held (take l.id-index l.traits) (pair on_instantiate dont_inherit_mode) ≡ false)
