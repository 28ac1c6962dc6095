use Rattle.std.proofs.lemmas.Grind.{common_steps}
use Rattle.std.proofs.Common.{refl, sym, ap, subst, ◌∙◌, length, option_map, IfSome, arith, ◌≡◌}
use Rattle.std.specs.Option.{option_copied}
use Rattle.ecs_model.specs.World.{type_of_id}
use Rattle.ecs_model.specs.steps.WellFormed.{IsWellFormed}
use Rattle.ecs_world.specs.State.{byte_count, value_in}
use Rattle.ecs_world.proofs.BaseCopies.{copy_written, nothing_written}
use Rattle.ecs_world.proofs.World.write_copy.Goals as goal

pub write-requires-clause-sound : goal.write-requires-clause-sound
write-requires-clause-sound g c =
    let w = c.args.self.now.state in
    let type = type_of_id w c.args.id in
    let value = ap (λ o. option_map (value_in type) (option_copied o)) (sym c.unwrap-bytes.ensures) ∙ c.bytes.ensures.value in
    subst IsWellFormed (sym (copy_written w c.args.entity.index c.args.base c.args.id (length c.unwrap-bytes.result.now) c.copy_from_slice.new.self _ c.unwrap-bytes.result.now c.copy_from_slice.ensures.after refl value)) c.requires.sound

pub returns-then-size-gt0-clause-state : goal.returns-then-size-gt0-clause-state
returns-then-size-gt0-clause-state g c =
    let w = c.args.self.now.state in
    let type = type_of_id w c.args.id in
    let value = ap (λ o. option_map (value_in type) (option_copied o)) (sym c.unwrap-bytes.ensures) ∙ c.bytes.ensures.value in
    c.write.ensures.state ∙ copy_written w c.args.entity.index c.args.base c.args.id (length c.unwrap-bytes.result.now) c.copy_from_slice.new.self _ c.unwrap-bytes.result.now c.copy_from_slice.ensures.after refl value

pub returns-else-size-gt0-clause-state : goal.returns-else-size-gt0-clause-state
returns-else-size-gt0-clause-state g c =
    let type = type_of_id c.args.self.now.state c.args.id in
    let typed = subst (λ o. IfSome o (λ bytes. length bytes.now ≡ byte_count type)) c.unwrap-bytes.ensures c.bytes.ensures.size in
    nothing_written c.args.self.now.state c.keeps.ensures c.args.id (sym typed ∙ omega arith) c.args.entity.index c.args.base c.requires.held c.requires.of_base

pub unwrap-bytes-requires : goal.unwrap-bytes-requires
unwrap-bytes-requires g c = grind arith

pub slice_bounds-buffer-end : goal.slice_bounds-buffer-end
slice_bounds-buffer-end g c = grind arith

pub slice_bounds-copy_from_slice-end : goal.slice_bounds-copy_from_slice-end
slice_bounds-copy_from_slice-end g c = grind (arith, common_steps)

pub copy_from_slice-requires : goal.copy_from_slice-requires
copy_from_slice-requires g c = grind (arith, common_steps)

pub slice_bounds-buffer-end-then-size-gt0 : goal.slice_bounds-buffer-end-then-size-gt0
slice_bounds-buffer-end-then-size-gt0 g c = grind (arith, common_steps)

pub slice_bounds-write-end : goal.slice_bounds-write-end
slice_bounds-write-end g c = grind (arith, common_steps)

pub write-requires-clause-alive : goal.write-requires-clause-alive
write-requires-clause-alive g c = grind arith

pub write-requires-clause-held : goal.write-requires-clause-held
write-requires-clause-held g c = grind arith

pub write-requires-clause-data : goal.write-requires-clause-data
write-requires-clause-data g c = grind (arith, common_steps)

pub write-requires-clause-size : goal.write-requires-clause-size
write-requires-clause-size g c = grind (arith, common_steps)

pub returns-then-size-gt0-clause-goes_on : goal.returns-then-size-gt0-clause-goes_on
returns-then-size-gt0-clause-goes_on g c = grind arith

pub returns-then-size-gt0-clause-stay : goal.returns-then-size-gt0-clause-stay
returns-then-size-gt0-clause-stay g c = grind arith

pub returns-else-size-gt0-clause-goes_on : goal.returns-else-size-gt0-clause-goes_on
returns-else-size-gt0-clause-goes_on g c = grind arith

pub returns-else-size-gt0-clause-stay : goal.returns-else-size-gt0-clause-stay
returns-else-size-gt0-clause-stay g c = grind arith
