-- The bytes of the fact, with the fields of its id, or none of either.
use Rattle.std.proofs.Common.{◌≡◌, ◌∙◌, ap, sym}
use Rattle.std.specs.Prelude.{Some, option_map}
use Rattle.std.specs.Option.{option_copied}
use Rattle.ecs_model.specs.World.{type_of_id}
use Rattle.ecs_world.specs.State.{byte_count, value_in}
use Rattle.world_rows.specs.Values.{numbers_of}
use Rattle.world_rows.proofs.Values.{missing, typed, untyped}
use Rattle.world_rows.proofs.fields.value_of.Goals as goal

pub returns-in_err-schema-clause-numbers : goal.returns-in_err-schema-clause-numbers
returns-in_err-schema-clause-numbers g c =
    let w = c.args.world.now.state in
    ap (option_map numbers_of) c.from_residual.ensures
    ∙ untyped w c.args.source c.args.id (sym (ap option_copied c.in_err-schema.was) ∙ c.type_of.ensures)

pub returns-in_err-bytes-clause-numbers : goal.returns-in_err-bytes-clause-numbers
returns-in_err-bytes-clause-numbers g c =
    let w = c.args.world.now.state in
    ap (option_map numbers_of) c.from_residual-in_err-bytes.ensures
    ∙ missing w c.args.source c.args.id (sym (ap (λ o. option_map (value_in (type_of_id w c.args.id)) (option_copied o)) c.in_err-bytes.was) ∙ c.bytes.ensures.value)

pub invariant_of-result : goal.invariant_of-result
invariant_of-result g c =
    let type : type_of_id c.args.world.now.state c.args.id ≡ Some c.in_ok-schema.schema.now = sym c.type_of.ensures ∙ ap option_copied c.in_ok-schema.was in
    c.in_ok-bytes.ensures.size ∙ ap byte_count type

pub returns-clause-schema : goal.returns-clause-schema
returns-clause-schema g c = sym c.type_of.ensures ∙ ap option_copied c.in_ok-schema.was

pub returns-clause-numbers : goal.returns-clause-numbers
returns-clause-numbers g c =
    let w = c.args.world.now.state in
    typed w c.args.source c.args.id c.in_ok-schema.schema.now c.in_ok-bytes.bytes.now (sym (ap option_copied c.in_ok-schema.was) ∙ c.type_of.ensures)
    (sym (ap (λ o. option_map (value_in (type_of_id w c.args.id)) (option_copied o)) c.in_ok-bytes.was) ∙ c.bytes.ensures.value)
