use Rattle.std.proofs.Common.{arith}
use Rattle.std.proofs.lemmas.Grind.{common_steps}
use Rattle.ecs_schema.proofs.NumberPlaces.{slice_get-read}
use Rattle.ecs_schema.proofs.values.read_field.Goals as goal

pub returns : goal.returns
returns g c =
    slice_get-read c.args.fields.now c.args.bytes.now c.args.field c.index-fields-field.result c.kind-kind.result c.size_of-start.result c.width.result c.read_number.result
    c.requires.field c.index-fields-field.is c.kind-kind.ensures c.width.ensures.value c.size_of-start.ensures.value c.read_number.type_inv c.read_number.ensures

pub offset_bounds-fields-field : goal.offset_bounds-fields-field
offset_bounds-fields-field g c = grind arith

pub bounds-fields-field : goal.bounds-fields-field
bounds-fields-field g c = grind arith

pub slice_bounds-size_of-end : goal.slice_bounds-size_of-end
slice_bounds-size_of-end g c = grind (arith, common_steps)

pub size_of-start-requires : goal.size_of-start-requires
size_of-start-requires g c = grind (arith, common_steps)

pub overflow_add-start : goal.overflow_add-start
overflow_add-start g c = grind (arith, common_steps)

pub slice_bounds-read_number-count : goal.slice_bounds-read_number-count
slice_bounds-read_number-count g c = grind arith

pub slice_bounds-read_number-start : goal.slice_bounds-read_number-start
slice_bounds-read_number-start g c = grind arith

pub slice_bounds-read_number-end : goal.slice_bounds-read_number-end
slice_bounds-read_number-end g c = grind (arith, common_steps)

pub read_number-requires : goal.read_number-requires
read_number-requires g c = grind arith
