use Rattle.std.proofs.lemmas.Grind.{common_steps}
use Rattle.std.proofs.Common.{◌≡◌, ◌+◌, length, sym, ap, ◌∙◌, arith, rules, FitsSigned, to_z, of_z}
use Rattle.std.specs.Int.{w128}
use Rattle.std.specs.Slice.Iter.{iter_rest}
use Rattle.std.specs.Iterator.Adapters.{zip_first, zip_second}
use Rattle.std.proofs.lemmas.Int.{to_z-of_z}
use Rattle.std.proofs.lemmas.List.{length_push}
use Rattle.std.proofs.lemmas.Slice.Zip.{zip_turn, zip_end}
use Rattle.ecs_model.specs.Schema.{width}
use Rattle.ecs_model.specs.Bytes.{number_bytes}
use Rattle.ecs_schema.proofs.NumberPlaces.{all_fit-at, size_of-more, size_of-more-le, value_bytes-whole, value_bytes-written}
use Rattle.ecs_schema.proofs.values.write_value.Goals as goal

pub slice_bounds-write_number-end : goal.slice_bounds-write_number-end
slice_bounds-write_number-end g c =
    let first : iter_rest (zip_first c.into_iter-field-iterator.result) ≡ c.args.fields.now = cc in
    let second : iter_rest (zip_second c.into_iter-field-iterator.result) ≡ c.args.values.now = cc in
    let turn = zip_turn c.args.fields.now c.args.values.now c.loop-field.yielded _ c.loop-field.field-iterator c.next.new.self _ first second c.loop-field.yielded_by (c.in-Some.field, c.in-Some.value) c.in-Some.is c.next.ensures.steps in
    let wide = c.width.ensures.value ∙ ap width c.kind-kind.ensures in
    let room = size_of-more-le c.args.fields.now (length c.loop-field.yielded) c.in-Some.field.now turn.0 (turn.2 c.in-Some.field.now) in
    let start = c.loop-field.invariant.0 in
    omega arith

pub write_number-requires-clause-fits : goal.write_number-requires-clause-fits
write_number-requires-clause-fits g c =
    let first : iter_rest (zip_first c.into_iter-field-iterator.result) ≡ c.args.fields.now = cc in
    let second : iter_rest (zip_second c.into_iter-field-iterator.result) ≡ c.args.values.now = cc in
    let turn = zip_turn c.args.fields.now c.args.values.now c.loop-field.yielded _ c.loop-field.field-iterator c.next.new.self _ first second c.loop-field.yielded_by (c.in-Some.field, c.in-Some.value) c.in-Some.is c.next.ensures.steps in
    let value = c.in-Some.value.now in
    let whole : FitsSigned w128 value = search rules in
    rw (to_z-of_z w128 value whole, c.kind-kind.ensures)
    (all_fit-at c.args.fields.now c.args.values.now (length c.loop-field.yielded) c.in-Some.field.now value c.requires.value.1 turn.0 turn.1 (turn.2 c.in-Some.field.now) (turn.3 value))

pub loop-field-preserved : goal.loop-field-preserved
loop-field-preserved g c =
    let first : iter_rest (zip_first c.into_iter-field-iterator.result) ≡ c.args.fields.now = cc in
    let second : iter_rest (zip_second c.into_iter-field-iterator.result) ≡ c.args.values.now = cc in
    let turn = zip_turn c.args.fields.now c.args.values.now c.loop-field.yielded _ c.loop-field.field-iterator c.next.new.self _ first second c.loop-field.yielded_by (c.in-Some.field, c.in-Some.value) c.in-Some.is c.next.ensures.steps in
    let field = c.in-Some.field.now in
    let value = c.in-Some.value.now in
    let whole : FitsSigned w128 value = search rules in
    let wide : c.width.result ≡ width field.kind = c.width.ensures.value ∙ ap width c.kind-kind.ensures in
    let written : c.write_number.new.bytes ≡ number_bytes field.kind value =
    c.write_number.ensures ∙ ap (λ k. number_bytes k (to_z w128 (of_z w128 value))) c.kind-kind.ensures ∙ ap (number_bytes field.kind) (to_z-of_z w128 value whole) in
    let at = turn.2 field in
    rw (length_push, wide, written) (
      ap (λ start. start + width field.kind) c.loop-field.invariant.0 ∙ sym (size_of-more c.args.fields.now (length c.loop-field.yielded) field turn.0 at),
      value_bytes-written c.args.fields.now c.args.values.now (length c.loop-field.yielded) field value c.loop-field.start c.args.bytes.now c.loop-field.bytes turn.0 turn.1 at (turn.3 value)
          c.loop-field.invariant.0 c.loop-field.invariant.1,
    )

pub returns : goal.returns
returns g c =
    let first : iter_rest (zip_first c.into_iter-field-iterator.result) ≡ c.args.fields.now = cc in
    let second : iter_rest (zip_second c.into_iter-field-iterator.result) ≡ c.args.values.now = cc in
    let end = zip_end c.args.fields.now c.args.values.now c.loop-field.yielded _ c.loop-field.field-iterator c.next.new.self _ first second c.loop-field.yielded_by c.in-None.is c.next.ensures.steps in
    let count = c.requires.value.0 in
    value_bytes-whole c.args.fields.now c.args.values.now (length c.loop-field.yielded) c.loop-field.start c.args.bytes.now c.loop-field.bytes (omega arith) (omega arith) c.requires.size
    c.loop-field.invariant.0 c.loop-field.invariant.1

pub loop-field-init : goal.loop-field-init
loop-field-init g c = grind arith

pub overflow_add-end : goal.overflow_add-end
overflow_add-end g c = grind (arith, common_steps)

pub slice_bounds-write_number-count : goal.slice_bounds-write_number-count
slice_bounds-write_number-count g c = grind arith

pub slice_bounds-write_number-start : goal.slice_bounds-write_number-start
slice_bounds-write_number-start g c = grind arith

pub write_number-requires-clause-width : goal.write_number-requires-clause-width
write_number-requires-clause-width g c = grind arith
