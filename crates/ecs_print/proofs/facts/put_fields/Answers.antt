-- The last number first, and then each other before it.
use Rattle.std.proofs.Common.{◌≡◌, ◌≤◌, ◌-◌, ◌++◌, ap, sym, ◌∙◌, append_assoc, arith, drop, length, suc}
use Rattle.std.specs.Int.{w128}
use Rattle.std.specs.Prelude.{flat_map}
use Rattle.std.proofs.lemmas.Int.{to_z-of_z}
use Rattle.std.proofs.lemmas.List.{drop-set}
use Rattle.ecs_model.specs.Bytes.{values_in}
use Rattle.ecs_schema.proofs.UnwrittenBytes.{length-values_in}
use Rattle.ecs_print.specs.Values.{behind_comma}
use Rattle.ecs_print.proofs.Fields.{number_before, number_fits, value_written}
use Rattle.ecs_print.proofs.facts.put_fields.Goals as goal

pub write_next-start-requires-clause-word : goal.write_next-start-requires-clause-word
write_next-start-requires-clause-word g c =
    let values = values_in c.args.schema.now c.args.bytes.now in
    rw (to_z-of_z w128 c.decode.result (record { sfits = c.decode.type_inv }))
    (number_fits c.args.schema.now values (c.loop-field.field - 1) c.decode.result c.bytes_are_a_value.ensures.0 c.bytes_are_a_value.ensures.1 c.decode.ensures)

pub loop-field-preserved : goal.loop-field-preserved
loop-field-preserved g c =
    let values = values_in c.args.schema.now c.args.bytes.now in
    let rest = drop 176 c.args.text.now in
    let number = c.decode.result in
    let behind = drop c.loop-field.start c.loop-field.text in
    let more : c.loop-field.field ≡ suc (c.loop-field.field - 1) = omega (arith, c.loop-field-test.true) in
    record {
      numbers = c.write_next-start.ensures.written ∙ ap (λ z. behind_comma z ++ behind) (to_z-of_z w128 number (record { sfits = c.decode.type_inv }))
          ∙ ap (λ t. behind_comma number ++ t) (c.loop-field.invariant.numbers ∙ ap (λ k. flat_map behind_comma (drop k values) ++ rest) more)
          ∙ sym (append_assoc (behind_comma number) (flat_map behind_comma (drop (suc (c.loop-field.field - 1)) values)) rest)
          ∙ ap (λ t. t ++ rest) (number_before values (c.loop-field.field - 1) number c.decode.ensures);
      room = omega arith;
      some = omega arith;
      within = omega arith;
      long = omega arith;
    }

pub returns-clause-written : goal.returns-clause-written
returns-clause-written g c =
    let values = values_in c.args.schema.now c.args.bytes.now in
    let rest = drop 176 c.args.text.now in
    let some : 1 ≤ length values = omega (arith, length-values_in c.args.schema.now c.args.bytes.now, c.field_count-count.ensures.value, c.field_count-count.ensures.some) in
    let first : c.loop-field.field ≡ 0 = omega (arith, c.loop-field-test.false) in
    let text = c.loop-field.text in
    let start = c.loop-field.start in
    drop-set text start 61 (omega arith) ∙ value_written values text rest start some (c.loop-field.invariant.numbers ∙ ap (λ k. flat_map behind_comma (drop k values) ++ rest) first)
