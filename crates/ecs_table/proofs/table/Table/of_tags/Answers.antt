use Rattle.std.proofs.Common.{length, replicate, ap, sym, ◌∙◌}
use Rattle.std.proofs.lemmas.List.{length-replicate}
use Rattle.raw_column.specs.Contents.{empty_contents}
use Rattle.ecs_table.proofs.TableLists.{no_data_ids, no_data_sizes, seen_new, stored_new, tags_small}
use Rattle.ecs_table.proofs.table.Table.of_tags.Goals as goal

pub invariant_of-result : goal.invariant_of-result
invariant_of-result g c =
    let n = length c.args.ids.now in
    stored_new c.args.ids.now c.in_ok-from_slice.field-0 c.of_tags.result.ids (replicate n 0) c.of_tags.result.block c.new.result (sym (length-replicate n 0)) (tags_small n)
    c.in_ok-from_slice.ensures.items (c.of_tags.ensures.ids ∙ no_data_ids c.args.ids.now) (c.of_tags.ensures.block ∙ ap empty_contents (no_data_sizes n)) c.new.ensures.items

pub returns : goal.returns
returns g c =
    let n = length c.args.ids.now in
    seen_new c.args.ids.now c.in_ok-from_slice.field-0 c.of_tags.result.ids (replicate n 0) c.of_tags.result.block c.new.result.items
    c.in_ok-from_slice.ensures.items (c.of_tags.ensures.ids ∙ no_data_ids c.args.ids.now) (c.of_tags.ensures.block ∙ ap empty_contents (no_data_sizes n)) c.new.ensures.items
