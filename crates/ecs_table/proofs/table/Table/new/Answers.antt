use Rattle.ecs_table.proofs.TableLists.{seen_new, stored_new}
use Rattle.ecs_table.proofs.table.Table.new.Goals as goal

pub invariant_of-result : goal.invariant_of-result
invariant_of-result g c =
    stored_new c.args.ids.now c.in_ok-from_slice.field-0 c.in_ok-new.field-0.ids c.args.sizes.now c.in_ok-new.field-0.block c.new-2.result c.requires.paired c.requires.small
    c.in_ok-from_slice.ensures.items c.in_ok-new.ensures.ids c.in_ok-new.ensures.block c.new-2.ensures.items

pub returns : goal.returns
returns g c =
    seen_new c.args.ids.now c.in_ok-from_slice.field-0 c.in_ok-new.field-0.ids c.args.sizes.now c.in_ok-new.field-0.block c.new-2.result.items
    c.in_ok-from_slice.ensures.items c.in_ok-new.ensures.ids c.in_ok-new.ensures.block c.new-2.ensures.items
