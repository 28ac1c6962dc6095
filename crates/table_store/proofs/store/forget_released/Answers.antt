use Rattle.std.proofs.Common.{◌+◌, ◌*◌, ◌≤◌, inr, length, rules, subst, sym, arith}
use Rattle.std.proofs.lemmas.Fn.{filter_same}
use Rattle.slab.specs.Slab.{slab_len}
use Rattle.table_store.specs.Kept.{is_held}
use Rattle.table_store.proofs.TableCounts.{held_few}
use Rattle.table_store.proofs.store.forget_released.Goals as goal

pub returns-then-len-clause-few : goal.returns-then-len-clause-few
returns-then-len-clause-few g c =
    let less = filter_same _ (is_held c.args.tables.now) _ (λ x b f' k. search rules) _ _ c.retain.ensures.filtered in
    let few = held_few c.args.tables.now 0 c.args.by_serial.now.items c.requires in
    subst (λ l. length l ≤ 2 * slab_len c.args.tables.now + 1) (sym less) (omega (arith, few))

pub returns-then-len-clause-kept : goal.returns-then-len-clause-kept
returns-then-len-clause-kept g c = inr (filter_same _ (is_held c.args.tables.now) _ (λ x b f' k. search rules) _ _ c.retain.ensures.filtered)
