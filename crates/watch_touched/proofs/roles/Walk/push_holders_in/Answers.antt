use Rattle.std.specs.Prelude.{filter}
use Rattle.std.specs.List.{Contains}
use Rattle.std.proofs.Common.{List, ap, map, subst, sym, ◌∙◌}
use Rattle.ecs_id.specs.declared.EntityId.{EntityId}
use Rattle.table_store.specs.Store.{table_at}
use Rattle.watch_touched.specs.Leaning.{Adds, leans}
use Rattle.watch_touched.specs.Searches.{leads}
use Rattle.watch_touched.proofs.TableMates.{its_rows, no_table}
use Rattle.watch_touched.proofs.roles.Walk.push_holders_in.Goals as goal

pub tables-preserved-in_default : goal.tables-preserved-in_default
tables-preserved-in_default g c w holds =
    let by = leads c.args.self.now c.args.back.step.now in
    let k = c.tables.listed-index in
    let none = ap (table_at c.args.store.now) (sym (c.key-key.ensures ∙ c.listed-item.is)) ∙ c.in_default.ensures.table in
    no_table by w c.args.back.entity c.args.store.now c.args.tables.now k c.tables-test.true c.listed-item.result c.args.found.now.items c.tables.found.items (c.tables.invariant w holds) none

pub tables-preserved : goal.tables-preserved
tables-preserved g c w holds =
    let by = leads c.args.self.now c.args.back.step.now in
    let k = c.tables.listed-index in
    let t = c.in-Some.table.now in
    let there = ap (table_at c.args.store.now) (sym (c.key-key.ensures ∙ c.listed-item.is)) ∙ c.in-Some.ensures.table in
    let rows_are = c.rows-rows.ensures.value in
    let ids_are = c.ids-ids.ensures.value in
    let found = c.tables.found.items in
    let more = c.push_rows.new.found.items in
    its_rows by w c.args.back.entity c.args.store.now c.args.tables.now k c.tables-test.true c.listed-item.result c.args.found.now.items found (c.tables.invariant w holds) t there more
    (subst (λ (es : List EntityId). Adds (filter (leans by w c.args.back.entity) (map (λ e. e.index) es)) found more) rows_are
    (c.in_ok-push_rows.ensures c.if-not-branch.false w (λ e m. holds _ t there e (subst (λ (es : List EntityId). Contains (map (λ x. x.index) es) e) rows_are m) ∙ sym ids_are)))
