use Rattle.std.specs.Prelude.{filter}
use Rattle.std.specs.List.{Contains}
use Rattle.std.proofs.Common.{List, ap, map, subst, sym, ◌∙◌}
use Rattle.ecs_id.specs.declared.EntityId.{EntityId}
use Rattle.table_store.specs.Store.{table_at}
use Rattle.watch_touched.specs.Leaning.{Adds, leans}
use Rattle.watch_touched.specs.Searches.{is_looked_for}
use Rattle.watch_touched.proofs.TableMates.{its_rows, no_table}
use Rattle.watch_touched.proofs.leaning.Leaners.push_from_tables.Goals as goal

pub tables-preserved-in_default : goal.tables-preserved-in_default
tables-preserved-in_default g c =
    let p = is_looked_for c.args.self.now in
    let none = ap (table_at c.args.store.now) (sym (c.key-key.ensures ∙ c.listed-item.is)) ∙ c.in_default.ensures.table in
    λ w holds. no_table p w c.args.target c.args.store.now c.args.tables.now c.tables.listed-index c.tables-test.true c.listed-item.result c.args.found.now.items c.tables.found.items (c.tables.invariant w holds) none

pub tables-preserved : goal.tables-preserved
tables-preserved g c =
    let p = is_looked_for c.args.self.now in
    let t = c.in-Some.table.now in
    let there = ap (table_at c.args.store.now) (sym (c.key-key.ensures ∙ c.listed-item.is)) ∙ c.in-Some.ensures.table in
    let rows_are = c.rows-rows.ensures.value in
    let ids_are = c.ids-ids.ensures.value in
    let found = c.tables.found.items in
    let more = c.push_alike.new.found.items in
    λ w holds. its_rows p w c.args.target c.args.store.now c.args.tables.now c.tables.listed-index c.tables-test.true c.listed-item.result c.args.found.now.items found (c.tables.invariant w holds) t there more
    (subst (λ (es : List EntityId). Adds (filter (leans p w c.args.target) (map (λ e. e.index) es)) found more) rows_are
    (c.in_ok-push_alike.ensures w (λ e m. holds _ t there e (subst (λ (es : List EntityId). Contains (map (λ x. x.index) es) e) rows_are m) ∙ sym ids_are)))
