use Rattle.std.proofs.Common.{◌≡◌, sym, ap, ◌∙◌}
use Rattle.ecs_id.specs.declared.EntityId.{EntityId}
use Rattle.table_store.specs.Rows.{rows_in}
use Rattle.table_store.specs.Store.{Store}
use Rattle.table_store.proofs.FilledTables.{nobody_by}
use Rattle.ecs_archetypes.proofs.links.LinksHolders.rows.Goals as goal

pub returns-in-None : goal.returns-in-None
returns-in-None g c =
    let same : c.store.result.now ≡ ((c.args.self.now).housing).tables = rw (← c.self.view_is) (c.store.ensures.store ∙ ap (λ h. h.tables) c.graph-graph.ensures) in
    sym (nobody_by (λ (e : EntityId). e.index) ((c.args.self.now).housing).tables c.args.table (ap (λ (s : Store). rows_in s c.args.table) (sym same) ∙ ap (rows_in c.store.result.now) (sym c.key.ensures) ∙ c.in-None.ensures.table))
