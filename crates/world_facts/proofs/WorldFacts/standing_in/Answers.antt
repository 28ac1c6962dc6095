use Rattle.std.proofs.Common.{◌≡◌, sym, ap, ◌∙◌}
use Rattle.table_store.specs.Rows.{rows_in}
use Rattle.table_store.specs.Store.{Store}
use Rattle.table_store.proofs.FilledTables.{nobody}
use Rattle.world_facts.proofs.WorldFacts.standing_in.Goals as goal

pub returns-in-None : goal.returns-in-None
returns-in-None g c =
    let same : c.store.result.now ≡ (((c.args.self.now).links).housing).tables = rw (← c.self.view_is) (c.store.ensures.store ∙ ap (λ h. h.tables) c.tables.ensures.tables) in
    sym (nobody (((c.args.self.now).links).housing).tables c.args.table (ap (λ (s : Store). rows_in s c.args.table) (sym same) ∙ c.in-None.ensures.table))
