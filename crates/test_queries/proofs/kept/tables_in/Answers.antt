-- A new list fits each world, and a sync that succeeds leaves the tables of the query.
use Rattle.std.proofs.Common.{◌≡◌, ◌++◌, ap, subst, sym, ◌∙◌}
use Rattle.std.proofs.lemmas.Result.{IfOk-weaker}
use Rattle.std.specs.Prelude.{IfOk, OnOk}
use Rattle.query_cache.specs.Kept.{Fits}
use Rattle.query_cache.specs.Patterns.{AreListed, patterns_of}
use Rattle.world_facts.specs.Kept.{AreTablesOf}
use Rattle.test_queries.proofs.kept.tables_in.Goals as goal

pub sync-requires : goal.sync-requires
sync-requires g c =
    let tables = c.store.result.now in
    subst (λ r. IfOk r (λ kept. Fits kept tables)) c.expect-kept.ensures (IfOk-weaker c.new.result _ _ (λ kept fits. fits tables) c.new.ensures.fits)

pub returns : goal.returns
returns g c =
    let q = c.args.query.now in
    let patterns = subst (λ r. IfOk r (λ kept. kept.patterns ≡ patterns_of q)) c.expect-kept.ensures c.new.ensures.patterns in
    let same = c.store.ensures.store ∙ c.graph.ensures.tables in
    let synced : AreTablesOf q c.args.world.now.tables c.sync.new.self.keys = record {
      listed = subst (λ r. OnOk r (AreListed q c.args.world.now.tables c.sync.new.self.keys)) c.expect.ensures (subst (λ s. OnOk c.sync.result (AreListed q s c.sync.new.self.keys)) same (c.sync.ensures.listed q patterns));
      rising = c.sync.ensures.once;
    } in
    let pushed : c.push_tables.new.tables.items ≡ c.new-tables.result.items ++ c.sync.new.self.keys
    = subst (λ r. OnOk r (c.push_tables.new.tables.items ≡ c.new-tables.result.items ++ c.sync.new.self.keys)) c.expect-2.ensures c.push_tables.ensures.pushed in
    subst (AreTablesOf q c.args.world.now.tables) (sym (pushed ∙ ap (λ ks. ks ++ c.sync.new.self.keys) c.new-tables.ensures.items)) synced
