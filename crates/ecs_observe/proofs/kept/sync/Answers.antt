-- The tables of a world are those of its graph.
use Rattle.std.specs.Prelude.{OnOk, IsTrue, ◌↔◌, Contains}
use Rattle.std.proofs.Common.{subst, sym, ◌∙◌}
use Rattle.ecs_id.specs.declared.TableKey.{TableKey}
use Rattle.query_cache.specs.Kept.{Fits, IsSynced, Judges, is_kept}
use Rattle.query_cache.specs.Patterns.{AreListed}
use Rattle.ecs_observe.proofs.kept.sync.Goals as goal

pub sync-requires : goal.sync-requires
sync-requires g c = subst (Fits c.args.list.now) (sym (c.store.ensures.store ∙ c.graph.ensures.tables)) c.requires

pub returns-clause-listed : goal.returns-clause-listed
returns-clause-listed g c = λ q of_query.
    subst (λ s. OnOk c.sync.result (AreListed q s c.sync.new.self.keys)) (c.store.ensures.store ∙ c.graph.ensures.tables) (c.sync.ensures.listed q of_query)

pub returns-clause-exact : goal.returns-clause-exact
returns-clause-exact g c =
    subst (λ s. OnOk c.sync.result ((k : TableKey) → Contains c.sync.new.self.keys k ↔ IsTrue (is_kept c.sync.new.self.patterns s k))) (c.store.ensures.store ∙ c.graph.ensures.tables) c.sync.ensures.exact

pub returns-clause-judged : goal.returns-clause-judged
returns-clause-judged g c =
    subst (λ s. Judges s (c.args.list.now).last c.sync.result (c.args.list.now).judged c.sync.new.self.judged) (c.store.ensures.store ∙ c.graph.ensures.tables) c.sync.ensures.judged

pub returns-clause-again : goal.returns-clause-again
returns-clause-again g c = λ synced.
    c.sync.ensures.again (subst (IsSynced c.args.list.now) (sym (c.store.ensures.store ∙ c.graph.ensures.tables)) synced)

pub returns-clause-synced : goal.returns-clause-synced
returns-clause-synced g c =
    subst (λ s. OnOk c.sync.result (IsSynced c.sync.new.self s)) (c.store.ensures.store ∙ c.graph.ensures.tables) c.sync.ensures.synced

pub returns-clause-fits : goal.returns-clause-fits
returns-clause-fits g c = subst (Fits c.sync.new.self) (c.store.ensures.store ∙ c.graph.ensures.tables) c.sync.ensures.fits
