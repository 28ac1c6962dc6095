-- The tables of a world are those of its graph.
use Rattle.std.proofs.Common.{subst, sym, ◌∙◌}
use Rattle.query_cache.specs.Kept.{Fits}
use Rattle.test_queries.proofs.lists.expect_listed.Goals as goal

pub sync-requires : goal.sync-requires
sync-requires g c = subst (Fits c.args.kept.now) (sym (c.store.ensures.store ∙ c.graph.ensures.tables)) c.requires

pub returns-in_err-sync : goal.returns-in_err-sync
returns-in_err-sync g c = subst (Fits c.sync.new.self) (c.store.ensures.store ∙ c.graph.ensures.tables) c.sync.ensures.fits

pub returns-in_err-push_tables : goal.returns-in_err-push_tables
returns-in_err-push_tables g c = subst (Fits c.sync.new.self) (c.store.ensures.store ∙ c.graph.ensures.tables) c.sync.ensures.fits

pub returns : goal.returns
returns g c = subst (Fits c.sync.new.self) (c.store.ensures.store ∙ c.graph.ensures.tables) c.sync.ensures.fits
