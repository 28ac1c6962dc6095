use Rattle.table_store.specs.Store.{table_at}
use Rattle.table_store.proofs.Changes.{there, contains}
use Rattle.table_store.proofs.StoreLemmas.{stored}
use Rattle.table_store.proofs.Steps.{is_followed}
use Rattle.table_store.proofs.store.TableStore.follow.Goals as goal

pub index-requires : goal.index-requires
index-requires g c = let t = there (table_at c.args.self.now c.args.key) c.requires.stands in contains c.self.inside.tables c.self.inside.last c.args.self.now c.self.view_is c.args.key t.0 t.1

pub returns-clause-found : goal.returns-clause-found
returns-clause-found g c = is_followed c.self.inside.tables c.self.inside.by_ids c.self.inside.by_serial c.self.inside.last c.args.self.now c.self.view_is c.self.invariant.0 c.args.key c.requires.stands c.index.result.now c.index.ensures c.deref.result.now c.deref.ensures c.args.id c.args.added c.requires.sizes c.edge_end.result c.edge_end.ensures.edge c.edge_end.ensures.stands

pub returns-clause-whole : goal.returns-clause-whole
returns-clause-whole g c = stored c.self.inside.tables c.self.inside.by_ids c.self.inside.by_serial c.self.inside.last c.self.invariant.0 c.args.self.now c.self.view_is
