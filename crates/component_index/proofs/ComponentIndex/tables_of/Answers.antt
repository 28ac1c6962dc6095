use Rattle.component_index.proofs.ComponentIndex.tables_of.Goals as goal

pub returns-clause-listed : goal.returns-clause-listed
returns-clause-listed g c key = rw c.tables_of.ensures.listed (c.listings.ensures.entered c.args.pattern key)
