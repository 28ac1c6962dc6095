use Rattle.component_index.proofs.TableLemmas.{once_inserted}
use Rattle.component_index.proofs.table_list.TableList.insert.Goals as goal

pub invariant_of-self : goal.invariant_of-self
invariant_of-self g c = once_inserted c.insert.result c.args.key _ _ c.insert.ensures.inserted c.insert.ensures.refused c.self.invariant
