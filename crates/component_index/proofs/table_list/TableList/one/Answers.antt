use Rattle.component_index.proofs.TableLemmas.{one_once}
use Rattle.component_index.proofs.table_list.TableList.one.Goals as goal

pub invariant_of-result : goal.invariant_of-result
invariant_of-result g c = one_once c.args.key
