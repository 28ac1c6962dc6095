use Rattle.component_index.proofs.TableLemmas.{IsPlace-position}
use Rattle.component_index.proofs.table_list.place_of.Goals as goal

pub returns : goal.returns
returns g c = rw c.searched.ensures (IsPlace-position c.args.key c.args.keys.now)
