use Rattle.query_meaning.proofs.FlatItems.{items_go_by_number}
use Rattle.query_meaning.proofs.laws.items_go_by_number.Goals as goal

pub returns : goal.returns
returns c = items_go_by_number
