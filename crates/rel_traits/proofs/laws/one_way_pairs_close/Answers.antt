use Rattle.rel_traits.proofs.CyclePairs.{one_way_pairs_close}
use Rattle.rel_traits.proofs.laws.one_way_pairs_close.Goals as goal

pub returns : goal.returns
returns c = one_way_pairs_close
