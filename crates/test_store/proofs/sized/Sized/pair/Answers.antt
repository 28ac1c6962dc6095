use Rattle.std.proofs.Common.{◌∷◌, []}
use Rattle.test_store.proofs.SizeLemmas.{pair_ascends, pair_sizes, sized_after, sizes_of_cells, small_cells}
use Rattle.test_store.proofs.sized.Sized.pair.Goals as goal

pub find_or_make-requires-clause-ascend : goal.find_or_make-requires-clause-ascend
find_or_make-requires-clause-ascend g c = rw (c.new.ensures, c.tag.ensures) (pair_ascends c.plain-position.result c.plain-tag.result c.plain-position.ensures c.plain-tag.ensures)

pub find_or_make-requires-clause-small : goal.find_or_make-requires-clause-small
find_or_make-requires-clause-small g c = small_cells (c.new.result ∷ c.tag.result ∷ []) (rw (c.new.ensures, c.tag.ensures) (pair_sizes c.plain-position.result c.plain-tag.result c.plain-position.ensures c.plain-tag.ensures))

pub find_or_make-requires-clause-sizes : goal.find_or_make-requires-clause-sizes
find_or_make-requires-clause-sizes g c = sizes_of_cells c.args.self.now.store c.args.self.now.sized (c.new.result ∷ c.tag.result ∷ []) (rw (c.new.ensures, c.tag.ensures) (pair_sizes c.plain-position.result c.plain-tag.result c.plain-position.ensures c.plain-tag.ensures))

pub invariant_of-self : goal.invariant_of-self
invariant_of-self g c = record { sized = sized_after c.args.self.now.store c.find_or_make.new.self c.find_or_make.result _ (pair_sizes c.plain-position.result c.plain-tag.result c.plain-position.ensures c.plain-tag.ensures) (rw (c.new.ensures, c.tag.ensures) at c.find_or_make.ensures) c.args.self.now.sized }
