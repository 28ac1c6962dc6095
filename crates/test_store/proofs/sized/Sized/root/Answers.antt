use Rattle.std.proofs.Common.{[], refl}
use Rattle.test_store.proofs.SizeLemmas.{sized_after}
use Rattle.test_store.proofs.sized.Sized.root.Goals as goal

pub invariant_of-self : goal.invariant_of-self
invariant_of-self g c = record { sized = sized_after c.args.self.now.store c.find_or_make.new.self c.find_or_make.result [] refl c.find_or_make.ensures c.args.self.now.sized }
