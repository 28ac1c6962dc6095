use Rattle.std.specs.Prelude.{All}
use Rattle.std.proofs.Common.{subst, sym}
use Rattle.watch_index.specs.Words.{Fits}
use Rattle.watch_index.proofs.numbers.Numbers.push_to.Goals as goal

pub push_all-requires : goal.push_all-requires
push_all-requires g c = subst (All Fits) (sym c.as_slice.ensures.value) c.self.invariant.fit
