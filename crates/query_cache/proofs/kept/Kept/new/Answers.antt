use Rattle.std.proofs.Common.{refl}
use Rattle.query_cache.proofs.FittingStores.{new_fits}
use Rattle.query_cache.proofs.kept.Kept.new.Goals as goal

pub returns-clause-fits : goal.returns-clause-fits
returns-clause-fits g c = λ s. new_fits _ s c.new.ensures refl
