use Rattle.query_cache.proofs.FittingStores.{fits_later}
use Rattle.query_cache.proofs.laws.fits_later.Goals as goal

pub returns : goal.returns
returns c = fits_later
