use Rattle.watch_concerns.proofs.EventsSince.{watches_are_told_since}
use Rattle.watch_concerns.proofs.told_laws.watches_are_told_since.Goals as goal

pub returns : goal.returns
returns c = watches_are_told_since
