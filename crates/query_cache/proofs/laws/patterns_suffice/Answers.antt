use Rattle.query_cache.proofs.ItemPatterns.{patterns_suffice}
use Rattle.query_cache.proofs.laws.patterns_suffice.Goals as goal

pub returns : goal.returns
returns c = patterns_suffice
