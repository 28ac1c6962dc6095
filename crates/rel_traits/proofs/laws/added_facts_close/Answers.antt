use Rattle.rel_traits.proofs.CycleLaw.{added_facts_close}
use Rattle.rel_traits.proofs.laws.added_facts_close.Goals as goal

pub returns : goal.returns
returns c = added_facts_close
