use Rattle.rel_traits.proofs.StayingFacts.{added_facts_stay}
use Rattle.rel_traits.proofs.laws.added_facts_stay.Goals as goal

pub returns : goal.returns
returns c = added_facts_stay
