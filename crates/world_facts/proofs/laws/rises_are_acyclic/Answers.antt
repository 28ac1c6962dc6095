use Rattle.world_facts.proofs.RisingSteps.{rises_are_acyclic}
use Rattle.world_facts.proofs.laws.rises_are_acyclic.Goals as goal

pub returns : goal.returns
returns c = rises_are_acyclic
