use Rattle.std.proofs.Common.{ap, ◌∙◌}
use Rattle.entity_set.specs.Members.{members}
use Rattle.entity_set.proofs.SetBits.{none_members}
use Rattle.entity_set.proofs.set.EntitySet.new.Goals as goal

pub returns : goal.returns
returns g c = ap members c.new.ensures.items ∙ none_members
