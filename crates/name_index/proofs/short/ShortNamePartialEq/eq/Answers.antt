use Rattle.std.proofs.Common.{ap₂, ◌∙◌, nat_eq}
use Rattle.std.specs.Cmp.Lexicographic.{pointwise}
use Rattle.name_index.proofs.ShortLemmas.{keys_compared}
use Rattle.name_index.proofs.short.ShortNamePartialEq.eq.Goals as goal

pub returns : goal.returns
returns c = c.are_same.ensures ∙ keys_compared c.self.inside.bytes c.other.inside.bytes c.self.invariant.whole c.other.invariant.whole ∙ ap₂ (pointwise nat_eq) c.self.view_is c.other.view_is
