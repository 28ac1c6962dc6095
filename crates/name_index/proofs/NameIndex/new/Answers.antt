use Rattle.std.proofs.Common.{rules}
use Rattle.name_index.proofs.NamesLemmas.{kept_none, unnamed_all}
use Rattle.name_index.proofs.NameIndex.new.Goals as goal

pub invariant_of-result : goal.invariant_of-result
invariant_of-result g c = kept_none c.with_hasher.result c.with_hasher-2.result (search rules) (search rules) c.new.result c.with_hasher.ensures.unique (c.new.ensures.placed _) c.new.ensures.others

pub returns-clause-unnamed : goal.returns-clause-unnamed
returns-clause-unnamed g c = unnamed_all c.with_hasher.result c.with_hasher-2.result (search rules) (search rules)
