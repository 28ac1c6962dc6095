use Rattle.std.proofs.Common.{is_some, sym, ap, ◌∙◌}
use Rattle.name_index.proofs.NamesLemmas.{found_long, is_none_of}
use Rattle.name_index.proofs.NameIndex.has_long.Goals as goal

pub returns-clause-taken : goal.returns-clause-taken
returns-clause-taken g c = λ h. ap is_some (found_long c.args.self.now c.self.inside.short c.self.inside.long c.self.inside.texts c.self.view_is c.self.invariant c.args.name.now c.requires) ∙ sym c.contains_key.ensures ∙ h

pub returns-clause-free : goal.returns-clause-free
returns-clause-free g c = λ h. is_none_of _ (ap is_some (found_long c.args.self.now c.self.inside.short c.self.inside.long c.self.inside.texts c.self.view_is c.self.invariant c.args.name.now c.requires) ∙ sym c.contains_key.ensures ∙ h)
