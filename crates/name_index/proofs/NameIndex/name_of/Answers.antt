use Rattle.std.proofs.Common.{sym, ◌∙◌}
use Rattle.name_index.proofs.NamesLemmas.{at_names}
use Rattle.name_index.proofs.NameIndex.name_of.Goals as goal

pub returns-clause-named : goal.returns-clause-named
returns-clause-named g c = λ name.
    let told = at_names c.args.self.now c.self.inside.short c.self.inside.long c.self.inside.texts c.self.view_is c.self.invariant name c.args.entity in
    ((λ h. told.0 (sym c.get.ensures ∙ h)), λ h. c.get.ensures ∙ told.1 h)
