use Rattle.std.proofs.Common.{sym, subst, rules}
use Rattle.name_index.specs.Names.{OthersKeepTheirs}
use Rattle.name_index.proofs.NamesLemmas.{bound_long, kept_long, OthersKeepTheirs-insert}
use Rattle.name_index.proofs.NameIndex.bind_long.Goals as goal

pub invariant_of-self-2 : goal.invariant_of-self-2
invariant_of-self-2 g c = kept_long c.args.self.now c.self.inside.short c.self.inside.long c.reserve.new.self c.insert.new.self c.self.inside.texts c.self.view_is c.self.invariant c.in_ok-key.key c.args.name.now c.in_ok-key.ensures.ok c.requires.long c.args.entity (search rules) (search rules) c.set_apart.new.self (c.has_long.ensures.free c.if-has_long.false) c.requires.unnamed c.in_ok-set_apart.ensures.kept

pub returns-clause-bound : goal.returns-clause-bound
returns-clause-bound g c = bound_long c.args.self.now c.self.inside.short c.self.inside.long c.reserve.new.self c.insert.new.self c.self.inside.texts c.self.view_is c.self.invariant c.in_ok-key.key c.args.name.now c.in_ok-key.ensures.ok c.requires.long c.args.entity (search rules) (search rules)

pub returns-clause-others : goal.returns-clause-others
returns-clause-others g c = subst (λ m. OthersKeepTheirs c.args.self.now m c.args.entity) (sym (bound_long c.args.self.now c.self.inside.short c.self.inside.long c.reserve.new.self c.insert.new.self c.self.inside.texts c.self.view_is c.self.invariant c.in_ok-key.key c.args.name.now c.in_ok-key.ensures.ok c.requires.long c.args.entity (search rules) (search rules)))
    (OthersKeepTheirs-insert c.args.self.now c.args.name.now c.args.entity (c.has_long.ensures.free c.if-has_long.false))
