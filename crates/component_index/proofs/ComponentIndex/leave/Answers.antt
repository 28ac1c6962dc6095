use Rattle.std.proofs.Common.{◌∙◌, ap}
use Rattle.std.specs.FinMap as finite
use Rattle.component_index.proofs.EnteredLemmas.{AreListed-leave, AreMarked-leave}
use Rattle.component_index.proofs.ComponentIndex.leave.Goals as goal

pub returns : goal.returns
returns g c = record { left = c.after-self-inside.ensures ∙ ap (λ t. finite.remove t c.args.key) c.self.view_is }

pub invariant_of-self : goal.invariant_of-self
invariant_of-self g c = (
  AreListed-leave c.self.inside.lists c.unlist_all.new.lists c.self.inside.entered.tables c.after-self-inside.result.tables c.self.invariant.0 c.args.self.now c.self.view_is c.args.key c.args.ids.now c.requires
      c.after-self-inside.ensures
      c.unlist_all.ensures,
  AreMarked-leave c.self.inside.entered.tables c.after-self-inside.result.tables c.args.key c.self.inside.mentioned.items c.self.invariant.1 c.after-self-inside.ensures,
)
