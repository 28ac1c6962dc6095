use Rattle.std.proofs.Common.{◌∙◌, ap, rules}
use Rattle.std.specs.FinMap as finite
use Rattle.component_index.proofs.EnteredLemmas.{AreListed-enter, AreListed-refused, AreMarked-enter, AreMarked-kept, IsNewest-none}
use Rattle.component_index.proofs.ComponentIndex.enter.Goals as goal

pub list_all-requires : goal.list_all-requires
list_all-requires g c = rw c.in-Some.ensures.value (IsNewest-none c.self.inside.entered.tables c.self.inside.lists c.self.invariant.0 c.args.self.now c.self.view_is c.args.key c.requires)

-- where the marks are refused, and where a list is
pub invariant_of-self : goal.invariant_of-self
invariant_of-self g c = (c.self.invariant.0, AreMarked-kept c.self.inside.mentioned.items c.note_all.new.marks.items c.self.inside.entered.tables c.self.invariant.1 c.note_all.ensures.kept)

pub returns-clause-entered : goal.returns-clause-entered
returns-clause-entered g c = c.after-self-inside.ensures ∙ ap (λ t. finite.insert t c.args.key c.args.ids.now) c.self.view_is

pub invariant_of-self-2 : goal.invariant_of-self-2
invariant_of-self-2 g c = (
  AreListed-enter c.self.inside.lists c.list_all.new.lists c.self.inside.entered.tables c.after-self-inside.result.tables c.self.invariant.0 c.args.self.now c.self.view_is c.args.key c.args.ids.now c.requires
      c.after-self-inside.ensures
      (rw c.in-Some.ensures.value at c.in_default-list_all.ensures.listed),
  AreMarked-enter c.self.inside.entered.tables c.after-self-inside.result.tables c.args.key c.self.inside.mentioned.items c.note_all.new.marks.items c.args.ids.now c.self.invariant.1 c.note_all.ensures.kept
      c.in_ok-note_all.ensures.noted
      c.after-self-inside.ensures,
)

pub invariant_of-self-in-Err : goal.invariant_of-self-in-Err
invariant_of-self-in-Err g c = (
  AreListed-refused c.self.inside.lists c.list_all.new.lists c.unlist_all.new.lists c.self.inside.entered.tables c.self.invariant.0 c.args.self.now c.self.view_is c.args.key c.args.ids.now c.requires
      (rw c.in-Some.ensures.value at c.in-Err.ensures.refused)
      c.unlist_all.ensures,
  AreMarked-kept c.self.inside.mentioned.items c.note_all.new.marks.items c.self.inside.entered.tables c.self.invariant.1 c.note_all.ensures.kept,
)
