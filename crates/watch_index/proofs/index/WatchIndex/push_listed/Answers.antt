use Rattle.std.proofs.Common.{sym, ◌∙◌}
use Rattle.watch_index.proofs.MarkChanges.{none_pushed}
use Rattle.watch_index.proofs.index.WatchIndex.push_listed.Goals as goal

pub returns : goal.returns
returns g c =
    none_pushed c.self.inside.marks.words c.self.inside.lists.entries c.args.self.now c.self.view_is c.self.invariant c.args.occasion.now (sym c.has.ensures ∙ c.if-has.false)
    c.args.numbers.now.items
