use Rattle.watch_index.proofs.MarkChanges.{marked_more, marked_still}
use Rattle.watch_index.proofs.index.WatchIndex.enter.Goals as goal

pub invariant_of-self : goal.invariant_of-self
invariant_of-self g c =
    marked_still c.self.inside.marks.words c.set_all.new.self.words c.args.occasions.now c.set_all.ensures c.self.inside.lists.entries c.self.invariant c.args.number
    c.list_all.new.lists.entries c.unlist_all.new.lists.entries c.in-Err.ensures.refused c.unlist_all.ensures

pub invariant_of-self-in_default : goal.invariant_of-self-in_default
invariant_of-self-in_default g c =
    marked_more c.self.inside.marks.words c.set_all.new.self.words c.args.occasions.now c.set_all.ensures c.self.inside.lists.entries c.self.invariant c.args.number
    c.list_all.new.lists.entries c.in_default.ensures.listed
