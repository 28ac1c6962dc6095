use Rattle.std.proofs.Common.{sym, ◌∙◌}
use Rattle.watch_touched.proofs.CountedConcerns.{all_held, linked_if_others}
use Rattle.watch_touched.proofs.moving.Happened.push_moved_by_others.Goals as goal

pub push_moved_by_pairs-requires-clause-holders : goal.push_moved_by_pairs-requires-clause-holders
push_moved_by_pairs-requires-clause-holders g c =
    sym (all_held c.args.self.query.now c.args.self.changes.now c.args.self.bonds c.requires.bonds c.len.result c.args.targets.now.others.items c.requires.others c.len.ensures)
    ∙ sym c.are_holders.ensures
    ∙ c.if-are_holders.true

pub push_moved_by_roles-requires-clause-linked : goal.push_moved_by_roles-requires-clause-linked
push_moved_by_roles-requires-clause-linked g c =
    linked_if_others c.args.self.query.now c.args.self.changes.now c.args.self.bonds c.requires.bonds c.len.result c.args.targets.now.others.items c.requires.others c.len.ensures c.requires.found
    (sym c.are_holders.ensures ∙ c.if-are_holders.false)
