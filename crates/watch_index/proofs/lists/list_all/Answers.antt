use Rattle.std.proofs.Common.{arith, refl}
use Rattle.watch_index.specs.SameOccasion.{occasion_eq}
use Rattle.watch_index.proofs.OccasionLists.{Adds-begin, Adds-end, Adds-more, Keeps-more, on_err}
use Rattle.watch_index.proofs.lists.list_all.Goals as goal

pub loop-occasion-init : goal.loop-occasion-init
loop-occasion-init g c = Adds-begin occasion_eq c.args.occasions.now c.args.number c.args.lists.now.entries

pub returns-in_err-list-clause-refused : goal.returns-in_err-list-clause-refused
returns-in_err-list-clause-refused g c =
    on_err c.from_residual.result
    (Keeps-more occasion_eq c.args.occasions.now c.args.number c.args.lists.now.entries c.loop-occasion.lists.entries c.list.new.lists.entries c.loop-occasion.occasion-index _ _ refl (omega arith) c.loop-occasion.invariant c.in_err-list.ensures.refused)

pub loop-occasion-preserved : goal.loop-occasion-preserved
loop-occasion-preserved g c =
    Adds-more occasion_eq c.args.occasions.now c.args.number c.args.lists.now.entries c.loop-occasion.lists.entries c.list.new.lists.entries c.loop-occasion.occasion-index _ _ refl (omega arith) c.loop-occasion.invariant c.in_ok-list.ensures.listed

pub returns-clause-listed : goal.returns-clause-listed
returns-clause-listed g c =
    Adds-end occasion_eq c.args.occasions.now c.args.number c.args.lists.now.entries c.loop-occasion.lists.entries c.loop-occasion.occasion-index (omega arith) c.loop-occasion.invariant
