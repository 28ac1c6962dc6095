use Rattle.std.proofs.Common.{arith, refl}
use Rattle.watch_index.specs.SameOccasion.{occasion_eq}
use Rattle.watch_index.proofs.OccasionLists.{Drops-begin, Drops-end, Drops-more}
use Rattle.watch_index.proofs.lists.unlist_all.Goals as goal

pub loop-occasion-init : goal.loop-occasion-init
loop-occasion-init g c = Drops-begin occasion_eq c.args.occasions.now c.args.number c.args.lists.now.entries

pub loop-occasion-preserved : goal.loop-occasion-preserved
loop-occasion-preserved g c =
    Drops-more occasion_eq c.args.occasions.now c.args.number c.args.lists.now.entries c.loop-occasion.lists.entries c.unlist.new.lists.entries c.loop-occasion.occasion-index _ _ refl (omega arith) c.loop-occasion.invariant c.unlist.ensures

pub returns : goal.returns
returns g c =
    Drops-end occasion_eq c.args.occasions.now c.args.number c.args.lists.now.entries c.loop-occasion.lists.entries c.loop-occasion.occasion-index (omega arith) c.loop-occasion.invariant
