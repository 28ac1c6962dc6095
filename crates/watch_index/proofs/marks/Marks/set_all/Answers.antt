use Rattle.std.proofs.Common.{arith, refl}
use Rattle.watch_index.proofs.MarkChanges.{all_added, none_added, one_added}
use Rattle.watch_index.proofs.marks.Marks.set_all.Goals as goal

pub loop-occasion-init : goal.loop-occasion-init
loop-occasion-init c = none_added c.args.self.now.words

pub loop-occasion-preserved : goal.loop-occasion-preserved
loop-occasion-preserved c =
    one_added c.args.self.now.words c.loop-occasion.self.words c.set.new.self.words c.args.occasions.now c.loop-occasion.occasion-index _ _ refl (omega arith) c.loop-occasion.invariant
    c.mark_of-mark.result c.mark_of-mark.ensures.mark c.set.ensures

pub returns : goal.returns
returns c = all_added c.args.self.now.words c.loop-occasion.self.words c.args.occasions.now c.loop-occasion.occasion-index (omega arith) c.loop-occasion.invariant
