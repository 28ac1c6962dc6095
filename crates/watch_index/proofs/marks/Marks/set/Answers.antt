use Rattle.std.proofs.Common.{arith, refl}
use Rattle.ecs_model.proofs.Bits.{has_one_more}
use Rattle.watch_index.proofs.marks.Marks.set.Goals as goal

pub returns : goal.returns
returns c = has_one_more c.args.self.now.words _ c.args.mark (omega (arith, c.requires)) refl
