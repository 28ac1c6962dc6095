use Rattle.std.proofs.Common.{arith, refl}
use Rattle.ecs_model.proofs.Bits.{has_one_more}
use Rattle.entity_set.proofs.bits.set.Goals as goal

pub returns-clause-has : goal.returns-clause-has
returns-clause-has c = has_one_more c.args.words.now _ c.args.number (omega (arith, c.requires.within)) refl
