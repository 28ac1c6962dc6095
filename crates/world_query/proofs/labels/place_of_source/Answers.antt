-- The first text may be the entity's.
use Rattle.std.proofs.Common.{arith}
use Rattle.world_query.proofs.KeptTexts.{found_at}
use Rattle.world_query.proofs.labels.place_of_source.Goals as goal

pub returns-then-is_of-clause-place : goal.returns-then-is_of-clause-place
returns-then-is_of-clause-place g c =
    found_at c.args.world.now.state c.args.texts.now c.args.entity 0 c.index-texts-0.result c.requires.texts (omega arith) (c.is_of.ensures.0 c.if-is_of.true) (omega arith)
