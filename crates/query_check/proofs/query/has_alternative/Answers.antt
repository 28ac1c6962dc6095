use Rattle.std.proofs.Common.{arith}
use Rattle.std.proofs.lemmas.Grind.{common_steps}
use Rattle.query_check.proofs.query.has_alternative.Goals as goal

pub returns : goal.returns
returns c = grind (arith, common_steps)
