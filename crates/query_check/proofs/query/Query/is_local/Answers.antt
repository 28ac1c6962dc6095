use Rattle.std.proofs.Common.{arith}
use Rattle.std.proofs.lemmas.Grind.{common_steps}
use Rattle.query_check.proofs.query.Query.is_local.Goals as goal

pub returns-then-len-eq1 : goal.returns-then-len-eq1
returns-then-len-eq1 g c = grind (arith, common_steps)

pub returns-else-len-eq1 : goal.returns-else-len-eq1
returns-else-len-eq1 g c = grind (arith, common_steps)
