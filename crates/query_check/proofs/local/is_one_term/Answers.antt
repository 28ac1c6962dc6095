use Rattle.std.proofs.Common.{arith}
use Rattle.std.proofs.lemmas.Grind.{common_steps}
use Rattle.query_check.proofs.local.is_one_term.Goals as goal

pub scale_in_slice-result : goal.scale_in_slice-result
scale_in_slice-result g c = grind arith

pub bounds-pieces-0 : goal.bounds-pieces-0
bounds-pieces-0 g c = grind arith

pub bounds-0 : goal.bounds-0
bounds-0 g c = grind arith

pub scale_in_slice-result-in-Item-1 : goal.scale_in_slice-result-in-Item-1
scale_in_slice-result-in-Item-1 g c = grind arith

pub bounds-0-in-Item-1 : goal.bounds-0-in-Item-1
bounds-0-in-Item-1 g c = grind arith

pub scale_in_slice-t-9 : goal.scale_in_slice-t-9
scale_in_slice-t-9 g c = grind arith

pub bounds-pieces-0-in-And-1 : goal.bounds-pieces-0-in-And-1
bounds-pieces-0-in-And-1 g c = grind arith

pub returns-in-Item : goal.returns-in-Item
returns-in-Item g c = grind (arith, common_steps)

pub returns-in_default : goal.returns-in_default
returns-in_default g c = grind (arith, common_steps)

pub returns-in_default-2 : goal.returns-in_default-2
returns-in_default-2 g c = grind (arith, common_steps)

pub returns-in_default-3 : goal.returns-in_default-3
returns-in_default-3 g c = grind (arith, common_steps)

pub returns-in_default-4 : goal.returns-in_default-4
returns-in_default-4 g c = grind (arith, common_steps)
