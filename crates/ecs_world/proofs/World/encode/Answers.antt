use Rattle.std.proofs.Common.{arith}
use Rattle.std.proofs.lemmas.Grind.{common_steps}
use Rattle.ecs_world.proofs.World.encode.Goals as goal

pub returns-in_default-clause-refused : goal.returns-in_default-clause-refused
returns-in_default-clause-refused g c = grind arith

pub slice_bounds-encode-end : goal.slice_bounds-encode-end
slice_bounds-encode-end g c = grind arith

pub encode-requires : goal.encode-requires
encode-requires g c = grind arith

pub returns-in-Ok-clause-judged : goal.returns-in-Ok-clause-judged
returns-in-Ok-clause-judged g c = grind arith

pub returns-in-Ok-clause-encoded : goal.returns-in-Ok-clause-encoded
returns-in-Ok-clause-encoded g c = grind (arith, common_steps)

pub returns-in-Err-Count-clause-refused : goal.returns-in-Err-Count-clause-refused
returns-in-Err-Count-clause-refused g c = grind arith

pub returns-in-Err-Range-clause-refused : goal.returns-in-Err-Range-clause-refused
returns-in-Err-Range-clause-refused g c = grind arith
