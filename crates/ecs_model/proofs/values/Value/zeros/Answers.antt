-- A prefix of eight zeros is zeros.
use Rattle.std.proofs.lemmas.List.{take-replicate}
use Rattle.std.proofs.Common.{refl, pos}
use Rattle.std.proofs.lemmas.List.{drop-replicate}
use Rattle.ecs_model.proofs.values.Value.zeros.Goals as goal

pub invariant_of-result : goal.invariant_of-result
invariant_of-result c = (c.requires, refl, drop-replicate c.args.count 8 (pos 0))

pub returns : goal.returns
returns c = take-replicate c.args.count 8 (pos 0) c.requires
