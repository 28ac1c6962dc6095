use Rattle.std.proofs.Common.{ap, ◌∙◌, arith}
use Rattle.ecs_world.specs.State.{listed}
use Rattle.ecs_world.proofs.DeathLists.{few_listed}
use Rattle.ecs_world.proofs.deletion.only_of.Goals as goal

pub returns : goal.returns
returns c = ap (λ o. listed o) (c.copied.ensures ∙ c.first.ensures.value) ∙ few_listed c.args.facts.now (omega arith)
