use Rattle.std.proofs.Common.{◌≡◌, ◌++◌, take}
use Rattle.ecs_model.specs.Added.{others_of}
use Rattle.rel_traits.proofs.replaced.push_others.Given as goal

abbrev pub invariant-loop-id : goal.invariant-loop-id
invariant-loop-id g l = l.facts.items ≡ l.initial.facts.items ++ others_of l.is_symmetric l.entity l.relationship l.target (take l.id-index l.ids)
