use Rattle.std.proofs.Common.{◌≡◌, ◌++◌, take}
use Rattle.std.specs.Prelude.{map}
use Rattle.ecs_model.specs.Added.{with_first}
use Rattle.rel_traits.proofs.closure.push_all.Given as goal

abbrev pub invariant-loop-first : goal.invariant-loop-first
invariant-loop-first g l = l.facts.items ≡ l.initial.facts.items ++ map (λ c. (l.fact.0, with_first c l.fact.1)) (take l.first-index l.firsts)
