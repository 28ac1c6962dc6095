use Rattle.std.proofs.Common.{◌≡◌, ◌==◌, take}
use Rattle.std.specs.List.{count_by}
use Rattle.rel_traits.proofs.refused_addition.count_of.Given as goal

abbrev pub invariant-loop-fact : goal.invariant-loop-fact
invariant-loop-fact l = l.count ≡ count_by (λ k. k.0 == l.entity) (take l.fact-index l.facts)
