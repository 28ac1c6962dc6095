use Rattle.std.proofs.Common.{◌≡◌, drop}
use Rattle.std.specs.Prelude.{map}
use Rattle.std.specs.List.{list_any}
use Rattle.id_pattern.specs.Patterns.{matches}
use Rattle.watch_asked.proofs.asked_id.is_among_facts.Given as goal

abbrev pub invariant-loop-fact : goal.invariant-loop-fact
invariant-loop-fact l = list_any (matches l.asked) (map (λ k. k.1) l.facts) ≡ list_any (matches l.asked) (map (λ k. k.1) (drop l.fact-index l.facts))
