use Rattle.std.proofs.Common.{◌≡◌, drop}
use Rattle.std.specs.Prelude.{◌&&◌, ◌||◌, not}
use Rattle.std.specs.List.{list_any}
use Rattle.id_pattern.specs.Patterns.{matches}
use Rattle.watch_asked.proofs.asked_query.of_terms.Given as goal

abbrev pub invariant-loop-term : goal.invariant-loop-term
invariant-loop-term l = record {
  anyone : (l.found.anyone || list_any (λ a. matches a.asked l.id) (drop l.term-index l.terms)) ≡ list_any (λ a. matches a.asked l.id) l.terms;
  others : (l.found.others || list_any (λ a. not a.this && matches a.asked l.id) (drop l.term-index l.terms)) ≡ list_any (λ a. not a.this && matches a.asked l.id) l.terms;
  below : (l.found.below || list_any (λ a. a.below && matches a.asked l.id) (drop l.term-index l.terms)) ≡ list_any (λ a. a.below && matches a.asked l.id) l.terms;
}
