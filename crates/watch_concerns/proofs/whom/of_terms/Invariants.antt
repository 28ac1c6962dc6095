use Rattle.std.proofs.Common.{◌≡◌, drop}
use Rattle.std.specs.Prelude.{◌||◌}
use Rattle.std.specs.List.{list_any}
use Rattle.watch_concerns.specs.Concerns.{term_concerns}
use Rattle.watch_concerns.specs.Others.{term_concerns_below, term_concerns_others}
use Rattle.watch_concerns.proofs.whom.of_terms.Given as goal

abbrev pub invariant-loop-term : goal.invariant-loop-term
invariant-loop-term l = record {
  anyone : (l.found.anyone || list_any (term_concerns l.id) (drop l.term-index l.terms)) ≡ list_any (term_concerns l.id) l.terms;
  others : (l.found.others || list_any (term_concerns_others l.id) (drop l.term-index l.terms)) ≡ list_any (term_concerns_others l.id) l.terms;
  below : (l.found.below || list_any (term_concerns_below l.id) (drop l.term-index l.terms)) ≡ list_any (term_concerns_below l.id) l.terms;
}
