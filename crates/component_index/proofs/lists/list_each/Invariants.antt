use Rattle.std.proofs.Common.{◌&&◌, not}
use Rattle.id_pattern.specs.Patterns.{matches_some}
use Rattle.id_pattern.specs.SamePattern.{pattern_eq}
use Rattle.component_index.specs.Listed.{Adds, IsNewest}
use Rattle.component_index.proofs.ListedLemmas.{of_first}
use Rattle.component_index.proofs.lists.list_each.Given as goal

abbrev pub invariant-loop-pattern : goal.invariant-loop-pattern
invariant-loop-pattern g l = Adds l.initial.lists l.lists (of_first (λ one p. pattern_eq one p && not (matches_some p l.before)) l.patterns l.pattern-index) l.key
    × IsNewest l.lists l.key
