use Rattle.std.proofs.Common.{◌≡◌, true}
use Rattle.id_pattern.specs.declared.Pattern.{Pattern}
use Rattle.component_index.specs.Listed.{Adds, IsNewest}
use Rattle.id_pattern.specs.Patterns.{matches, matches_some}
use Rattle.component_index.proofs.ListedLemmas.{of_first}
use Rattle.component_index.proofs.lists.list_all.Given as goal

abbrev pub invariant-loop-id : goal.invariant-loop-id
invariant-loop-id g l = Adds l.initial.lists l.lists (of_first (λ id pattern. matches pattern id) l.ids l.id-index) l.key
    × ((p : Pattern) → matches_some p l.before ≡ true → of_first (λ id pattern. matches pattern id) l.ids l.id-index p ≡ true)
    × IsNewest l.lists l.key
