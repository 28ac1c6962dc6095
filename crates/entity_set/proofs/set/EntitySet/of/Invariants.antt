use Rattle.std.proofs.Common.{◌≡◌, ◌==◌, ℕ, ◌≤◌, length, take}
use Rattle.std.specs.List.{list_any}
use Rattle.ecs_model.specs.BitWords.{has_bit}
use Rattle.entity_set.proofs.set.EntitySet.of.Given as goal

abbrev pub invariant-loop-entity : goal.invariant-loop-entity
invariant-loop-entity g l = record {
  few : length l.words.items ≤ 67108864;
  has : (e : ℕ) → has_bit l.words.items e ≡ list_any (λ x. x == e) (take l.entity-index l.entities);
}
