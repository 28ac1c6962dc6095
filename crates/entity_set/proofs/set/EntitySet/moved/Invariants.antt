use Rattle.std.proofs.Common.{◌≡◌, ◌==◌, ◌&&◌, ◌||◌, ℕ, ◌≤◌, length, not, take}
use Rattle.std.specs.List.{list_any}
use Rattle.ecs_model.specs.BitWords.{has_bit}
use Rattle.entity_set.proofs.set.EntitySet.moved.Given as goal

abbrev pub invariant-loop-entity : goal.invariant-loop-entity
invariant-loop-entity g l = record {
  few : length l.words.items ≤ 67108864;
  has : (e : ℕ) → has_bit l.words.items e ≡ (list_any (λ x. x == e) l.self.items && not (list_any (λ x. x == e) (take l.entity-index l.left)));
}

abbrev pub invariant-loop-entity-2 : goal.invariant-loop-entity-2
invariant-loop-entity-2 g l = record {
  few : length l.words.items ≤ 67108864;
  has : (e : ℕ) → has_bit l.words.items e ≡ ((list_any (λ x. x == e) l.self.items && not (list_any (λ x. x == e) l.left)) || list_any (λ x. x == e) (take l.entity-index l.entered));
}
