use Rattle.std.proofs.Common.{◌≡◌, ◌==◌, ◌&&◌, ◌||◌, ◌*◌, ◌<◌, ℕ, length, not, take}
use Rattle.std.specs.List.{list_any}
use Rattle.ecs_model.specs.BitWords.{has_bit}
use Rattle.entity_set.proofs.bits.exchange_in.Given as goal

abbrev pub invariant-loop-number : goal.invariant-loop-number
invariant-loop-number l = record {
  long : length l.words ≡ length l.fn.words;
  has : (e : ℕ) → has_bit l.words e ≡ (has_bit l.fn.words e && not (list_any (λ x. x == e) (take l.number-index l.left)));
}

abbrev pub invariant-loop-number-2 : goal.invariant-loop-number-2
invariant-loop-number-2 l = record {
  long : length l.words ≡ length l.fn.words;
  has : (e : ℕ) → e < 64 * length l.fn.words → has_bit l.words e ≡ ((has_bit l.fn.words e && not (list_any (λ x. x == e) l.left)) || list_any (λ x. x == e) (take l.number-index l.entered));
}
