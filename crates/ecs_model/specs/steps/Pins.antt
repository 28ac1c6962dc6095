-- How many stored queries mention an entity.
use Rattle.std.specs.Prelude.{ℕ, zero, suc, ◌+◌, ◌-◌, ◌^◌, ◌==◌, Result, Ok, Err, if◌then◌else◌}
use Rattle.std.specs.Ordering.{nat_cmp}
use Rattle.ecs_id.specs.declared.EntityId.{EntityId}
use Rattle.ecs_model.specs.declared.faults.Refusal.{Refusal}
use Rattle.ecs_model.specs.declared.faults.Refusal.TheVariants.{Dead}
use Rattle.ecs_model.specs.Map.{Map, with_value, without, count_at}
use Rattle.ecs_model.specs.World.{WorldState, is_alive}

-- the greatest count, which stays for good
abbrev pub most_pins : ℕ
most_pins = 2 ^ 64 - 1

-- the counts with this one at a number; no count of 0 is kept
abbrev pub with_count : Map ℕ ℕ → ℕ → ℕ → Map ℕ ℕ
with_count m i zero = without nat_cmp m (λ j. j == i)
with_count m i (suc n) = with_value nat_cmp m i (suc n)

-- the count after one more query
abbrev pub one_more : ℕ → ℕ
one_more n = if n == most_pins then n else n + 1

-- the count after one query less: none is left of none
abbrev pub one_less : ℕ → ℕ
one_less n = if n == most_pins then n else n - 1

module _ (w : WorldState) where
  abbrev pub with_pins : (ℕ → ℕ) → ℕ → WorldState
  with_pins change i = record w { pins = with_count w.pins i (change (count_at w.pins i)) }

  -- one more stored query mentions the entity: refused of a dead one
  unfoldable pub pin : EntityId → Result WorldState Refusal
  pin e = if is_alive w e then Ok (with_pins one_more e.index) else Err Dead

  -- one stored query less mentions it: nothing changes where none does
  unfoldable pub unpin : EntityId → WorldState
  unpin e = if is_alive w e then with_pins one_less e.index else w
