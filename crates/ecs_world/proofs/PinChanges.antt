-- What one stored query more or less leaves that mentions an entity.
use Rattle.std.proofs.Common.{◌≡◌, ℕ, ◌^◌, ◌<◌, ◌≤◌, true, false, Ok, Err, if◌then◌else◌, sym, ap, subst, ◌∙◌, arith}
use Rattle.std.specs.Ordering.{nat_cmp}
use Rattle.ecs_id.specs.declared.EntityId.{EntityId}
use Rattle.ecs_model.specs.declared.faults.Refusal.TheVariants.{Dead}
use Rattle.ecs_model.specs.steps.WellFormed.{IsWellFormed}
use Rattle.ecs_model.specs.Map.{count_at, value_at}
use Rattle.ecs_model.specs.World.{WorldState, is_alive, is_live}
use Rattle.ecs_model.specs.steps.Pins.{one_less, one_more, pin, unpin, with_count, with_pins}
use Rattle.ecs_model.proofs.MadeEntities.{there}
use Rattle.ecs_model.proofs.steps.PinCounts.{count_keeps}
use Rattle.rel_traits.specs.PinCounts.{Counts}
use Rattle.ecs_world.specs.State.{IsWorld, Parts, parts_of, state_of}

-- what other counts leave of a world
module _ {parts : Parts} (world : IsWorld parts) {v : WorldState} (is : state_of parts ≡ v) where
  -- the counts of more indexes can change
  pub further : (pins' : Counts) → pins'.entries ≡ (parts.pins).entries → (parts.pins).reach ≤ pins'.reach
      → IsWorld (parts_of parts.holdings parts.names parts.schemas pins' parts.accepted) × (state_of (parts_of parts.holdings parts.names parts.schemas pins' parts.accepted) ≡ v)
  further pins' same more = (
    record {
      whole = world.whole;
      sound = subst (λ m. IsWellFormed (record (state_of parts) { pins = m })) (sym same) world.sound;
      settled = world.settled;
      known = world.known;
      named = world.named;
      one_to_one = world.one_to_one;
      covered = λ i l. let before = world.covered i l in omega (arith, before, more);
    },
    (λ k. record (state_of parts) { pins = same k }) ∙ is,
  )

  module _ (e : EntityId) (alive : is_alive v e ≡ true) where
    alive_there : is_live (state_of parts) e.index ≡ true
    alive_there = there (value_at nat_cmp (state_of parts).live e.index) e.generation (ap (λ u. is_alive u e) is ∙ alive)

    -- its count can change
    pub covers_alive : e.index < (parts.pins).reach
    covers_alive = world.covered e.index alive_there

    -- the counts with this one
    pub counts_left : (pins' : Counts) (n : ℕ) → n < 2 ^ 64 → pins'.entries ≡ with_count (parts.pins).entries e.index n → pins'.reach ≡ (parts.pins).reach
        → IsWorld (parts_of parts.holdings parts.names parts.schemas pins' parts.accepted)
        × (state_of (parts_of parts.holdings parts.names parts.schemas pins' parts.accepted) ≡ record v { pins = with_count v.pins e.index n })
    counts_left pins' n small counts reach = (
      record {
        whole = world.whole;
        sound = subst (λ m. IsWellFormed (record (state_of parts) { pins = m })) (sym counts) (count_keeps (state_of parts) world.sound e.index n alive_there small);
        settled = world.settled;
        known = world.known;
        named = world.named;
        one_to_one = world.one_to_one;
        covered = λ i l. subst (λ r. i < r) (sym reach) (world.covered i l);
      },
      (λ k. record (is k) { pins = counts k }) ∙ (λ k. record v { pins = with_count (is k).pins e.index n }),
    )

pub pin_alive : (w : WorldState) (e : EntityId) → is_alive w e ≡ true → pin w e ≡ Ok (with_pins w one_more e.index)
unfolding pin
pin_alive w e alive = ap (λ b. if b then Ok (with_pins w one_more e.index) else Err Dead) alive

pub pin_dead : (w : WorldState) (e : EntityId) → is_alive w e ≡ false → pin w e ≡ Err Dead
unfolding pin
pin_dead w e dead = ap (λ b. if b then Ok (with_pins w one_more e.index) else Err Dead) dead

pub unpin_alive : (w : WorldState) (e : EntityId) → is_alive w e ≡ true → unpin w e ≡ with_pins w one_less e.index
unfolding unpin
unpin_alive w e alive = ap (λ b. if b then with_pins w one_less e.index else w) alive

pub unpin_dead : (w : WorldState) (e : EntityId) → is_alive w e ≡ false → unpin w e ≡ w
unfolding unpin
unpin_dead w e dead = ap (λ b. if b then with_pins w one_less e.index else w) dead

-- the state with the new count is the one that the definition says
pub told_pin : (w u : WorldState) (e : EntityId) (n : ℕ) → is_alive w e ≡ true → u ≡ record w { pins = with_count w.pins e.index n } → n ≡ one_more (count_at w.pins e.index) → pin w e ≡ Ok u
told_pin w u e n alive left counted = pin_alive w e alive ∙ ap Ok (sym (left ∙ ap (λ n. record w { pins = with_count w.pins e.index n }) counted))

pub told_unpin : (w u : WorldState) (e : EntityId) (n : ℕ) → is_alive w e ≡ true → u ≡ record w { pins = with_count w.pins e.index n } → n ≡ one_less (count_at w.pins e.index) → u ≡ unpin w e
told_unpin w u e n alive left counted = left ∙ ap (λ n. record w { pins = with_count w.pins e.index n }) counted ∙ sym (unpin_alive w e alive)
