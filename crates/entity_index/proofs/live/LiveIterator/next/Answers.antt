-- One slot on.
use Rattle.std.proofs.Common.{arith, ◌∙◌}
use Rattle.entity_index.proofs.LiveSlots.{IsRest-tail, IsRest-head, live_from-dead}
use Rattle.entity_index.proofs.live.LiveIterator.next.Goals as goal

pub overflow_cast-result : goal.overflow_cast-result
overflow_cast-result c = omega (arith, IsRest-head c.loop-slot.self-inside.index c.loop-slot.self-inside.rest.now c.in-Some.slot.now c.in-Some.rest.now c.loop-slot.invariant.0 c.in-Some.ensures.cases.0 c.if-slot.true)

pub invariant_of-self : goal.invariant_of-self
invariant_of-self c = IsRest-tail c.loop-slot.self-inside.index c.loop-slot.self-inside.rest.now c.in-Some.slot.now c.in-Some.rest.now c.loop-slot.invariant.0 c.in-Some.ensures.cases.0

pub loop-slot-preserved : goal.loop-slot-preserved
loop-slot-preserved c = (
  IsRest-tail c.loop-slot.self-inside.index c.loop-slot.self-inside.rest.now c.in-Some.slot.now c.in-Some.rest.now c.loop-slot.invariant.0 c.in-Some.ensures.cases.0,
  live_from-dead c.loop-slot.self-inside.index c.loop-slot.self-inside.rest.now c.in-Some.slot.now c.in-Some.rest.now c.in-Some.ensures.cases.0 c.if-slot.false ∙ c.loop-slot.invariant.1,
)
