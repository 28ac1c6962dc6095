use Rattle.std.proofs.Common.{refl, sym, ap, ◌∙◌}
use Rattle.ecs_model.specs.steps.Pins.{one_more}
use Rattle.ecs_world.proofs.PinChanges.{counts_left, covers_alive, pin_dead, told_pin}
use Rattle.ecs_world.proofs.Standings.{state_is}
use Rattle.ecs_world.proofs.World.pin.Goals as goal

pub returns-then-not-is_alive-clause-answers : goal.returns-then-not-is_alive-clause-answers
returns-then-not-is_alive-clause-answers g c = (pin_dead c.args.self.now.state c.args.entity (sym c.is_alive.ensures ∙ c.if-not-is_alive.true), refl)

pub set_count-requires : goal.set_count-requires
set_count-requires g c = record { covered = covers_alive c.self.invariant (state_is c.self.view_is) c.args.entity (sym c.is_alive.ensures ∙ c.if-not-is_alive.false) }

pub invariant_of-self : goal.invariant_of-self
invariant_of-self g c =
    let alive = sym c.is_alive.ensures ∙ c.if-not-is_alive.false in
    (counts_left c.self.invariant (state_is c.self.view_is) c.args.entity alive c.set_count.new.self c.one_more-count.result c.one_more-count.type_inv c.set_count.ensures.entries c.set_count.ensures.reach).0

pub returns-clause-answers : goal.returns-clause-answers
returns-clause-answers g c =
    let alive = sym c.is_alive.ensures ∙ c.if-not-is_alive.false in
    told_pin c.args.self.now.state _ c.args.entity c.one_more-count.result alive
    (counts_left c.self.invariant (state_is c.self.view_is) c.args.entity alive c.set_count.new.self c.one_more-count.result c.one_more-count.type_inv c.set_count.ensures.entries c.set_count.ensures.reach).1
    (c.one_more-count.ensures ∙ ap one_more c.pin_count.ensures)
