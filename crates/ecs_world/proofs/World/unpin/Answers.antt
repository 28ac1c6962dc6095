use Rattle.std.proofs.Common.{sym, ap, ◌∙◌}
use Rattle.ecs_model.specs.steps.Pins.{one_less}
use Rattle.ecs_world.proofs.PinChanges.{counts_left, covers_alive, told_unpin, unpin_dead}
use Rattle.ecs_world.proofs.Standings.{state_is}
use Rattle.ecs_world.proofs.World.unpin.Goals as goal

pub returns-then-not-is_alive-clause-state : goal.returns-then-not-is_alive-clause-state
returns-then-not-is_alive-clause-state g c = sym (unpin_dead c.args.self.now.state c.args.entity (sym c.is_alive.ensures ∙ c.if-not-is_alive.true))

pub set_count-requires : goal.set_count-requires
set_count-requires g c = record { covered = covers_alive c.self.invariant (state_is c.self.view_is) c.args.entity (sym c.is_alive.ensures ∙ c.if-not-is_alive.false) }

pub invariant_of-self : goal.invariant_of-self
invariant_of-self g c =
    let alive = sym c.is_alive.ensures ∙ c.if-not-is_alive.false in
    (counts_left c.self.invariant (state_is c.self.view_is) c.args.entity alive c.set_count.new.self c.one_less-count.result c.one_less-count.type_inv c.set_count.ensures.entries c.set_count.ensures.reach).0

pub returns-clause-state : goal.returns-clause-state
returns-clause-state g c =
    let alive = sym c.is_alive.ensures ∙ c.if-not-is_alive.false in
    told_unpin c.args.self.now.state _ c.args.entity c.one_less-count.result alive
    (counts_left c.self.invariant (state_is c.self.view_is) c.args.entity alive c.set_count.new.self c.one_less-count.result c.one_less-count.type_inv c.set_count.ensures.entries c.set_count.ensures.reach).1
    (c.one_less-count.ensures ∙ ap one_less c.pin_count.ensures)
