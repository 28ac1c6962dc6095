use Rattle.std.proofs.Common.{ap, Some, ◌∙◌}
use Rattle.ecs_world.proofs.States.{none_told, size_told, tag_told, value_told}
use Rattle.ecs_world.proofs.Standings.{state_is}
use Rattle.ecs_world.proofs.World.value.Goals as goal

pub returns-in_err-bytes : goal.returns-in_err-bytes
returns-in_err-bytes g c =
    rw (← state_is c.self.view_is) (c.from_residual.ensures ∙ none_told c.self.invariant c.args.index c.args.id c.in_err-bytes.ensures)

pub decoded-requires : goal.decoded-requires
decoded-requires g c =
    size_told c.self.invariant c.args.index c.args.id c.in_ok-bytes.bytes.now c.in-Some.schema.now c.in_ok-bytes.ensures (rw (state_is c.self.view_is) c.in-Some.ensures)

pub returns-in-None : goal.returns-in-None
returns-in-None g c =
    rw (← state_is c.self.view_is) (ap Some c.zeros.ensures ∙ tag_told c.self.invariant c.args.index c.args.id c.in_ok-bytes.bytes.now c.in_ok-bytes.ensures (rw (state_is c.self.view_is) c.in-None.ensures))

pub returns-in-Some : goal.returns-in-Some
returns-in-Some g c =
    rw (← state_is c.self.view_is) (ap Some c.decoded.ensures ∙ value_told c.self.invariant c.args.index c.args.id c.in_ok-bytes.bytes.now c.in-Some.schema.now c.in_ok-bytes.ensures (rw (state_is c.self.view_is) c.in-Some.ensures))
