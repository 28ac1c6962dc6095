use Rattle.std.proofs.Common.{ap, sym, ◌∙◌}
use Rattle.std.specs.Option.{option_copied}
use Rattle.ecs_world.proofs.SeenGraph.{these_there, no_ids_there, none_there}
use Rattle.ecs_world.proofs.States.{ids_told}
use Rattle.ecs_world.proofs.Standings.{state_is}
use Rattle.ecs_world.proofs.World.ids_at.Goals as goal

pub returns-in-Some-ids_of : goal.returns-in-Some-ids_of
returns-in-Some-ids_of g c =
    rw (← state_is c.self.view_is) (these_there c.self.invariant c.args.index c.in-Some.entity c.in-Some-ids_of.ids.now (sym c.in-Some.is ∙ c.at.ensures) (sym (ap (λ o. option_copied o) c.in-Some-ids_of.is) ∙ c.ids_of.ensures ∙ ids_told c.self.invariant c.in-Some.entity))

pub returns-in-None : goal.returns-in-None
returns-in-None g c =
    rw (← state_is c.self.view_is) (no_ids_there c.self.invariant c.args.index c.in-Some.entity (sym c.in-Some.is ∙ c.at.ensures) (sym (ap (λ o. option_copied o) c.in-None.is) ∙ c.ids_of.ensures ∙ ids_told c.self.invariant c.in-Some.entity))

pub returns-in_default : goal.returns-in_default
returns-in_default g c = rw (← state_is c.self.view_is) (none_there c.self.invariant c.args.index (sym c.in_default.is ∙ c.at.ensures))
