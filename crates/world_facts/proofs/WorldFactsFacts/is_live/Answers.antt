use Rattle.std.proofs.Common.{ℕ, ap, is_some, ◌∙◌}
use Rattle.ecs_id.specs.declared.EntityId.{EntityId}
use Rattle.world_facts.proofs.WorldReads.{live_read}
use Rattle.world_facts.proofs.WorldFactsFacts.is_live.Goals as goal

pub returns : goal.returns
returns g c =
    rw (← c.self.view_is)
    (c.is_some.ensures ∙ ap is_some c.at.ensures ∙ live_read ((c.self.inside.world.now).state).live (λ (n : ℕ). let e : EntityId = record { index = c.args.index; generation = n } in e) c.args.index)
