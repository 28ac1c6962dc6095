use Rattle.std.proofs.Common.{◌≡◌, ◌⊎◌, ◌≤◌, sym, subst, inl, inr}
use Rattle.ecs_model.specs.Links.{is_reflexive}
use Rattle.ecs_model.specs.World.{ids_of}
use Rattle.world_facts.specs.Shown.{Shown}
use Rattle.world_facts.proofs.WorldReads.{outside_apart, outside_same, world_links}
use Rattle.world_facts.proofs.WorldFactsFacts.reaches.Goals as goal

pub returns-then-source-target-clause-reaches : goal.returns-then-source-target-clause-reaches
returns-then-source-target-clause-reaches g c =
    let size = (c.self.inside.links).size in
    let outside : (size ≤ c.args.source) ⊎ (size ≤ c.args.target) =
    elim c.else-source-size.either [ inl w ↦ inr (rw (← c.size-size.ensures.size) w.1) | inr w ↦ inl (rw (← c.size-size.ensures.size) w) ] in
    let held : c.has.result ≡ is_reflexive (ids_of (c.self.inside.world.now).state) c.args.relationship =
    subst (λ (s : Shown). c.has.result ≡ is_reflexive (ids_of (s.world).state) c.args.relationship) (sym c.self.view_is) (rw c.plain.ensures at c.has.ensures) in
    rw (← c.self.view_is) (outside_same (world_links c.self.invariant.0.sees c.size-size.ensures.links) c.args.relationship c.args.source c.args.target c.has.result outside c.if-source-target.true held)

pub returns-else-source-target-clause-reaches : goal.returns-else-source-target-clause-reaches
returns-else-source-target-clause-reaches g c =
    let size = (c.self.inside.links).size in
    let outside : (size ≤ c.args.source) ⊎ (size ≤ c.args.target) =
    elim c.else-source-size.either [ inl w ↦ inr (rw (← c.size-size.ensures.size) w.1) | inr w ↦ inl (rw (← c.size-size.ensures.size) w) ] in
    rw (← c.self.view_is) (outside_apart (world_links c.self.invariant.0.sees c.size-size.ensures.links) c.args.relationship c.args.source c.args.target outside c.if-source-target.false)
