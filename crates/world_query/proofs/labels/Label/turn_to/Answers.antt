-- An id that doesn't differ from the label's is its id.
use Rattle.std.proofs.Common.{ap, subst, sym, ◌∙◌}
use Rattle.std.specs.Prelude.{Some, IfSome}
use Rattle.ecs_id.specs.Id.{id_eq_same}
use Rattle.world_query.specs.Lines.{IsLabelOf}
use Rattle.world_query.proofs.labels.Label.turn_to.Goals as goal

pub returns-then-eq-clause-id : goal.returns-then-eq-clause-id
returns-then-eq-clause-id g c = c.in-Some.is ∙ ap Some (id_eq_same c.in-Some.last c.args.id (sym c.eq.ensures ∙ c.if-eq.true))

pub returns-then-eq-clause-label : goal.returns-then-eq-clause-label
returns-then-eq-clause-label g c =
    subst (λ o. IfSome o (IsLabelOf c.args.world.now.state c.args.self.now)) (returns-then-eq-clause-id g c) c.requires
