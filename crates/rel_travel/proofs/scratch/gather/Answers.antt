use Rattle.std.proofs.Common.{ℕ, List, ap, subst}
use Rattle.ecs_model.specs.Reach.{IsLeast}
use Rattle.rel_travel.proofs.scratch.gather.Goals as goal

pub returns-clause-least : goal.returns-clause-least
returns-clause-least g c =
    let P : List ℕ → Type 0 = λ start. IsLeast (g.R.Rule.next c.args.rule.now) start c.gather_found.new.found.items in
    subst P (ap (λ s. s.found) c.scratch.view_is) c.gather_found.ensures.least
