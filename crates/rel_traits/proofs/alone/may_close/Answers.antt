use Rattle.std.proofs.Common.{◌≡◌, ◌∙◌, ℕ, Some, rules, ap, sym, subst, arith}
use Rattle.std.specs.List.{Contains}
use Rattle.ecs_id.specs.Id.{first_of, second_of}
use Rattle.ecs_model.specs.Links.{upward}
use Rattle.rel_traits.proofs.LoneFacts.{may_have_cycles, nobody_leads}
use Rattle.rel_traits.proofs.alone.may_close.Goals as goal

pub returns-else-target-entity : goal.returns-else-target-entity
returns-else-target-entity g c nobody closes =
    let ids = g.G.Graph.ids c.args.graph.now in
    let k = c.args.fact in
    let target : second_of k.1 ≡ Some c.in-Some.target = search rules in
    let apart : ¬ (c.in-Some.target ≡ k.0) = search rules in
    let first : c.first.result ≡ first_of k.1 = c.first.ensures.value ∙ ap first_of c.id-id.ensures in
    let none = subst (λ r. (y : ℕ) → ¬ (Contains (upward ids r y) c.entity-else-target-entity.result)) first (c.may_be_target.ensures nobody) in
    nobody_leads ids k c.in-Some.target target apart (subst (λ e. (y : ℕ) → ¬ (Contains (upward ids (first_of k.1) y) e)) c.entity-else-target-entity.ensures none) closes

pub returns-else-contains : goal.returns-else-contains
returns-else-contains g c none closes = may_have_cycles (g.G.Graph.ids c.args.graph.now) c.args.fact (sym (c.contains.ensures tt ∙ c.requires 4 (omega arith)) ∙ c.if-contains.false) closes
