use Rattle.std.proofs.Common.{◌≡◌, ◌∙◌, ℕ, Some, false, true≢false, rules, sym, ap, subst}
use Rattle.std.specs.List.{Contains}
use Rattle.ecs_id.specs.Id.{first_of, second_of}
use Rattle.ecs_model.specs.Links.{upward}
use Rattle.rel_traits.proofs.CycleClosers.{nobody_closes}
use Rattle.rel_traits.proofs.cycles.closes.Goals as goal

pub returns-then-not-may_be_target-clause-answer : goal.returns-then-not-may_be_target-clause-answer
returns-then-not-may_be_target-clause-answer g c =
    let k = c.args.fact in
    let own : k.0 ≡ c.args.entity = search rules in
    let target : second_of k.1 ≡ Some c.in-Some.target = search rules in
    let apart : ¬ (c.in-Some.target ≡ c.args.entity) = search rules in
    let nobody : c.may_be_target.result ≡ false = search rules in
    let first : c.first-then-target-entity.result ≡ first_of k.1 = c.first-then-target-entity.ensures.value ∙ ap first_of c.id-id.ensures in
    let none = subst (λ r. (y : ℕ) → ¬ (Contains (upward (g.G.Graph.ids c.args.graph.now) r y) c.args.entity)) first (c.may_be_target.ensures nobody) in
    (λ h. absurd (true≢false (sym h)), λ closes. absurd (nobody_closes (g.G.Graph.ids c.args.graph.now) c.args.entity k c.in-Some.target own target apart none closes))
