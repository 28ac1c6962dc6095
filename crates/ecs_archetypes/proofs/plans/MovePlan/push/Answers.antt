-- The count of the table has risen with the move.
use Rattle.std.proofs.Common.{◌≡◌, ◌≤◌, ◌+◌, ◌++◌, ◌∷◌, [], length, rules, subst, sym}
use Rattle.ecs_archetypes.specs.Moves.{moves_to}
use Rattle.ecs_archetypes.specs.Plans.{AreCounted}
use Rattle.ecs_archetypes.proofs.MoveCounts.{counted_more}
use Rattle.ecs_archetypes.proofs.plans.MovePlan.push.Goals as goal

pub invariant_of-self-2 : goal.invariant_of-self-2
invariant_of-self-2 g c =
    let items : c.push.new.self.items ≡ c.self.inside.moves.items ++ c.args.one ∷ [] = search rules in
    subst (λ ms. AreCounted ms c.insert.new.self) (sym items)
    (counted_more c.self.inside.moves.items c.args.one c.self.inside.counts c.insert.new.self c.self.invariant c.rows_with_one_more-count.result c.in-Ok-insert.ensures.updates
    (λ q same. subst (λ ms. moves_to q ms + 1 ≤ c.rows_with_one_more-count.result) (sym c.self.view_is) (c.rows_with_one_more-count.ensures.enough q same))
    (subst (λ ms. c.rows_with_one_more-count.result ≤ length ms + 1) (sym c.self.view_is) c.rows_with_one_more-count.ensures.few))
