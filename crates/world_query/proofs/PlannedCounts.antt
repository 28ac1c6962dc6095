-- The tables that the planner counted in a world are as many as a run reads there, so the plan is led by a list that is the shortest of those that the run reads.
use Rattle.std.proofs.Common.{◌≡◌, ℕ, List, [], ◌∷◌, length, flat_map, refl, sym, ap, ◌∙◌, subst}
use Rattle.id_pattern.specs.declared.Pattern.{Pattern}
use Rattle.ecs_model.specs.rows.View.{view_of}
use Rattle.ecs_world.specs.Standing.{Standing}
use Rattle.plan_steps.specs.Reading.{Reading}
use Rattle.query_meaning.specs.Names.{AreNamesLive}
use Rattle.query_model.specs.Query.{Item, must, may, either, equal, differ, Piece, item, opening, closing, Query}
use Rattle.query_plan.specs.Plans.{IsPlanned}
use Rattle.world_facts.specs.Shown.{reading_of}
use Rattle.world_facts.proofs.Lists.{same_lengths}
use Rattle.world_query.specs.Answerable.{searched_pattern, table_counts, tables_of_item, tables_of_piece}
use Rattle.world_query.specs.Probes.{FactsCountAlike, PlannedQueriesStayWithin}
use Rattle.world_query.proofs.Probes.{simple_queries_stay_within}

module _ (v u : Reading) (same : (p : Pattern) → length (v.listed p) ≡ length (u.listed p)) where
  same_item : (i : Item) → tables_of_item v i ≡ tables_of_item u i
  same_item (must t) = same (searched_pattern t)
  same_item (may t) = refl
  same_item (either ts) = refl
  same_item (equal w r) = refl
  same_item (differ w r) = refl

  same_piece : (p : Piece) → tables_of_piece v p ≡ tables_of_piece u p
  same_piece (item i) = ap (λ n. n ∷ []) (same_item i)
  same_piece (opening from_term own) = refl
  same_piece closing = refl

  same_counts : (q : Query) → table_counts v q ≡ table_counts u q
  same_counts q = λ k. flat_map (λ p. same_piece p k) q.pieces

pub facts_count_alike : FactsCountAlike
facts_count_alike s t q same listed lists = same_counts (reading_of s) (reading_of t) (same_lengths s t same listed lists) q

pub planned_queries_stay_within : PlannedQueriesStayWithin
planned_queries_stay_within w q p s limit planned same lists fact names simple terms judges =
    let v = reading_of s in
    let counts : table_counts (reading_of planned.shown) q ≡ table_counts v q = facts_count_alike planned.shown s q (planned.world ∙ sym same) planned.lists lists in
    let by_these = subst (λ (lists : List ℕ). IsPlanned q lists p.steps) counts planned.planned in
    let live : AreNamesLive v.view q = subst (λ (x : Standing). AreNamesLive (view_of x.state) q) (sym same) names in
    simple_queries_stay_within v q p.steps limit fact live simple terms by_these judges
