-- The entities of a query's rows depend on the ids that concern it, and on who lives.
use Rattle.std.proofs.Common.{◌≡◌, ℕ, Bool, true, false, List, [], ◌∷◌, refl, sym, ap, ◌∙◌}
use Rattle.std.specs.Prelude.{◌==◌, ◌&&◌, ◌||◌, filter, flat_map, map, not, take}
use Rattle.std.specs.List.{list_any}
use Rattle.std.specs.Option.{option_map_or}
use Rattle.std.specs.Ordering.{nat_cmp}
use Rattle.std.proofs.lemmas.List.Folds.{list_any-append}
use Rattle.ecs_id.specs.Id.{plain}
use Rattle.query_meaning.proofs.OrderedAssignments.{any-ordered}
use Rattle.ecs_model.specs.BuiltIns.{transitive, reflexive}
use Rattle.ecs_model.specs.Map.{value_at}
use Rattle.ecs_model.specs.rows.Level.{top}
use Rattle.ecs_model.specs.rows.Rows.{Assignment, Field, assignments, candidates, level_mentions, passes_over, row_of, rows, rows_under, solutions, visible}
use Rattle.ecs_model.specs.rows.View.{View}
use Rattle.ecs_model.specs.stored.Watches.{is_this, matching}
use Rattle.ecs_model.specs.steps.Rules.{prefab, disabled}
use Rattle.query_model.specs.Query.{Query}
use Rattle.watch_concerns.specs.Concerns.{concerns}
use Rattle.watch_concerns.specs.Laws.{AreAlikeFor, MatchByWhatConcerns}
use Rattle.query_meaning.proofs.Choices.{some}
use Rattle.watch_concerns.proofs.CoveredTerms.{asked_by_all, top_covered}
use Rattle.watch_concerns.proofs.LevelAgreement.{level_same}
use Rattle.watch_concerns.proofs.ReachAgreement.{HoldAlike, agree_alive, held_same}

-- whether an entity is the first that an assignment has
abbrev pub is_first_of : ℕ → Assignment → Bool
is_first_of e a = list_any (λ x. x == e) (take 1 (map (λ u. u.1) a))

pub this_of_rows : (e : ℕ) (a : Assignment) (fs : List (List Field)) → list_any (is_this e) (map (row_of a) fs) ≡ (is_first_of e a && some fs)
this_of_rows e a [] = none (is_first_of e a)
  where
    none : (b : Bool) → false ≡ (b && false)
    none true = refl
    none false = refl
this_of_rows e a (f ∷ fs) = ap (λ b. is_first_of e a || b) (this_of_rows e a fs) ∙ by (is_first_of e a) (some fs)
  where
    by : (a b : Bool) → (a || (a && b)) ≡ (a && true)
    by true b = refl
    by false b = refl

-- the same assignments are passed over where each holds the same ids of those that concern a query
pub passed_same : (w v : View) (q : Query) → HoldAlike (concerns q) w v → (a : Assignment) → passes_over w q a ≡ passes_over v q a
passed_same w v q alike a =
    let in_prefab = held_same (concerns q) w v alike (plain prefab) (asked_by_all q (plain prefab) refl) in
    let in_disabled = held_same (concerns q) w v alike (plain disabled) (asked_by_all q (plain disabled) refl) in
    λ k. q.has_this && option_map_or (λ e. in_prefab e k && not (level_mentions prefab (top q)) || in_disabled e k && not (level_mentions disabled (top q))) (value_at nat_cmp a 0) false

module _ (w v : View) (q : Query) (alike : AreAlikeFor q w v) where
  solved_same : (a : Assignment) → some (solutions w (top q) a) ≡ some (solutions v (top q) a)
  solved_same =
      let agree = agree_alive (concerns q) w v alike.ids alike.entities (asked_by_all q (plain transitive) refl) (asked_by_all q (plain reflexive) refl) in
      level_same (concerns q) w v agree alike.entities (top q) (top_covered q)

  candidates_same : candidates w q ≡ candidates v q
  candidates_same =
      let lives = alike.entities in
      λ k. filter (λ a. not (passed_same w v q alike.ids a k)) (assignments (visible q) (lives k) [])

  under_same : (e : ℕ) (a : Assignment) → list_any (is_this e) (rows_under w q a) ≡ list_any (is_this e) (rows_under v q a)
  under_same e a =
      this_of_rows e a (solutions w (top q) a)
      ∙ ap (λ b. is_first_of e a && b) (solved_same a)
      ∙ sym (this_of_rows e a (solutions v (top q) a))

  all_same : (e : ℕ) (given : List Assignment) → list_any (is_this e) (flat_map (rows_under w q) given) ≡ list_any (is_this e) (flat_map (rows_under v q) given)
  all_same e [] = refl
  all_same e (a ∷ given) =
      let first = under_same e a in
      let rest = all_same e given in
      list_any-append (is_this e) (rows_under w q a) (flat_map (rows_under w q) given)
      ∙ (λ k. first k || rest k)
      ∙ sym (list_any-append (is_this e) (rows_under v q a) (flat_map (rows_under v q) given))

  this_same : (e : ℕ) → list_any (is_this e) (rows w q) ≡ list_any (is_this e) (rows v q)
  unfolding rows
  this_same e =
      any-ordered w q (rows_under w q) (is_this e) (candidates w q)
      ∙ all_same e (candidates w q) ∙ ap (λ given. list_any (is_this e) (flat_map (rows_under v q) given)) candidates_same
      ∙ sym (any-ordered v q (rows_under v q) (is_this e) (candidates v q))

  matching_same : matching w q ≡ matching v q
  unfolding matching
  matching_same =
      let lives = alike.entities in
      λ k. filter (λ e. this_same e k) (lives k)

pub match_by_what_concerns : MatchByWhatConcerns
match_by_what_concerns w v q alike = matching_same w v q alike
