-- An observer's one term decides what it is notified of.
use Rattle.std.specs.List.{filter}
use Rattle.std.proofs.Common.{◌≡◌, ℕ, Bool, false, not, ◌&&◌, ◌||◌, List, [], ◌∷◌, Some, None, ap, ◌∙◌}
use Rattle.std.specs.Option.{option_map_or}
use Rattle.std.proofs.Math.Bool.{or-false}
use Rattle.ecs_world.proofs.ToldChanges.{filter_none}
use Rattle.ecs_id.specs.Id.{plain}
use Rattle.query_model.specs.declared.query.Term.{Term}
use Rattle.query_model.specs.Query.{Piece, item, opening, closing, must, may, either, equal, differ, Query}
use Rattle.ecs_model.specs.steps.Outcomes.{Changed}
use Rattle.ecs_model.specs.World.{WorldState, Key, holds}
use Rattle.ecs_model.specs.rows.Level.{joined_levels, open_levels, top}
use Rattle.ecs_model.specs.rows.Rows.{asks_tag_of_this, is_passed_over, level_mentions, matches}
use Rattle.ecs_model.specs.rows.View.{view_of}
use Rattle.ecs_model.specs.stored.Watches.{observes, only_term}
use Rattle.ecs_model.specs.steps.Rules.{prefab, disabled}
use Rattle.ecs_model.proofs.steps.Facts.{is_held-holds}
use Rattle.watch_concerns.specs.Since.{held_before, is_cut_before, observed_before}
use Rattle.watch_events.specs.Terms.{tells}

-- a query has one term where that is its one piece
one_piece : (ps : List Piece) (t : Term) → only_term ps ≡ Some t → ps ≡ item (must t) ∷ []
one_piece [] t e = cc
one_piece (item (must u) ∷ []) t e = let same : u ≡ t = cc in ap (λ x. item (must x) ∷ []) same
one_piece (item (must u) ∷ p ∷ ps) t e = cc
one_piece (item (may u) ∷ ps) t e = cc
one_piece (item (either ts) ∷ ps) t e = cc
one_piece (item (equal v r) ∷ ps) t e = cc
one_piece (item (differ v r) ∷ ps) t e = cc
one_piece (opening b own ∷ ps) t e = cc
one_piece (closing ∷ ps) t e = cc

mentions_by_term : (q : Query) (t : Term) → only_term q.pieces ≡ Some t → (tag : ℕ) → level_mentions tag (top q) ≡ asks_tag_of_this tag t
unfolding top
mentions_by_term q t e tag = ap (λ ps. level_mentions tag (joined_levels (open_levels ps))) (one_piece q.pieces t e) ∙ or-false (asks_tag_of_this tag t)

-- those that one test passes, another that is the same passes
alike : {X : Type 0} (p q : X → Bool) (xs : List X) → ((x : X) → p x ≡ q x) → filter p xs ≡ filter q xs
alike p q xs h = λ i. filter (λ x. h x i) xs

-- by the world after
module _ (w : WorldState) (q : Query) (ks : List Key) where
  pub observed_by_term : (t : Term) → only_term q.pieces ≡ Some t → filter (observes (view_of w) q) ks ≡ filter (tells (holds w) t) ks
  observed_by_term t e =
      alike (observes (view_of w) q) (tells (holds w) t) ks
      (λ k i. option_map_or (λ (u : Term). matches [] u.component u.target k.1) (e i) false
      && not (is_held-holds w k.0 (plain prefab) i && not (mentions_by_term q t e prefab i) || is_held-holds w k.0 (plain disabled) i && not (mentions_by_term q t e disabled i)))

  pub none_observed : only_term q.pieces ≡ None → filter (observes (view_of w) q) ks ≡ []
  none_observed e =
      alike (observes (view_of w) q) (λ k. false) ks
      (λ k. ap (λ o. option_map_or (λ (u : Term). matches [] u.component u.target k.1) o false && not (is_passed_over q ((view_of w).ids k.0))) e)
      ∙ filter_none ks

-- and by that before
module _ (v : WorldState) (c : Changed) (q : Query) (ks : List Key) where
  pub observed_before_by_term : (t : Term) → only_term q.pieces ≡ Some t → filter (observed_before v c q) ks ≡ filter (tells (held_before v c) t) ks
  observed_before_by_term t e =
      alike (observed_before v c q) (tells (held_before v c) t) ks
      (λ k i. option_map_or (λ (u : Term). matches [] u.component u.target k.1) (e i) false
      && not (held_before v c k.0 (plain prefab) && not (mentions_by_term q t e prefab i) || held_before v c k.0 (plain disabled) && not (mentions_by_term q t e disabled i)))

  pub none_observed_before : only_term q.pieces ≡ None → filter (observed_before v c q) ks ≡ []
  none_observed_before e =
      alike (observed_before v c q) (λ k. false) ks
      (λ k. ap (λ o. option_map_or (λ (u : Term). matches [] u.component u.target k.1) o false && not (is_cut_before v c q prefab k.0 || is_cut_before v c q disabled k.0)) e)
      ∙ filter_none ks
