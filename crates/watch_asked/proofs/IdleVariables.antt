-- What is read of a query's pieces from the left decides whether its variables are idle.
use Rattle.std.proofs.Common.{◌≡◌, ℕ, zero, Bool, true, false, List, [], ◌∷◌, length, refl, ap, ◌∙◌}
use Rattle.std.specs.Prelude.{◌==◌, ◌&&◌, ◌||◌, not}
use Rattle.std.specs.List.{list_all, range_with_len}
use Rattle.ecs_id.specs.Id.{Id}
use Rattle.ecs_model.specs.rows.Level.{open_levels}
use Rattle.query_model.specs.declared.query.Term.{Term}
use Rattle.query_model.specs.Query.{Piece, item, opening, closing, Query}
use Rattle.query_check.specs.Terms.{terms}
use Rattle.watch_concerns.specs.Bonds.{are_all_bound}
use Rattle.watch_concerns.specs.FromLeft.{each_group}
use Rattle.watch_concerns.specs.Idle.{asks_for, is_idle_for, item_lacks_of}
use Rattle.watch_concerns.proofs.BondsFromLeft.{all_left, left, level_left}
use Rattle.watch_asked.specs.Asked.{groups_idle, is_idle_from}

module _ (only : ℕ → Bool) (ts : List Term) (ids : List Id) (i : Id) where
  variable_left : (whole : Bool) (ps : List Piece) (v : ℕ) → is_idle_from only ts whole ps ids i v ≡ (not (only v) || is_idle_for ids i ts v (left whole zero (open_levels ps)))
  variable_left whole ps v = ap (λ b. not (only v) || ((v == 0 || not (asks_for ts v i)) || b)) (level_left (item_lacks_of ids v) whole zero ps)

  by_group : (ps : List Piece) → groups_idle only ts ids i ps ≡ each_group (λ qs v. is_idle_from only ts false qs ids i v) ps
  by_group [] = refl
  by_group (item x ∷ ps) = by_group ps
  by_group (opening from_term own ∷ ps) = ap (λ b. list_all (is_idle_from only ts false ps ids i) own && b) (by_group ps)
  by_group (closing ∷ ps) = by_group ps

-- by the terms and the pieces of a query, and how many visible variables it has
pub idle_left : (only : ℕ → Bool) (q : Query) (ts : List Term) (ps : List Piece) (n : ℕ) (ids : List Id) (i : Id) → ts ≡ terms q → ps ≡ q.pieces → n ≡ length q.variables
    → (list_all (is_idle_from only ts true ps ids i) (range_with_len 0 n) && groups_idle only ts ids i ps) ≡ are_all_bound (λ v l. not (only v) || is_idle_for ids i (terms q) v l) q
idle_left only q ts ps n ids i asked pieces count =
    (λ k. list_all (is_idle_from only (asked k) true (pieces k) ids i) (range_with_len 0 (count k)) && groups_idle only (asked k) ids i (pieces k))
    ∙ ap (λ b. list_all (is_idle_from only (terms q) true q.pieces ids i) (range_with_len 0 (length q.variables)) && b) (by_group only (terms q) ids i q.pieces)
    ∙ all_left (λ v l. not (only v) || is_idle_for ids i (terms q) v l) (λ whole qs v. is_idle_from only (terms q) whole qs ids i v) (variable_left only (terms q) ids i) q
