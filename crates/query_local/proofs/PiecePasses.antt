-- A pass over a query's pieces from the left decides whether its level holds.
use Rattle.std.proofs.Common.{◌≡◌, ℕ, suc, zero, Bool, true, false, List, [], ◌∷◌, refl, sym, ap, ◌∙◌}
use Rattle.std.specs.Prelude.{◌&&◌, not}
use Rattle.ecs_id.specs.Id.{Id}
use Rattle.ecs_model.specs.rows.Level.{Level, done, also, unless, top, then_level, joined_levels, open_levels, first_level, other_levels, piece_onto}
use Rattle.query_model.specs.Query.{Item, Piece, item, opening, closing, Query}
use Rattle.query_local.specs.declared.nesting.Nesting.{Nesting}
use Rattle.query_local.specs.declared.nesting.Nesting.TheVariants.{Holding, Failed}
use Rattle.query_local.specs.Judging.{alternates, at_end, behind, end_of_failed, holds_from, item_holds, with_item}

module _ (this : ℕ) (ids : List Id) where
  -- whether all items of a level hold, and its groups do, which hold where their levels don't
  abbrev pub level_holds : Level → Bool
  level_holds done = true
  level_holds (also i rest) = item_holds this ids i && level_holds rest
  level_holds (unless from_term own inner rest) = not (level_holds inner) && level_holds rest

  -- whether the whole query holds, from the level at a depth outwards, where that level has held up to here
  abbrev up_from : Bool → ℕ → List Level → Bool
  up_from held zero ls = held && level_holds (joined_levels ls)
  up_from held (suc depth) ls = up_from (not (held && level_holds (first_level ls))) depth (other_levels ls)

  abbrev outer : ℕ → List Level → List Level
  outer zero ls = ls
  outer (suc n) ls = outer n (other_levels ls)

  abbrev value : Nesting → List Level → Bool
  value (Holding depth) ls = up_from true depth ls
  value (Failed depth inside) ls = up_from false depth (outer inside ls)

  first_joined : (ls : List Level) → then_level (first_level ls) (joined_levels (other_levels ls)) ≡ joined_levels ls
  first_joined [] = refl
  first_joined (l ∷ ls) = refl

  item_next_top : (b : Bool) (ls : List Level) → (b && level_holds (joined_levels ls)) ≡ value (with_item b zero) ls
  item_next_top true ls = refl
  item_next_top false ls = refl

  failed_item : (depth : ℕ) (i : Item) (ls : List Level) → up_from false depth (also i (first_level ls) ∷ other_levels ls) ≡ up_from false depth ls
  failed_item zero i ls = refl
  failed_item (suc depth) i ls = refl

  failed_group : (depth : ℕ) (from_term : Bool) (own : List ℕ) (ls : List Level)
      → up_from false depth (unless from_term own (first_level ls) (first_level (other_levels ls)) ∷ other_levels (other_levels ls)) ≡ up_from false depth (other_levels ls)
  failed_group zero from_term own ls = refl
  failed_group (suc depth) from_term own ls = refl

  failed_end : (depth inside : ℕ) (ls : List Level) → up_from false depth (outer inside (done ∷ ls)) ≡ value (end_of_failed depth inside) ls
  failed_end zero zero ls = refl
  failed_end (suc depth) zero ls = refl
  failed_end depth (suc inside) ls = refl

  one_more : (n : Nesting) (p : Piece) (ls : List Level) → value n (piece_onto p ls) ≡ value (behind this ids n p) ls
  one_more (Holding zero) (item i) ls = ap (λ l. item_holds this ids i && level_holds l) (first_joined ls) ∙ item_next_top (item_holds this ids i) ls
  one_more (Holding (suc depth)) (item i) ls = by (item_holds this ids i)
    where
      by : (b : Bool) → up_from (not (b && level_holds (first_level ls))) depth (other_levels ls) ≡ value (with_item b (suc depth)) ls
      by true = refl
      by false = refl
  one_more (Holding zero) (opening from_term own) ls = ap (λ l. not (level_holds (first_level ls)) && level_holds l) (first_joined (other_levels ls))
  one_more (Holding (suc depth)) (opening from_term own) ls = refl
  one_more (Holding zero) closing ls = refl
  one_more (Holding (suc depth)) closing ls = refl
  one_more (Failed depth zero) (item i) ls = failed_item depth i ls
  one_more (Failed depth (suc inside)) (item i) ls = refl
  one_more (Failed depth zero) (opening from_term own) ls = failed_group depth from_term own ls
  one_more (Failed depth (suc inside)) (opening from_term own) ls = refl
  one_more (Failed depth inside) closing ls = failed_end depth inside ls

  ends_as : (held : Bool) (depth : ℕ) → alternates held depth ≡ up_from held depth []
  ends_as true zero = refl
  ends_as false zero = refl
  ends_as true (suc depth) = ends_as false depth
  ends_as false (suc depth) = ends_as true depth

  outer_none : (n : ℕ) → outer n [] ≡ []
  outer_none zero = refl
  outer_none (suc n) = outer_none n

  at_end_as : (n : Nesting) → at_end n ≡ value n []
  at_end_as (Holding depth) = ends_as true depth
  at_end_as (Failed depth inside) = ends_as false depth ∙ sym (ap (up_from false depth) (outer_none inside))

  from_levels : (n : Nesting) (ps : List Piece) → holds_from this ids n ps ≡ value n (open_levels ps)
  from_levels n [] = at_end_as n
  from_levels n (p ∷ ps) = from_levels (behind this ids n p) ps ∙ sym (one_more n p (open_levels ps))

  pub holds_is : (q : Query) → holds_from this ids (Holding 0) q.pieces ≡ level_holds (top q)
  unfolding top
  holds_is q = from_levels (Holding 0) q.pieces
