-- What is read of a query's pieces from the left is what it mentions.
use Rattle.std.proofs.Common.{◌≡◌, ℕ, suc, zero, Bool, true, false, List, [], ◌∷◌, refl, sym, ap, ◌∙◌}
use Rattle.std.specs.Prelude.{◌&&◌, ◌||◌}
use Rattle.std.proofs.Math.Bool.{or-false}
use Rattle.query_meaning.proofs.FlatItems.{or_assoc}
use Rattle.ecs_model.specs.rows.Level.{Level, done, also, unless, top, then_level, joined_levels, open_levels, first_level, other_levels}
use Rattle.ecs_model.specs.rows.Rows.{item_mentions, level_mentions}
use Rattle.query_local.specs.Mentions.{hidden_behind, hidden_around, counted, mentions_from}
use Rattle.query_model.specs.Query.{Item, Piece, item, opening, closing, Query}

module _ (tag : ℕ) where
  -- some level mentions it, but for so many of the first
  abbrev any_level : ℕ → List Level → Bool
  any_level h [] = false
  any_level zero (l ∷ ls) = level_mentions tag l || any_level zero ls
  any_level (suc h) (l ∷ ls) = any_level h ls

  item_first : (h : ℕ) (b : Bool) (i : Item) (ls : List Level) → b ≡ item_mentions tag i → (counted h b || any_level h ls) ≡ any_level h (also i (first_level ls) ∷ other_levels ls)
  item_first zero b i [] e = ap (λ t. t || false) (e ∙ sym (or-false (item_mentions tag i)))
  item_first zero b i (l ∷ ls) e = ap (λ t. t || (level_mentions tag l || any_level zero ls)) e ∙ sym (or_assoc (item_mentions tag i) (level_mentions tag l) (any_level zero ls))
  item_first (suc h) b i [] e = none h
    where
      none : (h : ℕ) → false ≡ any_level h []
      none h = refl
  item_first (suc h) b i (l ∷ ls) e = refl

  group_first : (h : ℕ) (from_term : Bool) (own : List ℕ) (ls : List Level)
      → any_level (hidden_behind h from_term) ls ≡ any_level h (unless from_term own (first_level ls) (first_level (other_levels ls)) ∷ other_levels (other_levels ls))
  group_first zero true own [] = refl
  group_first zero false own [] = refl
  group_first zero true own (l ∷ []) = ap (λ t. t || false) (sym (or-false (level_mentions tag l)))
  group_first zero false own (l ∷ []) = refl
  group_first zero true own (l ∷ m ∷ ls) = sym (or_assoc (level_mentions tag l) (level_mentions tag m) (any_level zero ls))
  group_first zero false own (l ∷ m ∷ ls) = refl
  group_first (suc h) from_term own [] = refl
  group_first (suc h) from_term own (l ∷ []) = refl
  group_first (suc h) from_term own (l ∷ m ∷ ls) = refl

  end_first : (h : ℕ) (ls : List Level) → any_level (hidden_around h) ls ≡ any_level h (done ∷ ls)
  end_first zero ls = refl
  end_first (suc h) ls = refl

  nothing : (h : ℕ) (b : Bool) → (counted h false || b) ≡ b
  nothing zero b = refl
  nothing (suc h) b = refl

  from_levels : (h : ℕ) (ps : List Piece) → mentions_from tag h ps ≡ any_level h (open_levels ps)
  from_levels h [] = refl
  from_levels h (item i ∷ ps) = ap (λ t. counted h (item_mentions tag i) || t) (from_levels h ps) ∙ item_first h (item_mentions tag i) i (open_levels ps) refl
  from_levels h (opening from_term own ∷ ps) = nothing h (mentions_from tag (hidden_behind h from_term) ps) ∙ from_levels (hidden_behind h from_term) ps ∙ group_first h from_term own (open_levels ps)
  from_levels h (closing ∷ ps) = nothing h (mentions_from tag (hidden_around h) ps) ∙ from_levels (hidden_around h) ps ∙ end_first h (open_levels ps)

  then_mentions : (l m : Level) → level_mentions tag (then_level l m) ≡ (level_mentions tag l || level_mentions tag m)
  then_mentions done m = refl
  then_mentions (also i l) m = ap (λ t. item_mentions tag i || t) (then_mentions l m) ∙ sym (or_assoc (item_mentions tag i) (level_mentions tag l) (level_mentions tag m))
  then_mentions (unless from_term own inner l) m = ap (λ t. from_term && level_mentions tag inner || t) (then_mentions l m) ∙ sym (or_assoc (from_term && level_mentions tag inner) (level_mentions tag l) (level_mentions tag m))

  joined_mentions : (ls : List Level) → level_mentions tag (joined_levels ls) ≡ any_level zero ls
  joined_mentions [] = refl
  joined_mentions (l ∷ ls) = then_mentions l (joined_levels ls) ∙ ap (λ t. level_mentions tag l || t) (joined_mentions ls)

  pub mentions_is : (q : Query) → mentions_from tag 0 q.pieces ≡ level_mentions tag (top q)
  unfolding top
  mentions_is q = from_levels 0 q.pieces ∙ sym (joined_mentions (open_levels q.pieces))
