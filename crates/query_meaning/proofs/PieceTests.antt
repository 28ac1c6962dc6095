-- What a test says of each piece of a query it says of each item and each group of its levels.
use Rattle.std.proofs.Common.{◌≡◌, Bool, true, List, [], ◌∷◌, refl}
use Rattle.std.specs.Prelude.{◌&&◌}
use Rattle.std.specs.List.{list_all}
use Rattle.std.proofs.lemmas.Bool.{and_from, and_parts}
use Rattle.ecs_model.specs.rows.Level.{Level, done, also, unless, first_level, other_levels, piece_onto, open_levels, then_level, joined_levels, top}
use Rattle.query_model.specs.Query.{Piece, item, opening, closing, Query}

module _ (test : Piece → Bool) where
  abbrev pub level_passes : Level → Bool
  level_passes done = true
  level_passes (also i rest) = test (item i) && level_passes rest
  level_passes (unless from_term own inner rest) = test (opening from_term own) && level_passes inner && level_passes rest

  first_passes : (ls : List Level) → list_all level_passes ls ≡ true → level_passes (first_level ls) ≡ true
  first_passes [] h = refl
  first_passes (l ∷ ls) h = (and_parts _ _ h).0

  others_pass : (ls : List Level) → list_all level_passes ls ≡ true → list_all level_passes (other_levels ls) ≡ true
  others_pass [] h = refl
  others_pass (l ∷ ls) h = (and_parts _ _ h).1

  onto_passes : (p : Piece) (ls : List Level) → test p ≡ true → list_all level_passes ls ≡ true → list_all level_passes (piece_onto p ls) ≡ true
  onto_passes (item i) ls h all = and_from _ _ (and_from _ _ h (first_passes ls all)) (others_pass ls all)
  onto_passes (opening from_term own) ls h all =
      let others = others_pass ls all in
      and_from _ _ (and_from _ _ (and_from _ _ h (first_passes ls all)) (first_passes (other_levels ls) others)) (others_pass (other_levels ls) others)
  onto_passes closing ls h all = all

  open_passes : (ps : List Piece) → list_all test ps ≡ true → list_all level_passes (open_levels ps) ≡ true
  open_passes [] h = refl
  open_passes (p ∷ ps) h = let a = and_parts _ _ h in onto_passes p (open_levels ps) a.0 (open_passes ps a.1)

  then_passes : (l m : Level) → level_passes l ≡ true → level_passes m ≡ true → level_passes (then_level l m) ≡ true
  then_passes done m h k = k
  then_passes (also i l) m h k = let a = and_parts _ _ h in and_from _ _ a.0 (then_passes l m a.1 k)
  then_passes (unless from_term own inner l) m h k = let a = and_parts _ _ h in and_from _ _ a.0 (then_passes l m a.1 k)

  joined_passes : (ls : List Level) → list_all level_passes ls ≡ true → level_passes (joined_levels ls) ≡ true
  joined_passes [] h = refl
  joined_passes (l ∷ ls) h = let a = and_parts _ _ h in then_passes l (joined_levels ls) a.0 (joined_passes ls a.1)

  pub top_passes : (q : Query) → list_all test q.pieces ≡ true → level_passes (top q) ≡ true
  unfolding top
  top_passes q h = joined_passes (open_levels q.pieces) (open_passes q.pieces h)
