-- The items of a query's levels have terms of the query, and what concerns these concerns the query.
use Rattle.std.proofs.Common.{◌≡◌, Bool, true, List, [], ◌∷◌}
use Rattle.std.specs.Prelude.{flat_map}
use Rattle.std.specs.List.{Contains, list_any}
use Rattle.std.proofs.lemmas.Bool.{or_left, or_right}
use Rattle.std.proofs.lemmas.List.Elements.{Contains-append_left, Contains-append_right}
use Rattle.ecs_id.specs.Id.{Id}
use Rattle.ecs_model.specs.rows.Level.{Level, done, also, unless, first_level, other_levels, open_levels, then_level, joined_levels, top}
use Rattle.ecs_model.proofs.Members.{any_passes}
use Rattle.query_model.specs.declared.query.Term.{Term}
use Rattle.query_model.specs.Query.{Item, Piece, item, opening, closing, Query}
use Rattle.query_check.specs.Terms.{item_terms, piece_terms, terms}
use Rattle.watch_concerns.specs.Concerns.{concerns, is_asked_by_all, term_concerns}
use Rattle.watch_concerns.specs.Others.{concerns_below, concerns_others, says_how_far, term_concerns_below, term_concerns_others}

module _ (P : Item → Type 0) where
  -- it holds of each item of a level and of the groups in it
  abbrev pub OfEach : Level → Type 0
  OfEach done = Unit {0}
  OfEach (also x rest) = P x × OfEach rest
  OfEach (unless from_term own inner rest) = OfEach inner × OfEach rest

  -- of each item among some pieces
  abbrev pub OfEachPiece : List Piece → Type 0
  OfEachPiece [] = Unit {0}
  OfEachPiece (item x ∷ ps) = P x × OfEachPiece ps
  OfEachPiece (opening from_term own ∷ ps) = OfEachPiece ps
  OfEachPiece (closing ∷ ps) = OfEachPiece ps

  abbrev OfLevels : List Level → Type 0
  OfLevels [] = Unit {0}
  OfLevels (l ∷ ls) = OfEach l × OfLevels ls

  of_first : (ls : List Level) → OfLevels ls → OfEach (first_level ls)
  of_first [] h = tt
  of_first (l ∷ ls) h = h.0

  of_others : (ls : List Level) → OfLevels ls → OfLevels (other_levels ls)
  of_others [] h = tt
  of_others (l ∷ ls) h = h.1

  of_open : (ps : List Piece) → OfEachPiece ps → OfLevels (open_levels ps)
  of_open [] h = tt
  of_open (item x ∷ ps) h = let all = of_open ps h.1 in ((h.0, of_first (open_levels ps) all), of_others (open_levels ps) all)
  of_open (opening from_term own ∷ ps) h =
      let all = of_open ps h in
      let others = of_others (open_levels ps) all in
      ((of_first (open_levels ps) all, of_first (other_levels (open_levels ps)) others), of_others (other_levels (open_levels ps)) others)
  of_open (closing ∷ ps) h = (tt, of_open ps h)

  of_then : (l m : Level) → OfEach l → OfEach m → OfEach (then_level l m)
  of_then done m h k = k
  of_then (also x l) m h k = (h.0, of_then l m h.1 k)
  of_then (unless from_term own inner l) m h k = (h.0, of_then l m h.1 k)

  of_joined : (ls : List Level) → OfLevels ls → OfEach (joined_levels ls)
  of_joined [] h = tt
  of_joined (l ∷ ls) h = of_then l (joined_levels ls) h.0 (of_joined ls h.1)

  -- so of each item of a query
  pub of_top : (q : Query) → OfEachPiece q.pieces → OfEach (top q)
  unfolding top
  of_top q h = of_joined (open_levels q.pieces) (of_open q.pieces h)

-- what follows for each item holds of each, too
each_so : (P R : Item → Type 0) → ((x : Item) → P x → R x) → (ps : List Piece) → OfEachPiece P ps → OfEachPiece R ps
each_so P R so [] h = tt
each_so P R so (item x ∷ ps) h = (so x h.0, each_so P R so ps h.1)
each_so P R so (opening from_term own ∷ ps) h = each_so P R so ps h
each_so P R so (closing ∷ ps) h = each_so P R so ps h

-- the terms of an item are among these
abbrev pub AreAmong : List Term → Item → Type 0
AreAmong ts x = (t : Term) → Contains (item_terms x) t → Contains ts t

pieces_among : (ts : List Term) (ps : List Piece) → ((t : Term) → Contains (flat_map piece_terms ps) t → Contains ts t) → OfEachPiece (AreAmong ts) ps
pieces_among ts [] h = tt
pieces_among ts (item x ∷ ps) h = (
  λ t c. h t (Contains-append_left (item_terms x) (flat_map piece_terms ps) t c),
  pieces_among ts ps (λ t c. h t (Contains-append_right (item_terms x) (flat_map piece_terms ps) t c)),
)
pieces_among ts (opening from_term own ∷ ps) h = pieces_among ts ps h
pieces_among ts (closing ∷ ps) h = pieces_among ts ps h

-- what follows from the terms of an item being those of a query holds of each item of it
pub pieces_so : (q : Query) (P : Item → Type 0) → ((x : Item) → AreAmong (terms q) x → P x) → OfEachPiece P q.pieces
pieces_so q P so = each_so (AreAmong (terms q)) P so q.pieces (pieces_among (terms q) q.pieces (λ t c. c))

pub top_so : (q : Query) (P : Item → Type 0) → ((x : Item) → AreAmong (terms q) x → P x) → OfEach P (top q)
top_so q P so = of_top P q (pieces_so q P so)

pub top_among : (q : Query) → OfEach (AreAmong (terms q)) (top q)
top_among q = top_so q (AreAmong (terms q)) (λ x among. among)

-- what concerns a term of a query concerns the query
module _ (q : Query) (t : Term) (among : Contains (terms q) t) (i : Id) where
  pub by_term : term_concerns i t ≡ true → concerns q i ≡ true
  unfolding concerns
  by_term h = or_right (is_asked_by_all i) (list_any (term_concerns i) (terms q)) (any_passes (term_concerns i) (terms q) t among h)

  pub by_term_of_others : term_concerns_others i t ≡ true → concerns_others q i ≡ true
  unfolding concerns_others
  by_term_of_others h = or_right (says_how_far i) (list_any (term_concerns_others i) (terms q)) (any_passes (term_concerns_others i) (terms q) t among h)

  pub by_term_below : term_concerns_below i t ≡ true → concerns_below q i ≡ true
  unfolding concerns_below
  by_term_below h = any_passes (term_concerns_below i) (terms q) t among h

module _ (wide : Id → Bool) where
  -- whatever concerns a term of an item passes
  abbrev pub Covers : Item → Type 0
  Covers x = (t : Term) → Contains (item_terms x) t → (i : Id) → term_concerns i t ≡ true → wide i ≡ true

  -- so does what concerns the items of a level and of the groups in it
  abbrev pub CoversLevel : Level → Type 0
  CoversLevel l = OfEach Covers l

pub pieces_covered : (q : Query) → OfEachPiece (Covers (concerns q)) q.pieces
pieces_covered q = pieces_so q (Covers (concerns q)) (λ x among t c. by_term q t (among t c))

pub top_covered : (q : Query) → CoversLevel (concerns q) (top q)
top_covered q = of_top (Covers (concerns q)) q (pieces_covered q)

pub asked_by_all : (q : Query) (i : Id) → is_asked_by_all i ≡ true → concerns q i ≡ true
unfolding concerns
asked_by_all q i t = or_left (is_asked_by_all i) (list_any (term_concerns i) (terms q)) t
