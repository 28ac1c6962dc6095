-- What holds of each term and each side of an equality whose references are good, holds in the items of a checked query all of whose references are.
use Rattle.std.specs.Prelude.{◌≡◌, ℕ, ◌+◌, Bool, true, false, List, [], ◌∷◌, ◌++◌, map, flat_map, drop, Some}
use Rattle.std.proofs.Common.{ap, sym, refl, subst}
use Rattle.std.specs.List.{All}
use Rattle.std.proofs.lemmas.List.Elements.{All-append, All-cons, All-head, All-nil, All-tail}
use Rattle.query_model.specs.declared.query.Ref.{Ref}
use Rattle.query_model.specs.declared.query.Position.TheVariants.{Left, Right}
use Rattle.query_model.specs.declared.query.Term.{Term}
use Rattle.query_model.specs.declared.syntax.Role.TheVariants.{And, Or, Not, Optional}
use Rattle.query_model.specs.Syntax.{Spoken, Word, Var, Any, AnyOnce, Reference, TermSyntax, Part, term, opened, closed, equality, Syntax}
use Rattle.query_model.specs.Levels.{Path, level_of, alternatives, path_behind, placed}
use Rattle.query_model.specs.Uses.{Use, uses_of, uses_of_term, written}
use Rattle.query_model.specs.Scope.{Sighting, sightings}
use Rattle.query_model.specs.Numbers.{Variable, variables}
use Rattle.query_model.specs.Check.{Known}
use Rattle.query_model.specs.Query.{Item, must, may, either, equal, differ, Piece, item, opening, closing, Query, chain_of, checked_equality, checked_query, checked_term, ref_of}
use Rattle.ecs_model.specs.rows.Level.{Level, first_level, open_levels}
use Rattle.query_meaning.specs.Variables.{Entry, simple, group, entries}
use Rattle.query_meaning.proofs.FlatItems.{items-entries, items_from}
use Rattle.query_meaning.proofs.OwnOccurrences.{pieces_from}

-- what holds of all of two lists, holds of all of each
module _ {X : Type 0} (Good : X → Type 0) where
  pub All-left : (xs ys : List X) → All Good (xs ++ ys) → All Good xs
  All-left [] ys h = All-nil Good
  All-left (x ∷ xs) ys h = All-cons Good x xs (All-head Good x (xs ++ ys) h) (All-left xs ys (All-tail Good x (xs ++ ys) h))

  pub All-right : (xs ys : List X) → All Good (xs ++ ys) → All Good ys
  All-right [] ys h = h
  All-right (x ∷ xs) ys h = All-right xs ys (All-tail Good x (xs ++ ys) h)

-- what is to hold of the numbers in each term, and on the other side of each equality
module _ (P : ℕ → Type 0) (of_term : Term → List ℕ) (of_side : Ref → List ℕ) where
  abbrev pub of_item : Item → List ℕ
  of_item (must t) = of_term t
  of_item (may t) = of_term t
  of_item (either ts) = flat_map of_term ts
  of_item (equal v r) = of_side r
  of_item (differ v r) = of_side r

  abbrev HoldsInPieces : List Piece → Type 0
  HoldsInPieces [] = Unit {0}
  HoldsInPieces (item i ∷ ps) = All P (of_item i) × HoldsInPieces ps
  HoldsInPieces (opening from_term own ∷ ps) = HoldsInPieces ps
  HoldsInPieces (closing ∷ ps) = HoldsInPieces ps

  module _ (Good : Use → Type 0) (k : Known) (all : List Sighting) (vs : List Variable) (term_holds : (path : Path) (t : TermSyntax) → All Good (uses_of_term t) → All P (of_term (checked_term k all vs path t)))
      (side_holds : (path : Path) (r : Reference) → All Good (written Right (Some r)) → All P (of_side (ref_of k all vs path r))) where
    alternatives_hold : (path : Path) (ps : List Part) → All Good (flat_map uses_of ps) → All P (flat_map of_term (map (checked_term k all vs path) (alternatives ps)))
    alternatives_hold path [] e = All-nil P
    alternatives_hold path (term Or t ∷ ps) e =
        All-append P (of_term (checked_term k all vs path t)) (flat_map of_term (map (checked_term k all vs path) (alternatives ps))) (term_holds path t (All-left Good (uses_of_term t) (flat_map uses_of ps) e))
        (alternatives_hold path ps (All-right Good (uses_of_term t) (flat_map uses_of ps) e))
    alternatives_hold path (p ∷ ps) e = All-nil P

    chain_holds : (t : Term) (ts : List Term) → All P (of_term t) → All P (flat_map of_term ts) → All P (of_item (chain_of t ts))
    chain_holds t [] h a = h
    chain_holds t (u ∷ us) h a = All-append P (of_term t) (flat_map of_term (u ∷ us)) h a

    equality_holds : (path : Path) (w : Spoken) (same : Bool) (r : Reference) → All P (of_side (ref_of k all vs path r)) → All P (of_item (checked_equality k all vs path w same r))
    equality_holds path (Var v) true r h = h
    equality_holds path (Var v) false r h = h
    equality_holds path (Word n) same r h = h
    equality_holds path Any same r h = h
    equality_holds path AnyOnce same r h = h

    placed_are : (n : ℕ) (path : Path) (ps : List Part) → map (λ (q : Path × Part). q.1) (placed n path ps) ≡ ps
    placed_are n path [] = refl
    placed_are n path (q ∷ ps) = ap (λ l. q ∷ l) (placed_are (n + 1) (path_behind n path q) ps)

    pieces_hold : (n : ℕ) (path : Path) (ps : List Part) → All Good (flat_map uses_of ps) → HoldsInPieces (pieces_from k all vs n path ps)
    pieces_hold n path [] e = tt
    pieces_hold n path (term And t ∷ ps) e =
        let more = All-right Good (uses_of_term t) (flat_map uses_of ps) e in
        let others = alternatives (map (λ (q : Path × Part). q.1) (placed (n + 1) path ps)) in (
          chain_holds (checked_term k all vs path t) (map (checked_term k all vs path) others) (term_holds path t (All-left Good (uses_of_term t) (flat_map uses_of ps) e))
              (subst (λ (l : List Part). All P (flat_map of_term (map (checked_term k all vs path) (alternatives l)))) (sym (placed_are (n + 1) path ps)) (alternatives_hold path ps more)),
          pieces_hold (n + 1) path ps more,
        )
    pieces_hold n path (term Or t ∷ ps) e = pieces_hold (n + 1) path ps (All-right Good (uses_of_term t) (flat_map uses_of ps) e)
    pieces_hold n path (term Optional t ∷ ps) e =
        (term_holds path t (All-left Good (uses_of_term t) (flat_map uses_of ps) e), pieces_hold (n + 1) path ps (All-right Good (uses_of_term t) (flat_map uses_of ps) e))
    pieces_hold n path (term Not t ∷ ps) e =
        (term_holds (n ∷ path) t (All-left Good (uses_of_term t) (flat_map uses_of ps) e), pieces_hold (n + 1) path ps (All-right Good (uses_of_term t) (flat_map uses_of ps) e))
    pieces_hold n path (opened s ∷ ps) e = pieces_hold (n + 1) (n ∷ path) ps e
    pieces_hold n path (closed ∷ ps) e = pieces_hold (n + 1) (drop 1 path) ps e
    pieces_hold n path (equality v same r ∷ ps) e =
        let sides = written Left (Some v) ++ written Right (Some r) in (
          equality_holds path v.spoken same r (side_holds path r (All-right Good (written Left (Some v)) (written Right (Some r)) (All-left Good sides (flat_map uses_of ps) e))),
          pieces_hold (n + 1) path ps (All-right Good sides (flat_map uses_of ps) e),
        )

  entries_hold : (of_entry : Entry → List ℕ) → ((level : ℕ) (i : Item) → of_entry (simple level i) ≡ of_item i) → ((level : ℕ) (own : List ℕ) (inner : Level) → of_entry (group level own inner) ≡ [])
      → (n : ℕ) (around : Path) (ps : List Piece) → HoldsInPieces ps → All P (flat_map of_entry (items_from n around ps))
  entries_hold of_entry simple_is group_is n around [] h = All-nil P
  entries_hold of_entry simple_is group_is n around (item i ∷ ps) h =
      All-append P (of_entry (simple (level_of around) i)) (flat_map of_entry (items_from (n + 1) around ps)) (subst (All P) (sym (simple_is (level_of around) i)) h.0)
      (entries_hold of_entry simple_is group_is (n + 1) around ps h.1)
  entries_hold of_entry simple_is group_is n around (opening from_term own ∷ ps) h =
      let inner = first_level (open_levels ps) in
      All-append P (of_entry (group (level_of around) own inner)) (flat_map of_entry (items_from (n + 1) ((n + 1) ∷ around) ps)) (subst (All P) (sym (group_is (level_of around) own inner)) (All-nil P))
      (entries_hold of_entry simple_is group_is (n + 1) ((n + 1) ∷ around) ps h)
  entries_hold of_entry simple_is group_is n around (closing ∷ ps) h = entries_hold of_entry simple_is group_is n (drop 1 around) ps h

  module _ (Good : Use → Type 0) (k : Known) (term_holds : (all : List Sighting) (vs : List Variable) (path : Path) (t : TermSyntax) → All Good (uses_of_term t) → All P (of_term (checked_term k all vs path t)))
      (side_holds : (all : List Sighting) (vs : List Variable) (path : Path) (r : Reference) → All Good (written Right (Some r)) → All P (of_side (ref_of k all vs path r))) where
    query_holds : (s : Syntax) → All Good (flat_map uses_of s.parts) → HoldsInPieces (checked_query k s).pieces
    unfolding checked_query
    query_holds s e =
        let all = sightings s.parts in
        let vs = variables s.parts in
        pieces_hold Good k all vs (term_holds all vs) (side_holds all vs) 1 [] s.parts e

    -- so it holds in each entry of the query of a syntax
    pub holds_in_entries : (of_entry : Entry → List ℕ) → ((level : ℕ) (i : Item) → of_entry (simple level i) ≡ of_item i) → ((level : ℕ) (own : List ℕ) (inner : Level) → of_entry (group level own inner) ≡ [])
        → (s : Syntax) (q : Query) → checked_query k s ≡ q → All Good (flat_map uses_of s.parts) → All P (flat_map of_entry (entries q))
    holds_in_entries of_entry simple_is group_is s q is e =
        let pieces : HoldsInPieces q.pieces = subst (λ (x : Query). HoldsInPieces x.pieces) is (query_holds s e) in
        subst (λ es. All P (flat_map of_entry es)) (items-entries q) (entries_hold of_entry simple_is group_is 0 [] q.pieces pieces)
