-- The pieces of the checked query, one part at a time.
use Rattle.std.specs.Prelude.{◌≡◌, ℕ, ◌+◌, ◌<◌, ◌≤◌, List, [], ◌∷◌, ◌++◌, map, Option, Some, None, drop, flat_map, fold, length, Bool}
use Rattle.std.proofs.lemmas.List.{append-nil, append_assoc, drop_all, drop_more, get_or-map, length-map}
use Rattle.std.proofs.lemmas.List.Sums.{fold-append}
use Rattle.ecs_id.specs.declared.EntityId.{EntityId}
use Rattle.std.proofs.Common.{ap, sym, ◌∙◌, get_or}
use Rattle.query_check.specs.declared.places.PartPlace.{PartPlace}
use Rattle.query_model.specs.declared.query.Mention.{Mention}
use Rattle.query_check.specs.Places.{IsRooted, places_of}
use Rattle.query_check.specs.Seen.{as_alternative, level_uses}
use Rattle.query_model.specs.Cascades.{Cascading, cascades}
use Rattle.query_model.specs.Check.{Known}
use Rattle.query_model.specs.Levels.{Path, alternatives, level_of, placed_parts, with_alternatives}
use Rattle.query_model.specs.Numbers.{Variable, has_this, variables}
use Rattle.query_model.specs.Query.{Piece, Query, add_mention, cascade_of, checked_query, mentioned_by, pieces_of_part, visible_names}
use Rattle.query_model.specs.Scope.{Sighting, sightings}
use Rattle.query_model.specs.Syntax.{Part, Syntax, TermSyntax}
use Rattle.query_model.specs.Uses.{Use}
use Rattle.query_check.proofs.PartReferences.{HasLeft, IsFollowedAt, by_level, followed-length, no_alternative, none_left, one_alternative, one_less, placed-length}
use Rattle.query_check.proofs.VariableRoots.{part_rooted}

-- what is added for one more part, where the code knows its level alone
pub part_built : {X : Type 0} (f : Path → List TermSyntax → Part → List X) (ps : List Part) (i : ℕ) (p : Part) (q : PartPlace) (others : List TermSyntax) (places : List PartPlace) (start now next : List X) → places ≡ places_of ps
    → HasLeft (λ r. f (r.0).0 r.1 (r.0).1) (with_alternatives (placed_parts ps)) i start now → IsFollowedAt ps i p q others
    → ((path : Path) → q.level ≡ level_of path → IsRooted places path → next ≡ now ++ f path others p) → HasLeft (λ r. f (r.0).0 r.1 (r.0).1) (with_alternatives (placed_parts ps)) (i + 1) start next
part_built f ps i p q others places start now next e l at built =
    let r = get_or (placed_parts ps) i ([], p) in
    one_less (λ (x : (Path × Part) × List TermSyntax). f (x.0).0 x.1 (x.0).1) (with_alternatives (placed_parts ps)) i start now next (f r.0 others p) (([], p), []) l at.within
    (ap (λ (x : (Path × Part) × List TermSyntax). f (x.0).0 x.1 (x.0).1) at.is ∙ ap (f r.0 others) (at.at).part)
    (built r.0 (sym (ap (λ (x : PartPlace). x.level) (at.at).place)) (rw e (part_rooted ps i ([], p) (at.at).within)))

pub all_built : {X : Type 0} (f : Path → List TermSyntax → Part → List X) (ps : List Part) (i : ℕ) (now : List X) → HasLeft (λ r. f (r.0).0 r.1 (r.0).1) (with_alternatives (placed_parts ps)) i [] now → length ps ≤ i
    → now ≡ flat_map (λ (r : (Path × Part) × List TermSyntax). f (r.0).0 r.1 (r.0).1) (with_alternatives (placed_parts ps))
all_built f ps i now l h = none_left (λ (r : (Path × Part) × List TermSyntax). f (r.0).0 r.1 (r.0).1) (with_alternatives (placed_parts ps)) i [] now l (rw (followed-length (placed_parts ps), placed-length ps) h)

-- the query of its parts
pub query_built : (k : Known) (s : Syntax) (names : List (List ℕ)) (this : Bool) (pieces : List Piece) (along : Option EntityId) (mentions : List Mention) (us : List (ℕ × Use)) (ss : List Sighting) (vs : List Variable) (cs : List Cascading)
    → us ≡ level_uses s.parts → ss ≡ sightings s.parts → vs ≡ variables s.parts → cs ≡ cascades s.parts
    → names ≡ visible_names vs → this ≡ has_this s.parts → pieces ≡ flat_map (pieces_of_part k ss vs) (with_alternatives (placed_parts s.parts)) → along ≡ cascade_of k cs → mentions ≡ fold (add_mention k) [] (flat_map (λ (u : ℕ × Use). mentioned_by k u.1) us)
    → record { variables = names; has_this = this; pieces = pieces; cascade = along; mentions = mentions; length = s.length } ≡ checked_query k s
unfolding checked_query
query_built k s names this pieces along mentions us ss vs cs u t v w n h p o m =
    let ps = s.parts in
    let make : List (List ℕ) → Bool → List Piece → Option EntityId → List Mention → Query = λ a b c r d. record { variables = a; has_this = b; pieces = c; cascade = r; mentions = d; length = s.length } in
    ap (λ r. make names this pieces r mentions) (o ∙ ap (cascade_of k) w)
    ∙ ap (λ a. make a this pieces (cascade_of k (cascades ps)) mentions) (n ∙ ap visible_names v) ∙ ap (λ b. make (visible_names (variables ps)) b pieces (cascade_of k (cascades ps)) mentions) h
    ∙ ap (λ c. make (visible_names (variables ps)) (has_this ps) c (cascade_of k (cascades ps)) mentions)
    (p ∙ ap (λ l. flat_map (pieces_of_part k l vs) (with_alternatives (placed_parts ps))) t ∙ ap (λ l. flat_map (pieces_of_part k (sightings ps) l) (with_alternatives (placed_parts ps))) v)
    ∙ ap (make (visible_names (variables ps)) (has_this ps) (flat_map (pieces_of_part k (sightings ps) (variables ps)) (with_alternatives (placed_parts ps))) (cascade_of k (cascades ps)))
    (m ∙ ap (λ l. fold (add_mention k) [] (flat_map (λ (x : ℕ × Use). mentioned_by k x.1) l)) u ∙ ap (fold (add_mention k) []) (by_level (mentioned_by k) ps))

-- the mentions so far, and what is left to mention
pub record IsMentioning (k : Known) (us : List (ℕ × Use)) (i : ℕ) (now : List Mention) : Type 0 where
  pub left : fold (add_mention k) now (flat_map (λ (u : ℕ × Use). mentioned_by k u.1) (drop i us)) ≡ fold (add_mention k) [] (flat_map (λ (u : ℕ × Use). mentioned_by k u.1) us)

pub one_mentioned : {Y : Type 0} (k : Known) (view : Y → ℕ × Use) (ys : List Y) (i : ℕ) (now next : List Mention) (more : List EntityId) (d : Y) → IsMentioning k (map view ys) i now → i < length ys → mentioned_by k (view (get_or ys i d)).1 ≡ more
    → next ≡ fold (add_mention k) now more → IsMentioning k (map view ys) (i + 1) next
one_mentioned k view ys i now next more d a h same e =
    let us = map view ys in
    let f : ℕ × Use → List EntityId = λ x. mentioned_by k x.1 in
    let rest = flat_map f (drop (i + 1) us) in
    let within : i < length us = rw (length-map ys view) h in
    record {
      left =
          ap (λ ms. fold (add_mention k) ms rest) e ∙ sym (fold-append (add_mention k) now more rest)
          ∙ ap (λ l. fold (add_mention k) now (l ++ rest)) (sym (ap f (get_or-map view ys i d (view d) h) ∙ same))
          ∙ ap (λ l. fold (add_mention k) now (flat_map f l)) (sym (drop_more us i (view d) within))
          ∙ a.left;
    }

pub all_mentioned : (k : Known) (us : List (ℕ × Use)) (i : ℕ) (now : List Mention) → IsMentioning k us i now → length us ≤ i → now ≡ fold (add_mention k) [] (flat_map (λ (x : ℕ × Use). mentioned_by k x.1) us)
all_mentioned k us i now a h = ap (λ l. fold (add_mention k) now (flat_map (λ (x : ℕ × Use). mentioned_by k x.1) l)) (sym (drop_all i us h)) ∙ a.left

-- what alternatives ask, one more at a time
module _ {Y : Type 0} (f : TermSyntax → Y) (start now : List Y) (ps : List Part) (i : ℕ) (p : Part) (h : i < length ps) (is : get_or ps i p ≡ p) (a : now ++ map f (alternatives (drop i ps)) ≡ start ++ map f (alternatives ps)) where
  pub none_asked : as_alternative p ≡ None → now ≡ start ++ map f (alternatives ps)
  none_asked e = sym (append-nil now) ∙ ap (λ l. now ++ map f l) (sym (no_alternative ps i p h is e)) ∙ a

  pub one_asked : (t : TermSyntax) → as_alternative p ≡ Some t → (y : Y) → y ≡ f t → (next : List Y) → next ≡ now ++ y ∷ [] → next ++ map f (alternatives (drop (i + 1) ps)) ≡ start ++ map f (alternatives ps)
  one_asked t e y is_t next n =
      let rest = map f (alternatives (drop (i + 1) ps)) in
      ap (λ l. l ++ rest) n ∙ append_assoc now (y ∷ []) rest ∙ ap (λ z. now ++ z ∷ rest) is_t
      ∙ ap (λ l. now ++ map f l) (sym (one_alternative ps i p h is t e)) ∙ a
