-- The references and the variables of parts, as the code collects them.
use Rattle.std.specs.Prelude.{◌≡◌, ◌≢◌, ℕ, zero, suc, ◌+◌, ◌-◌, ◌<◌, ◌≤◌, ◌==◌, ◌&&◌, ◌||◌, Bool, true, false, List, [], ◌∷◌, ◌++◌, map, flat_map, drop, take, length, Option, None, Some, option_map, option_to_list}
use Rattle.std.proofs.lemmas.Bool.{ne_eqb}
use Rattle.std.specs.List.{list_all, list_any}
use Rattle.std.proofs.Common.{eq-eqb, ap, sym, ◌∙◌, refl, get_or, arith}
use Rattle.std.proofs.lemmas.List.{append-nil, append_assoc, drop_more, drop_all, get_or-map, length-map, map-append, drop-map, length-drop}
use Rattle.std.proofs.Math.Seq.{take-length}
use Rattle.std.proofs.lemmas.Grind.{flat_map-append}
use Rattle.std.proofs.Math.Bool.{and-false}
use Rattle.query_model.specs.declared.Span.{Span}
use Rattle.query_model.specs.declared.syntax.Role.TheVariants.{And, Or, Not, Optional}
use Rattle.query_check.specs.declared.uses.Use as code_use
use Rattle.query_check.specs.declared.scope.Occurrence as code_occurrence
use Rattle.query_check.specs.declared.places.PartPlace.{PartPlace}
use Rattle.query_check.specs.Places.{place_of, place_of_part, places_of}
use Rattle.query_check.specs.Seen.{as_alternative, at_level, level_uses, level_uses_of, seen_use, seen_occurrence, sighted, sighting_of}
use Rattle.query_model.specs.Levels.{Path, alternatives, level_of, path_behind, placed, placed_parts, with_alternatives}
use Rattle.query_model.specs.Scope.{binds, binds_in, is_bound, occurrence_of, occurrences_of, sighting, sightings, spoken_at}
use Rattle.query_model.specs.Syntax.{Part, Spoken, TermSyntax, Word, Var, Any, AnyOnce, term, opened, closed, equality}
use Rattle.query_model.specs.Uses.{Use, uses_of}

-- the parts that have paths are the parts
pub placed-parts : (n : ℕ) (path : Path) (ps : List Part) → map (λ p. p.1) (placed n path ps) ≡ ps
placed-parts n path [] = refl
placed-parts n path (p ∷ ps) = ap (λ qs. p ∷ qs) (placed-parts (n + 1) (path_behind n path p) ps)

pub placed-length : (ps : List Part) → length (placed_parts ps) ≡ length ps
placed-length ps = sym (length-map (placed_parts ps) (λ p. p.1)) ∙ ap length (placed-parts 1 [] ps)

-- what is left of a list that is gone through
pub record HasLeft {X A : Type 0} (f : X → List A) (xs : List X) (i : ℕ) (start now : List A) : Type 0 where
  pub whole : now ++ flat_map f (drop i xs) ≡ start ++ flat_map f xs

pub all_left : {X A : Type 0} (f : X → List A) (xs : List X) (start : List A) → HasLeft f xs 0 start start
all_left f xs start = record { whole = refl }

pub none_left : {X A : Type 0} (f : X → List A) (xs : List X) (i : ℕ) (start now : List A) → HasLeft f xs i start now → length xs ≤ i → now ≡ start ++ flat_map f xs
none_left f xs i start now l h = sym (append-nil now) ∙ ap (λ ys. now ++ flat_map f ys) (sym (drop_all i xs h)) ∙ l.whole

pub one_less : {X A : Type 0} (f : X → List A) (xs : List X) (i : ℕ) (start now next more : List A) (d : X) → HasLeft f xs i start now → i < length xs → f (get_or xs i d) ≡ more → next ≡ now ++ more → HasLeft f xs (i + 1) start next
one_less f xs i start now next more d l h same e = record {
  whole =
      ap (λ ys. ys ++ flat_map f (drop (i + 1) xs)) e ∙ append_assoc now more _
      ∙ ap (λ y. now ++ (y ++ flat_map f (drop (i + 1) xs))) (sym same)
      ∙ ap (λ ys. now ++ flat_map f ys) (sym (drop_more xs i d h))
      ∙ l.whole;
}

-- the same where the list is seen
pub one_seen_less : {X Y A : Type 0} (view : Y → X) (f : X → List A) (ys : List Y) (i : ℕ) (start now next more : List A) (d : Y) → HasLeft f (map view ys) i start now → i < length ys → f (view (get_or ys i d)) ≡ more → next ≡ now ++ more
    → HasLeft f (map view ys) (i + 1) start next
one_seen_less view f ys i start now next more d l h same e =
    one_less f (map view ys) i start now next more (view d) l (rw (length-map ys view) h) (ap f (get_or-map view ys i d (view d) h) ∙ same) e

-- a part with its path, as the code knows both
pub record IsPartAt (ps : List Part) (i : ℕ) (p : Part) (q : PartPlace) : Type 0 where
  pub within : i < length (placed_parts ps)
  pub part : (get_or (placed_parts ps) i ([], p)).1 ≡ p
  pub place : place_of (get_or (placed_parts ps) i ([], p)).0 ≡ q

pub part_at : (ps : List Part) (i : ℕ) (p : Part) (places : List PartPlace) (d : PartPlace) → places ≡ places_of ps → i < length ps → get_or ps i p ≡ p → IsPartAt ps i p (get_or places i d)
part_at ps i p places d e h same =
    let within : i < length (placed_parts ps) = rw (placed-length ps) h in
    record {
      within = within;
      part = sym (get_or-map (λ (q : Path × Part). q.1) (placed_parts ps) i ([], p) p within) ∙ ap (λ qs. get_or qs i p) (placed-parts 1 [] ps) ∙ same;
      place = sym (get_or-map place_of_part (placed_parts ps) i ([], p) d within) ∙ ap (λ qs. get_or qs i d) (sym e);
    }

-- the references of one more part
pub part_used : (ps : List Part) (i : ℕ) (p : Part) (q : PartPlace) (start now next : List (ℕ × Use)) → HasLeft level_uses_of (placed_parts ps) i start now → IsPartAt ps i p q
    → next ≡ now ++ map (at_level q.level) (uses_of p) → HasLeft level_uses_of (placed_parts ps) (i + 1) start next
part_used ps i p q start now next l at e =
    one_less level_uses_of (placed_parts ps) i start now next (map (at_level q.level) (uses_of p)) ([], p) l at.within
    (ap (λ r. map (at_level (level_of (get_or (placed_parts ps) i ([], p)).0)) (uses_of r)) at.part ∙ ap (λ r. map (at_level r.level) (uses_of p)) at.place)
    e

-- whether an item that passes stands among the first items, or one that doesn't
pub record NoneYet {X Y : Type 0} (test : X → Bool) (view : Y → X) (ys : List Y) (i : ℕ) : Type 0 where
  pub same : list_any test (map view ys) ≡ list_any test (map view (drop i ys))

pub record AllYet {X Y : Type 0} (test : X → Bool) (view : Y → X) (ys : List Y) (i : ℕ) : Type 0 where
  pub same : list_all test (map view ys) ≡ list_all test (map view (drop i ys))

-- what a list has that was added to, or not
pub added : {X Y : Type 0} (view : Y → X) (o : Option Y) (x : Y) (old new : List Y) → o ≡ Some x → new ≡ old ++ x ∷ [] → map view new ≡ map view old ++ option_to_list (option_map view o)
added view o x old new is e = ap (map view) e ∙ map-append view old (x ∷ []) ∙ ap (λ p. map view old ++ option_to_list (option_map view p)) (sym is)

pub not_added : {X Y : Type 0} (view : Y → X) (o : Option Y) (old new : List Y) → o ≡ None → new ≡ old → map view new ≡ map view old ++ option_to_list (option_map view o)
not_added view o old new is e = ap (map view) e ∙ sym (append-nil (map view old)) ∙ ap (λ p. map view old ++ option_to_list (option_map view p)) (sym is)

-- the sightings of references are those of the occurrences
sighted-spoken : (path : Path) (w : Spoken) (s : Span) → sighted (level_of path) w s ≡ map sighting (spoken_at path w s)
sighted-spoken path (Word n) s = refl
sighted-spoken path (Var n) s = refl
sighted-spoken path Any s = refl
sighted-spoken path AnyOnce s = refl

sighted-uses : (path : Path) (us : List Use) → flat_map sighting_of (map (at_level (level_of path)) us) ≡ map sighting (flat_map (occurrence_of path) us)
sighted-uses path [] = refl
sighted-uses path (u ∷ us) =
    ap (λ ys. ys ++ flat_map sighting_of (map (at_level (level_of path)) us)) (sighted-spoken path (u.reference).spoken (u.reference).span)
    ∙ ap (λ ys. map sighting (occurrence_of path u) ++ ys) (sighted-uses path us)
    ∙ sym (map-append sighting (occurrence_of path u) (flat_map (occurrence_of path) us))

sighted-placed : (qs : List (Path × Part)) → flat_map sighting_of (flat_map level_uses_of qs) ≡ map sighting (flat_map occurrences_of qs)
sighted-placed [] = refl
sighted-placed (q ∷ qs) =
    flat_map-append sighting_of (level_uses_of q) (flat_map level_uses_of qs)
    ∙ ap (λ ys. ys ++ flat_map sighting_of (flat_map level_uses_of qs)) (sighted-uses q.0 (uses_of q.1))
    ∙ ap (λ ys. map sighting (occurrences_of q) ++ ys) (sighted-placed qs)
    ∙ sym (map-append sighting (occurrences_of q) (flat_map occurrences_of qs))

sightings_by_uses : (ps : List Part) → flat_map sighting_of (level_uses ps) ≡ sightings ps
sightings_by_uses ps = sighted-placed (placed_parts ps)

-- the occurrences that are read off references
pub found_are : (ps : List Part) (used us : List code_use.Use) (all found : List code_occurrence.Occurrence) → us ≡ used → map seen_use used ≡ level_uses ps → found ≡ all → map seen_occurrence all ≡ flat_map sighting_of (map seen_use us)
    → map seen_occurrence found ≡ sightings ps
found_are ps used us all found u is f by =
    ap (map seen_occurrence) f ∙ by ∙ ap (λ l. flat_map sighting_of (map seen_use l)) u ∙ ap (flat_map sighting_of) is ∙ sightings_by_uses ps

-- tests of a level, and then of another thing
pub both : (l m : ℕ) (b : Bool) → l ≡ m → true ≡ b → (l == m && b) ≡ true
both l m b e h = ap (λ t. t && b) (eq-eqb l m e) ∙ sym h

pub not_second : (l m : ℕ) (b : Bool) → false ≡ b → (l == m && b) ≡ false
not_second l m b h = ap (λ t. l == m && t) (sym h) ∙ and-false (l == m)

pub not_first : (l m : ℕ) (b : Bool) → l ≢ m → (l == m && b) ≡ false
not_first l m b ne = ap (λ t. t && b) (ne_eqb l m ne)

-- each part with the alternatives after it
pub followed-length : (qs : List (Path × Part)) → length (with_alternatives qs) ≡ length qs
followed-length [] = refl
followed-length (q ∷ qs) = ap suc (followed-length qs)

followed_get : (qs : List (Path × Part)) (i : ℕ) (d : Path × Part) → i < length qs → get_or (with_alternatives qs) i (d, []) ≡ (get_or qs i d, alternatives (map (λ q. q.1) (drop (suc i) qs)))
followed_get [] i d h = absurd (omega arith)
followed_get (q ∷ qs) zero d h = refl
followed_get (q ∷ qs) (suc i) d h = followed_get qs i d (omega arith)

parts_behind : (ps : List Part) (i : ℕ) → map (λ q. q.1) (drop i (placed_parts ps)) ≡ drop i ps
parts_behind ps i = sym (drop-map (λ q. q.1) i (placed_parts ps)) ∙ ap (drop i) (placed-parts 1 [] ps)

-- a part with its path and the alternatives after it, as the code knows them
pub record IsFollowedAt (ps : List Part) (i : ℕ) (p : Part) (q : PartPlace) (others : List TermSyntax) : Type 0 where
  pub at : IsPartAt ps i p q
  pub within : i < length (with_alternatives (placed_parts ps))
  pub is : get_or (with_alternatives (placed_parts ps)) i (([], p), []) ≡ (get_or (placed_parts ps) i ([], p), others)

pub followed_at : (ps : List Part) (i : ℕ) (p : Part) (q : PartPlace) (behind : List Part) → IsPartAt ps i p q → behind ≡ drop (i + 1) ps → IsFollowedAt ps i p q (alternatives behind)
followed_at ps i p q behind at e =
    let next : suc i ≡ i + 1 = omega arith in
    let others : alternatives (map (λ q. q.1) (drop (suc i) (placed_parts ps))) ≡ alternatives behind = ap alternatives (parts_behind ps (suc i) ∙ ap (λ k. drop k ps) next ∙ sym e) in
    record {
      at = at;
      within = rw (followed-length (placed_parts ps)) at.within;
      is = followed_get (placed_parts ps) i ([], p) at.within ∙ ap (λ l. (get_or (placed_parts ps) i ([], p), l)) others;
    }

-- whether one of the parts from a number on binds a variable
pub record IsBoundBehind (ps : List Part) (n : List ℕ) (level : ℕ) (i : ℕ) : Type 0 where
  pub same : is_bound ps n level ≡ list_any (binds_in n level) (drop i (with_alternatives (placed_parts ps)))

module _ (ps : List Part) (n : List ℕ) (level : ℕ) where
  pub none_binds : (i : ℕ) → IsBoundBehind ps n level i → length ps ≤ i → false ≡ is_bound ps n level
  none_binds i b h = sym (b.same ∙ ap (list_any (binds_in n level)) (drop_all i (with_alternatives (placed_parts ps)) (rw (followed-length (placed_parts ps), placed-length ps) h)))

  module _ (i : ℕ) (b : IsBoundBehind ps n level i) (p : Part) (q : PartPlace) (others : List TermSyntax) (f : IsFollowedAt ps i p q others) where
    abbrev rest : Bool
    rest = list_any (binds_in n level) (drop (i + 1) (with_alternatives (placed_parts ps)))

    split : is_bound ps n level ≡ (q.level == level && binds n others p || rest)
    split =
        b.same ∙ ap (list_any (binds_in n level)) (drop_more (with_alternatives (placed_parts ps)) i (([], p), []) f.within)
        ∙ ap (λ r. binds_in n level r || rest) f.is
        ∙ ap (λ r. level_of (get_or (placed_parts ps) i ([], p)).0 == level && binds n others r || rest) (f.at).part
        ∙ ap (λ (r : PartPlace). r.level == level && binds n others p || rest) (f.at).place

    pub one_binds : (q.level == level && binds n others p) ≡ true → true ≡ is_bound ps n level
    one_binds e = sym (split ∙ ap (λ t. t || rest) e)

    pub this_binds_not : (q.level == level && binds n others p) ≡ false → IsBoundBehind ps n level (i + 1)
    this_binds_not e = record { same = split ∙ ap (λ t. t || rest) e }

-- the alternatives at the beginning of parts, by the first part
alternatives-end : (p : Part) (ps : List Part) → as_alternative p ≡ None → alternatives (p ∷ ps) ≡ []
alternatives-end (term Or t) ps e = absurd (let some : Some t ≡ None = e in cc)
alternatives-end (term And t) ps e = refl
alternatives-end (term Not t) ps e = refl
alternatives-end (term Optional t) ps e = refl
alternatives-end (opened s) ps e = refl
alternatives-end closed ps e = refl
alternatives-end (equality v same r) ps e = refl

alternatives-more : (p : Part) (ps : List Part) (t : TermSyntax) → as_alternative p ≡ Some t → alternatives (p ∷ ps) ≡ t ∷ alternatives ps
alternatives-more (term Or u) ps t e = let same : u ≡ t = cc in ap (λ x. x ∷ alternatives ps) same
alternatives-more (term And u) ps t e = absurd (let none : None ≡ Some t = e in cc)
alternatives-more (term Not u) ps t e = absurd (let none : None ≡ Some t = e in cc)
alternatives-more (term Optional u) ps t e = absurd (let none : None ≡ Some t = e in cc)
alternatives-more (opened s) ps t e = absurd (let none : None ≡ Some t = e in cc)
alternatives-more closed ps t e = absurd (let none : None ≡ Some t = e in cc)
alternatives-more (equality v same r) ps t e = absurd (let none : None ≡ Some t = e in cc)

module _ (ps : List Part) (i : ℕ) (p : Part) (h : i < length ps) (is : get_or ps i p ≡ p) where
  front : alternatives (drop i ps) ≡ alternatives (p ∷ drop (i + 1) ps)
  front = ap alternatives (drop_more ps i p h) ∙ ap (λ x. alternatives (x ∷ drop (i + 1) ps)) is

  pub no_alternative : as_alternative p ≡ None → alternatives (drop i ps) ≡ []
  no_alternative e = front ∙ alternatives-end p (drop (i + 1) ps) e

  pub one_alternative : (t : TermSyntax) → as_alternative p ≡ Some t → alternatives (drop i ps) ≡ t ∷ alternatives (drop (i + 1) ps)
  one_alternative t e = front ∙ alternatives-more p (drop (i + 1) ps) t e

-- whether the alternatives at the beginning of parts all pass a test, which those before a number do
pub record AlternativesYet (test : TermSyntax → Bool) (ps : List Part) (i : ℕ) : Type 0 where
  pub same : list_all test (alternatives ps) ≡ list_all test (alternatives (drop i ps))

module _ (test : TermSyntax → Bool) (ps : List Part) (i : ℕ) (p : Part) (h : i < length ps) (is : get_or ps i p ≡ p) (a : AlternativesYet test ps i) where
  pub no_more : as_alternative p ≡ None → true ≡ list_all test (alternatives ps)
  no_more e = sym (a.same ∙ ap (list_all test) (no_alternative ps i p h is e))

  module _ (t : TermSyntax) (e : as_alternative p ≡ Some t) where
    pub one_fails : false ≡ test t → false ≡ list_all test (alternatives ps)
    one_fails f = sym (a.same ∙ ap (list_all test) (one_alternative ps i p h is t e) ∙ ap (λ b. b && list_all test (alternatives (drop (i + 1) ps))) (sym f))

    pub one_passes : true ≡ test t → AlternativesYet test ps (i + 1)
    one_passes f = record { same = a.same ∙ ap (list_all test) (one_alternative ps i p h is t e) ∙ ap (λ b. b && list_all test (alternatives (drop (i + 1) ps))) (sym f) }

-- what stands after a number, seen
pub behind_seen : {X Y : Type 0} (view : X → Y) (xs : List X) (n : ℕ) → map view (take (length xs - n) (drop n xs)) ≡ drop n (map view xs)
behind_seen view xs n =
    ap (λ k. map view (take k (drop n xs))) (sym (length-drop n xs)) ∙ ap (map view) (take-length (drop n xs)) ∙ sym (drop-map view n xs)

-- what is read off references, whatever their levels
module _ {A : Type 0} (f : Use → List A) where
  of_level : (l : ℕ) (us : List Use) → flat_map (λ (u : ℕ × Use). f u.1) (map (at_level l) us) ≡ flat_map f us
  of_level l [] = refl
  of_level l (u ∷ us) = ap (λ ys. f u ++ ys) (of_level l us)

  of_placed : (qs : List (Path × Part)) → flat_map (λ (u : ℕ × Use). f u.1) (flat_map level_uses_of qs) ≡ flat_map f (flat_map uses_of (map (λ q. q.1) qs))
  of_placed [] = refl
  of_placed (q ∷ qs) =
      flat_map-append (λ (u : ℕ × Use). f u.1) (level_uses_of q) (flat_map level_uses_of qs)
      ∙ ap (λ ys. ys ++ flat_map (λ (u : ℕ × Use). f u.1) (flat_map level_uses_of qs)) (of_level _ (uses_of q.1))
      ∙ ap (λ ys. flat_map f (uses_of q.1) ++ ys) (of_placed qs)
      ∙ sym (flat_map-append f (uses_of q.1) (flat_map uses_of (map (λ q. q.1) qs)))

  pub by_level : (ps : List Part) → flat_map (λ (u : ℕ × Use). f u.1) (level_uses ps) ≡ flat_map f (flat_map uses_of ps)
  by_level ps = of_placed (placed_parts ps) ∙ ap (λ qs. flat_map f (flat_map uses_of qs)) (placed-parts 1 [] ps)
