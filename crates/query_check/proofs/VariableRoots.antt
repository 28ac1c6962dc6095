-- Each variable stands on a way to the whole query.
use Rattle.std.specs.Prelude.{◌≡◌, ℕ, ◌+◌, ◌<◌, ◌≤◌, zero, suc, List, [], ◌∷◌, ◌++◌, map, flat_map, length}
use Rattle.std.proofs.Common.{ap, sym, ◌∙◌, subst, get_or, arith, length-append}
use Rattle.std.proofs.lemmas.List.{append_assoc, get_or-map, length-map}
use Rattle.query_model.specs.declared.Span.{Span}
use Rattle.query_check.specs.declared.places.PartPlace.{PartPlace}
use Rattle.query_check.specs.declared.scope.Occurrence as code
use Rattle.query_check.specs.Places.{IsRooted, Rooted, place_of, place_of_part, places_of}
use Rattle.query_check.specs.Seen.{seen_occurrence}
use Rattle.query_model.specs.Levels.{Path, level_of, path_behind, path_in, placed, placed_parts}
use Rattle.query_model.specs.Scope.{Occurrence, occurrence_of, occurrences, occurrences_of, sighting, sightings, spoken_at}
use Rattle.query_model.specs.Syntax.{Part, Spoken, Word, Var, Any, AnyOnce}
use Rattle.query_model.specs.Uses.{Use, uses_of}
use Rattle.query_check.proofs.PartPlaces.{level_before, rooted_behind, rooted_in, rooted_more}

abbrev EachRooted : List PartPlace → List Occurrence → Type 0
EachRooted places [] = Unit {0}
EachRooted places (o ∷ os) = Rooted places o.path × EachRooted places os

each_append : (places : List PartPlace) (xs ys : List Occurrence) → EachRooted places xs → EachRooted places ys → EachRooted places (xs ++ ys)
each_append places [] ys r s = s
each_append places (x ∷ xs) ys r s = (r.0, each_append places xs ys r.1 s)

each_at : (places : List PartPlace) (os : List Occurrence) (i : ℕ) (d : Occurrence) → EachRooted places os → i < length os → Rooted places (get_or os i d).path
each_at places [] i d r h = absurd (omega arith)
each_at places (o ∷ os) zero d r h = r.0
each_at places (o ∷ os) (suc i) d r h = each_at places os i d r.1 (omega arith)

module _ (places : List PartPlace) (path : Path) (r : Rooted places path) where
  each_spoken : (w : Spoken) (s : Span) → EachRooted places (spoken_at path w s)
  each_spoken (Var v) s = (r, tt)
  each_spoken (Word n) s = tt
  each_spoken Any s = tt
  each_spoken AnyOnce s = tt

  each_used : (us : List Use) → EachRooted places (flat_map (occurrence_of path) us)
  each_used [] = tt
  each_used (u ∷ us) = each_append places (occurrence_of path u) (flat_map (occurrence_of path) us) (each_spoken (u.reference).spoken (u.reference).span) (each_used us)

-- the paths of parts
abbrev EachPlaced : List PartPlace → List (Path × Part) → Type 0
EachPlaced places [] = Unit {0}
EachPlaced places (q ∷ qs) = Rooted places q.0 × EachPlaced places qs

each_placed : (done : List PartPlace) (path : Path) (ps : List Part) → Rooted done path
    → EachPlaced (done ++ map place_of_part (placed (length done + 1) path ps)) (placed (length done + 1) path ps)
each_placed done path [] r = tt
each_placed done path (p ∷ ps) r =
    let n = length done + 1 in
    let place = place_of (path_in n path p) in
    let now = done ++ place ∷ [] in
    let behind = path_behind n path p in
    let rest = map place_of_part (placed (n + 1) behind ps) in
    let number : length now + 1 ≡ n + 1 = ap (λ k. k + 1) (length-append done (place ∷ [])) in
    let AtNumber : ℕ → Type 0 = λ k. EachPlaced (now ++ map place_of_part (placed k behind ps)) (placed k behind ps) in
    let AtPlaces : List PartPlace → Type 0 = λ l. Rooted l (path_in n path p) × EachPlaced l (placed (n + 1) behind ps) in
    subst AtPlaces (append_assoc done (place ∷ []) rest)
    (rooted_more now rest (path_in n path p) (rooted_in done path p r), subst AtNumber number (each_placed now behind ps (rooted_behind done path p r)))

each_part : (places : List PartPlace) (qs : List (Path × Part)) (i : ℕ) (d : Path × Part) → EachPlaced places qs → i < length qs → Rooted places (get_or qs i d).0
each_part places [] i d r h = absurd (omega arith)
each_part places (q ∷ qs) zero d r h = r.0
each_part places (q ∷ qs) (suc i) d r h = each_part places qs i d r.1 (omega arith)

pub part_rooted : (ps : List Part) (i : ℕ) (d : Path × Part) → i < length (placed_parts ps) → IsRooted (places_of ps) (get_or (placed_parts ps) i d).0
part_rooted ps i d h = record { is = each_part (places_of ps) (placed_parts ps) i d (each_placed [] [] ps tt) h }

each_occurring : (places : List PartPlace) (qs : List (Path × Part)) → EachPlaced places qs → EachRooted places (flat_map occurrences_of qs)
each_occurring places [] r = tt
each_occurring places (q ∷ qs) r = each_append places (occurrences_of q) (flat_map occurrences_of qs) (each_used places q.0 r.0 (uses_of q.1)) (each_occurring places qs r.1)

-- an occurrence, as the code knows it
pub record IsOccurrenceAt (ps : List Part) (i : ℕ) (o : Occurrence) : Type 0 where
  pub within : i < length (occurrences ps)
  pub rooted : IsRooted (places_of ps) o.path
  pub low : level_of o.path ≤ length (places_of ps)

nowhere : Span
nowhere = record { start = 0; end = 0 }

pub no_occurrence : Occurrence
no_occurrence = record { name = []; path = []; span = nowhere }

pub occurrence_at : (ps : List Part) (i : ℕ) → i < length (sightings ps) → IsOccurrenceAt ps i (get_or (occurrences ps) i no_occurrence)
occurrence_at ps i h =
    let within : i < length (occurrences ps) = let l = length-map (occurrences ps) sighting in omega arith in
    let r = each_at (places_of ps) (occurrences ps) i no_occurrence (each_occurring (places_of ps) (placed_parts ps) (each_placed [] [] ps tt)) within in
    record { within = within; rooted = record { is = r }; low = level_before (places_of ps) (get_or (occurrences ps) i no_occurrence).path r }

-- the same for the occurrence that the code has
pub seen_at : (ps : List Part) (found : List code.Occurrence) (i : ℕ) (d : code.Occurrence) → map seen_occurrence found ≡ sightings ps → i < length found
    → IsOccurrenceAt ps i (get_or (occurrences ps) i no_occurrence) × (sighting (get_or (occurrences ps) i no_occurrence) ≡ seen_occurrence (get_or found i d))
seen_at ps found i d e h =
    let within : i < length (sightings ps) = rw (← e, length-map found seen_occurrence) h in
    let at = occurrence_at ps i within in
    (at, sym (get_or-map sighting (occurrences ps) i no_occurrence (seen_occurrence d) at.within) ∙ ap (λ l. get_or l i (seen_occurrence d)) (sym e) ∙ get_or-map seen_occurrence found i d (seen_occurrence d) h)

-- its level is that of a place
pub level_at : (ps : List Part) (found : List code.Occurrence) (places : List PartPlace) (i : ℕ) (d : code.Occurrence) → map seen_occurrence found ≡ sightings ps → places ≡ places_of ps → i < length found
    → (get_or found i d).level ≤ length places
level_at ps found places i d e p h =
    let at = seen_at ps found i d e h in
    let same : level_of (get_or (occurrences ps) i no_occurrence).path ≡ (get_or found i d).level = ap (λ s. s.level) at.1 in
    let low = at.0.low in
    rw (← same, p) low
