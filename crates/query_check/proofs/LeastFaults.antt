-- The least of lists of faults, one item at a time.
use Rattle.std.specs.Prelude.{◌≡◌, ℕ, ◌+◌, ◌<◌, List, [], ◌∷◌, ◌++◌, map, flat_map, drop, length, Option, None}
use Rattle.std.proofs.Common.{ap, sym, ◌∙◌, get_or}
use Rattle.std.proofs.lemmas.List.{drop_more, get_or-map, length-map}
use Rattle.std.proofs.lemmas.List.Sums.{fold-append}
use Rattle.query_model.specs.declared.faults.Fault.{Fault}
use Rattle.query_check.specs.declared.places.PartPlace.{PartPlace}
use Rattle.query_check.specs.Seen.{level_uses}
use Rattle.query_model.specs.Cascades.{Cascading, cascades, misplaced}
use Rattle.query_model.specs.Check.{Known, cascade_fault, counted_spans, faults, faults_of_use, item_at, most_names, most_terms, new_names, too_deep, too_deep_part, unbound}
use Rattle.query_model.specs.Faults.{fault_at, least_from, lesser}
use Rattle.query_model.specs.Levels.{Path, placed_parts}
use Rattle.query_model.specs.Scope.{Sighting, occurrences, sightings, this}
use Rattle.query_model.specs.Syntax.{Part}
use Rattle.query_model.specs.Uses.{Use, uses_of}
use Rattle.query_model.specs.declared.faults.FaultKind.TheVariants.{TooManyTerms, TooManyVariables}
use Rattle.query_check.proofs.PartReferences.{IsPartAt, by_level}

-- the faults of the first items are judged, and those of the others are left
pub record IsJudging {X : Type 0} (f : X → List Fault) (xs : List X) (i : ℕ) (found least : Option Fault) : Type 0 where
  pub whole : least_from least (flat_map f (drop i xs)) ≡ least_from found (flat_map f xs)

pub one_judged : {X : Type 0} (f : X → List Fault) (xs : List X) (i : ℕ) (found least next : Option Fault) (more : List Fault) (d : X) → IsJudging f xs i found least → i < length xs → f (get_or xs i d) ≡ more → next ≡ least_from least more
    → IsJudging f xs (i + 1) found next
one_judged f xs i found least next more d j h same e = record {
  whole =
      ap (λ o. least_from o (flat_map f (drop (i + 1) xs))) (e ∙ ap (least_from least) (sym same))
      ∙ sym (fold-append lesser least (f (get_or xs i d)) (flat_map f (drop (i + 1) xs)))
      ∙ ap (λ l. least_from least (flat_map f l)) (sym (drop_more xs i d h))
      ∙ j.whole;
}

pub one_seen_judged : {X Y : Type 0} (view : Y → X) (f : X → List Fault) (ys : List Y) (i : ℕ) (found least next : Option Fault) (more : List Fault) (d : Y) → IsJudging f (map view ys) i found least → i < length ys → f (view (get_or ys i d)) ≡ more
    → next ≡ least_from least more → IsJudging f (map view ys) (i + 1) found next
one_seen_judged view f ys i found least next more d j h same e =
    one_judged f (map view ys) i found least next more (view d) j (rw (length-map ys view) h) (ap f (get_or-map view ys i d (view d) h) ∙ same) e

-- the depth of one more part
pub depth_judged : (ps : List Part) (i : ℕ) (p : Part) (q : PartPlace) (found least next : Option Fault) (more : List Fault) → IsJudging too_deep_part (placed_parts ps) i found least → IsPartAt ps i p q
    → ((path : Path) → length path ≡ q.depth → more ≡ too_deep path p) → next ≡ least_from least more → IsJudging too_deep_part (placed_parts ps) (i + 1) found next
depth_judged ps i p q found least next more j at deep e =
    one_judged too_deep_part (placed_parts ps) i found least next more ([], p) j at.within
    (ap (too_deep (get_or (placed_parts ps) i ([], p)).0) at.part ∙ sym (deep (get_or (placed_parts ps) i ([], p)).0 (ap (λ r. r.depth) at.place)))
    e

-- all kinds, one after the other
pub all_kinds_judged : (k : Known) (ps : List Part) (a b c d e f : Option Fault) (us : List (ℕ × Use)) (ss : List Sighting) (cs : List Cascading) → us ≡ level_uses ps → ss ≡ sightings ps → cs ≡ cascades ps
    → a ≡ least_from None (flat_map (λ (u : ℕ × Use). faults_of_use k u.1) us)
    → b ≡ least_from a (flat_map too_deep_part (placed_parts ps))
    → c ≡ least_from b (map (fault_at TooManyTerms) (item_at most_terms (flat_map counted_spans ps)))
    → d ≡ least_from c (map (λ s. fault_at TooManyVariables s.span) (item_at most_names (new_names (this ∷ []) ss)))
    → e ≡ least_from d (flat_map (unbound ps) (occurrences ps))
    → f ≡ least_from e (flat_map cascade_fault (misplaced cs))
    → f ≡ least_from None (faults k ps)
unfolding faults
all_kinds_judged k ps a b c d e f us ss cs u s w p q r t v x =
    let uses = flat_map (faults_of_use k) (flat_map uses_of ps) in
    let deep = flat_map too_deep_part (placed_parts ps) in
    let terms = map (fault_at TooManyTerms) (item_at most_terms (flat_map counted_spans ps)) in
    let names = map (λ (x : Sighting). fault_at TooManyVariables x.span) (item_at most_names (new_names (this ∷ []) (sightings ps))) in
    let free = flat_map (unbound ps) (occurrences ps) in
    let by_uses : a ≡ least_from None uses = p ∙ ap (λ l. least_from None (flat_map (λ (x : ℕ × Use). faults_of_use k x.1) l)) u ∙ ap (least_from None) (by_level (faults_of_use k) ps) in
    let by_depth : b ≡ least_from None (uses ++ deep) = q ∙ ap (λ o. least_from o deep) by_uses ∙ sym (fold-append lesser None uses deep) in
    let by_terms : c ≡ least_from None (uses ++ deep ++ terms) = r ∙ ap (λ o. least_from o terms) by_depth ∙ sym (fold-append lesser None (uses ++ deep) terms) in
    let by_names : d ≡ least_from None (uses ++ deep ++ terms ++ names) =
    t ∙ ap (λ l. least_from c (map (λ (x : Sighting). fault_at TooManyVariables x.span) (item_at most_names (new_names (this ∷ []) l)))) s ∙ ap (λ o. least_from o names) by_terms
    ∙ sym (fold-append lesser None (uses ++ deep ++ terms) names) in
    let by_free : e ≡ least_from None (uses ++ deep ++ terms ++ names ++ free) = v ∙ ap (λ o. least_from o free) by_names ∙ sym (fold-append lesser None (uses ++ deep ++ terms ++ names) free) in
    let last = flat_map cascade_fault (misplaced (cascades ps)) in
    x ∙ ap (λ l. least_from e (flat_map cascade_fault (misplaced l))) w ∙ ap (λ o. least_from o last) by_free ∙ sym (fold-append lesser None (uses ++ deep ++ terms ++ names ++ free) last)
