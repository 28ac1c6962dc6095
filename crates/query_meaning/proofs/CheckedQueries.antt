-- Every query that a text asks is sound.
use Rattle.std.specs.Prelude.{◌≡◌, ◌⊎◌, ℕ, ◌<◌, ◌==◌, Bool, true, false, not, ◌&&◌, ◌||◌, List, [], ◌∷◌, map, flat_map, length, bytes_eq, if◌then◌else◌}
use Rattle.std.specs.List.{list_any}
use Rattle.std.proofs.Common.{ap, sym, ◌∙◌, refl, subst, inl, inr, eq-eqb, arith}
use Rattle.std.proofs.lemmas.List.{map-append}
use Rattle.std.proofs.lemmas.List.Folds.{list_any-append}
use Rattle.std.proofs.lemmas.Slice.Eq.{bytes_eq-Decides}
use Rattle.query_model.specs.declared.faults.Fault.{Fault}
use Rattle.query_model.specs.declared.faults.FaultKind.TheVariants.{UnboundVariable}
use Rattle.query_model.specs.Faults.{fault_at}
use Rattle.query_model.specs.Tokens.{Token}
use Rattle.query_model.specs.Grammar.{IsQuery}
use Rattle.query_model.specs.Syntax.{Part, Syntax}
use Rattle.query_model.specs.Levels.{Path, placed_parts, with_alternatives}
use Rattle.query_model.specs.Scope.{Occurrence, Sighting, is_bound, occurrences, occurrences_of, occurs_in, outermost, owner, sighting, sightings, this}
use Rattle.query_model.specs.Numbers.{Variable, has_this, is_this, number_from, same_variable, variable_of, variables}
use Rattle.query_model.specs.Check.{Known, faults, unbound, when}
use Rattle.query_model.specs.Query.{Piece, Query, checked_query, visible_names}
use Rattle.query_model.proofs.NumberedVariables.{both, is_among, left_true, parted, right_true, split}
use Rattle.query_model.proofs.ScopedVariables.{queries_are_scoped}
use Rattle.query_model.proofs.FreshVariables.{own_variables_are_new}
use Rattle.query_model.proofs.SoundTerms.{terms_are_sound}
use Rattle.query_meaning.specs.Laws.{CheckedQueriesAreSound}
use Rattle.query_model.proofs.SoundTerms.{left_nil, right_nil}
use Rattle.query_meaning.proofs.AskedQueries.{asked, checked_faultless}
use Rattle.query_meaning.proofs.DistinctVariables.{distinct_among, one_variable, this_is_first, this_or_occurs, visible_number}
use Rattle.query_meaning.proofs.OwnOccurrences.{mentions, own_of_pieces, pieces_from, Remain, whole_occurs}
use Rattle.query_meaning.proofs.SoundLevels.{occurs_among, occurs_in_front, own_variables_occur, sound-from_pieces}
use Rattle.query_meaning.proofs.ThisOccurrences.{this_occurs}

-- ---- what is known of a variable that occurs

module _ (all : List Sighting) where
  abbrev OccursAmong : List Occurrence → Variable → Type 0
  OccursAmong os u = is_among (map (variable_of all) os) u ≡ true

  -- one of the first occurrence, or of others
  occurs_cases : (o : Occurrence) (os : List Occurrence) (u : Variable) → OccursAmong (o ∷ os) u → (u ≡ variable_of all o) ⊎ OccursAmong os u
  occurs_cases o os u e =
      elim (split (same_variable u (variable_of all o)) _ e) [
        | inl s ↦ inl (one_variable u (variable_of all o) s)
        | inr r ↦ inr r
      ]

  same_bytes : (name other : List ℕ) → name ≡ other → bytes_eq name other ≡ true
  same_bytes name other e = (bytes_eq-Decides name other).1 e

  -- `$this` belongs to the whole query
  this_owner : (name : List ℕ) (path : Path) → bytes_eq name this ≡ true → owner all name path ≡ 0
  this_owner name path = by (bytes_eq name this)
    where
      by : (b : Bool) → b ≡ true → ◌≡◌ {A = ℕ} (if b then 0 else (if occurs_in all name 0 then 0 else outermost (occurs_in all name) path)) 0
      by true e = refl
      by false e = absurd (cc)

  this_is_whole : (os : List Occurrence) (u : Variable) → OccursAmong os u → u.0 ≡ this → u.1 ≡ 0
  this_is_whole [] u e t = absurd (let x : false ≡ true = e in cc)
  this_is_whole (o ∷ os) u e t =
      elim (occurs_cases o os u e) [
        | inl s ↦ ap (λ (v : Variable). v.1) s ∙ this_owner o.name o.path (same_bytes o.name this (sym (ap (λ (v : Variable). v.0) s) ∙ t))
        | inr r ↦ this_is_whole os u r t
      ]

  this_is_sighted : (os : List Occurrence) (u : Variable) → OccursAmong os u → u.0 ≡ this → list_any is_this (map sighting os) ≡ true
  this_is_sighted [] u e t = absurd (let x : false ≡ true = e in cc)
  this_is_sighted (o ∷ os) u e t =
      elim (occurs_cases o os u e) [
        | inl s ↦ left_true (is_this (sighting o)) _ (same_bytes o.name this (sym (ap (λ (v : Variable). v.0) s) ∙ t))
        | inr r ↦ right_true (is_this (sighting o)) _ (this_is_sighted os u r t)
      ]

  -- it is mentioned by a part
  part_mentions : (qs : List (Path × Part)) (u : Variable) → OccursAmong (flat_map occurrences_of qs) u → list_any (mentions all u) (with_alternatives qs) ≡ true
  part_mentions [] u e = absurd (let x : false ≡ true = e in cc)
  part_mentions (q ∷ qs) u e =
      let here = occurrences_of q in
      let rest = flat_map occurrences_of qs in
      let parts : (is_among (map (variable_of all) here) u || is_among (map (variable_of all) rest) u) ≡ true =
      sym (ap (list_any (same_variable u)) (map-append (variable_of all) here rest) ∙ list_any-append (same_variable u) (map (variable_of all) here) (map (variable_of all) rest)) ∙ e in
      elim (split (is_among (map (variable_of all) here) u) _ parts) [
        | inl i ↦ left_true (is_among (map (variable_of all) here) u) _ i
        | inr i ↦ right_true (is_among (map (variable_of all) here) u) _ (part_mentions qs u i)
      ]

pub not_faulty : (b : Bool) (f : Fault) → when (not b) f ≡ [] → b ≡ true
not_faulty true f e = refl
not_faulty false f e = absurd (cc)

-- it is bound, unless it is `$this`
each_bound : (ps : List Part) (os : List Occurrence) → flat_map (unbound ps) os ≡ [] → (u : Variable) → OccursAmong (sightings ps) os u → (bytes_eq u.0 this || is_bound ps u.0 u.1) ≡ true
each_bound ps [] n u e = absurd (let x : false ≡ true = e in cc)
each_bound ps (o ∷ os) n u e =
    let v = variable_of (sightings ps) o in
    elim (occurs_cases (sightings ps) o os u e) [
      | inl s ↦
          subst (λ (x : Variable). (bytes_eq x.0 this || is_bound ps x.0 x.1) ≡ true) (sym s)
          (not_faulty (bytes_eq v.0 this || is_bound ps v.0 v.1) (fault_at UnboundVariable o.span) (left_nil (unbound ps o) (flat_map (unbound ps) os) n))
      | inr r ↦ each_bound ps os (right_nil (unbound ps o) (flat_map (unbound ps) os) n) u r
    ]

last_faults : (k : Known) (ps : List Part) → faults k ps ≡ [] → flat_map (unbound ps) (occurrences ps) ≡ []
unfolding faults
last_faults k ps e = right_nil _ (flat_map (unbound ps) (occurrences ps)) (left_nil _ _ e)

-- ---- the pieces

module _ (k : Known) (ts : List Token) (ps : List Part) (grammatical : IsQuery ts ps) (faultless : flat_map (unbound ps) (occurrences ps) ≡ []) where
  abbrev found : List Variable
  found = map (variable_of (sightings ps)) (occurrences ps)

  all_remain : Remain k (sightings ps) (variables ps) 1 [] ps
  all_remain name m among low =
      elim (this_or_occurs (has_this ps) found (name, m) among) [
        | inl t ↦ absurd (let level : m ≡ 0 = ap (λ (v : Variable). v.1) t.1 in omega arith)
        | inr i ↦
            elim (split (bytes_eq name this) (is_bound ps name m) (each_bound ps (occurrences ps) faultless (name, m) i)) [
              | inl t ↦ absurd (let level : m ≡ 0 = this_is_whole (sightings ps) (occurrences ps) (name, m) i ((bytes_eq-Decides name this).0 t) in omega arith)
              | inr b ↦ (b, part_mentions (sightings ps) (placed_parts ps) (name, m) i)
            ]
      ]

  abbrev pieces : List Piece
  pieces = pieces_from k (sightings ps) (variables ps) 1 [] ps

  own_occur : own_variables_occur pieces ≡ true
  own_occur = own_of_pieces k (sightings ps) (variables ps) (distinct_among (has_this ps) found) 1 [] ps (omega arith) (λ l e. absurd (let x : false ≡ true = e in cc)) all_remain

  abbrev IsShown : ℕ → Type 0
  IsShown v = (occurs_in_front true 0 pieces v || has_this ps && v == 0 && occurs_among pieces v) ≡ true

  -- `$this` has the first number
  this_shown : (v : ℕ) → has_this ps ≡ true → number_from 0 (this, 0) (variables ps) ≡ v → IsShown v
  this_shown v t n =
      let first = this_is_first (has_this ps) found t in
      let zero_is : v ≡ 0 = sym n ∙ first in
      right_true (occurs_in_front true 0 pieces v) _
      (both (has_this ps && v == 0) (occurs_among pieces v) (both (has_this ps) (v == 0) t (eq-eqb v 0 zero_is))
      (ap (occurs_among pieces) zero_is ∙ this_occurs k (sightings ps) (variables ps) first ts ps grammatical t))

  all_shown : (v : ℕ) → v < length (visible_names (variables ps)) → IsShown v
  all_shown v l =
      let h = visible_number v (variables ps) (parted (has_this ps) found) (distinct_among (has_this ps) found) l in
      elim (this_or_occurs (has_this ps) found (h.0, 0) h.1) [
        | inl t ↦ this_shown v t.0 (ap (λ u. number_from 0 u (variables ps)) (sym t.1) ∙ h.2)
        | inr i ↦
            elim (split (bytes_eq h.0 this) (is_bound ps h.0 0) (each_bound ps (occurrences ps) faultless (h.0, 0) i)) [
              | inl t ↦
                  let same : h.0 ≡ this = (bytes_eq-Decides h.0 this).0 t in
                  this_shown v (left_true (list_any is_this (sightings ps)) _ (this_is_sighted (sightings ps) (occurrences ps) (h.0, 0) i same))
                  (ap (λ (n : List ℕ). number_from 0 (n, 0) (variables ps)) (sym same) ∙ h.2)
              | inr b ↦
                  left_true (occurs_in_front true 0 pieces v) _ (ap (occurs_in_front true 0 pieces) (sym h.2) ∙ whole_occurs k (sightings ps) (variables ps) h.0 ps b)
            ]
      ]

-- ---- the query

module _ (k : Known) (ts : List Token) (s : Syntax) (grammatical : IsQuery ts s.parts) (faultless : flat_map (unbound s.parts) (occurrences s.parts) ≡ []) where
  owned_of : own_variables_occur (checked_query k s).pieces ≡ true
  unfolding checked_query
  owned_of = own_occur k ts s.parts grammatical faultless

  shown_of : (v : ℕ) → v < length (checked_query k s).variables → (occurs_in_front true 0 (checked_query k s).pieces v || (checked_query k s).has_this && v == 0 && occurs_among (checked_query k s).pieces v) ≡ true
  unfolding checked_query
  shown_of v l = all_shown k ts s.parts grammatical faultless v l

pub checked_queries_are_sound : CheckedQueriesAreSound
checked_queries_are_sound k text q e =
    let a = asked k text q e in
    let s = a.1 in
    let c = checked_faultless k s q a.3 in
    let faultless = last_faults k s.parts c.0 in
    sound-from_pieces q (record {
      items = terms_are_sound k s q a.3;
      scoped = queries_are_scoped k a.0 s q a.2 a.3;
      new = own_variables_are_new k s q a.3;
      owned = ap (λ (x : Query). own_variables_occur x.pieces) (sym c.1) ∙ owned_of k a.0 s a.2 faultless;
      shown =
          subst (λ (x : Query). (v : ℕ) → v < length x.variables → (occurs_in_front true 0 x.pieces v || x.has_this && v == 0 && occurs_among x.pieces v) ≡ true) c.1
          (shown_of k a.0 s a.2 faultless);
    })
