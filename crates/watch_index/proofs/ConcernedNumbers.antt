-- Whomever changes may concern looks out for some of them.
use Rattle.std.specs.Prelude.{◌≡◌, ℕ, Bool, true, false, not, ◌&&◌, ◌||◌, List, [], ◌∷◌, ◌++◌, flat_map, Option, Some, None, if◌then◌else◌}
use Rattle.std.specs.List.{list_any}
use Rattle.std.specs.Option.{option_map_or}
use Rattle.std.proofs.Common.{refl, sym, ap, ◌∙◌, true≢false, ◌⊎◌, inl, inr}
use Rattle.std.proofs.lemmas.Bool.{and_parts, not-true, or_left, or_right}
use Rattle.std.proofs.lemmas.Bool.Decides.{Decides-eqb}
use Rattle.std.proofs.lemmas.List.Folds.{list_any-append}
use Rattle.ecs_id.specs.Id.{Id, plain, pair}
use Rattle.id_pattern.specs.declared.Part.{Part}
use Rattle.id_pattern.specs.declared.Part.TheVariants as part
use Rattle.id_pattern.specs.declared.Pattern.{Pattern}
use Rattle.ecs_model.specs.declared.watches.StoredKind.TheVariants.{Kept, Monitor, OnAdd, OnRemove, OnSet}
use Rattle.ecs_model.specs.rows.Rows.{fits, matches}
use Rattle.ecs_model.specs.stored.Watches.{matches_term, only_term}
use Rattle.ecs_model.specs.World.{Key}
use Rattle.ecs_model.proofs.Members.{eq_itself}
use Rattle.watch_concerns.specs.Anchored.{is_anchored}
use Rattle.watch_concerns.specs.Concerns.{concerns, is_asked_by_all, is_pair_of, leads_up, may_be, may_match, term_concerns}
use Rattle.watch_concerns.proofs.UnaskedVariables.{any_wider}
use Rattle.query_model.specs.declared.query.Ref.{Ref}
use Rattle.query_model.specs.declared.query.Ref.TheVariants as ref
use Rattle.query_model.specs.declared.query.Term.{Term}
use Rattle.query_model.specs.Query.{must, may, either, equal, differ, Piece, item, opening, closing, Query}
use Rattle.query_check.specs.Terms.{piece_terms, terms}
use Rattle.watch_index.specs.declared.occasion.Occasion.{Occasion}
use Rattle.watch_index.specs.declared.occasion.Occasion.TheVariants.{Life, AskedByAll, Fact}
use Rattle.watch_index.specs.declared.occasion.Way.{Way}
use Rattle.watch_index.specs.declared.occasion.Way.TheVariants.{Moves, IsWritten}
use Rattle.watch_index.specs.Laws.{WhomChangesConcernTheyLeadTo, meets}
use Rattle.watch_index.specs.Listed.{is_among}
use Rattle.watch_index.specs.Occasions.{closed_occasions, facts_of, happening, moved, of_all, of_monitors, pairs_of, part_of, pattern_of, term_occasions, up_occasions}
use Rattle.id_pattern.specs.SamePattern.{pattern_eq}
use Rattle.watch_index.specs.SameOccasion.{occasion_eq, same_occasion}

-- ---- occasions and patterns are themselves
pattern_itself : (a : Part) (s : Option Part) → pattern_eq (record { first = a; second = s }) (record { first = a; second = s }) ≡ true
pattern_itself (part.Is n) None = rw (eq_itself n) refl
pattern_itself (part.Is n) (Some (part.Is m)) = rw (eq_itself n, eq_itself m) refl
pattern_itself (part.Is n) (Some part.Any) = rw (eq_itself n) refl
pattern_itself part.Any None = refl
pattern_itself part.Any (Some (part.Is m)) = rw (eq_itself m) refl
pattern_itself part.Any (Some part.Any) = refl

fact_itself : (w : Way) (p : Pattern) → occasion_eq (Fact w p) (Fact w p) ≡ true
fact_itself Moves p = rw (pattern_itself p.first p.second) refl
fact_itself IsWritten p = rw (pattern_itself p.first p.second) refl

-- ---- among occasions
among_front : (o : Occasion) (os : List Occasion) (w : Way) (p : Pattern) → o ≡ Fact w p → is_among (o ∷ os) (Fact w p) ≡ true
among_front o os w p same = or_left (occasion_eq o (Fact w p)) (is_among os (Fact w p)) (ap (λ x. occasion_eq x (Fact w p)) same ∙ fact_itself w p)

among_behind : (one : Occasion) (os : List Occasion) (o : Occasion) → is_among os o ≡ true → is_among (one ∷ os) o ≡ true
among_behind one os o h = or_right (occasion_eq one o) (is_among os o) h

among_right : (os ps : List Occasion) (o : Occasion) → is_among ps o ≡ true → is_among (os ++ ps) o ≡ true
among_right os ps o h = list_any-append (λ one. occasion_eq one o) os ps ∙ or_right (is_among os o) (is_among ps o) h

-- what is looked out for happens
meets_by : (wanted happened : List Occasion) (o : Occasion) → is_among wanted o ≡ true → is_among happened o ≡ true → meets wanted happened ≡ true
meets_by wanted [] o w h = absurd (true≢false (sym h))
meets_by wanted (x ∷ xs) o w h = by (occasion_eq x o) refl h (meets_by wanted xs o w)
  where
    by : (b : Bool) → occasion_eq x o ≡ b → (b || is_among xs o) ≡ true → (is_among xs o ≡ true → meets wanted xs ≡ true) → (is_among wanted x || meets wanted xs) ≡ true
    by true e h rest = or_left (is_among wanted x) (meets wanted xs) (ap (is_among wanted) (same_occasion x o e) ∙ w)
    by false e h rest = or_right (is_among wanted x) (meets wanted xs) (rest h)

module _ (happened : List Occasion) where
  meets_left : (os ps : List Occasion) → meets os happened ≡ true → meets (os ++ ps) happened ≡ true
  meets_left os ps h =
      any_wider (is_among os) (is_among (os ++ ps))
      (λ o e. list_any-append (λ one. occasion_eq one o) os ps ∙ or_left (is_among os o) (is_among ps o) e) happened h

  meets_right : (os ps : List Occasion) → meets ps happened ≡ true → meets (os ++ ps) happened ≡ true
  meets_right os ps h = any_wider (is_among ps) (is_among (os ++ ps)) (λ o e. among_right os ps o e) happened h

  -- of one of some
  meets_flat : {X : Type 0} (f : X → List Occasion) (p : X → Bool) (xs : List X) → ((x : X) → p x ≡ true → meets (f x) happened ≡ true) → list_any p xs ≡ true
      → meets (flat_map f xs) happened ≡ true
  meets_flat f p [] each h = absurd (true≢false (sym h))
  meets_flat f p (x ∷ xs) each h = by (p x) refl h (meets_flat f p xs each)
    where
      by : (b : Bool) → p x ≡ b → (b || list_any p xs) ≡ true → (list_any p xs ≡ true → meets (flat_map f xs) happened ≡ true) → meets (f x ++ flat_map f xs) happened ≡ true
      by true e h rest = meets_left (f x) (flat_map f xs) (each x e)
      by false e h rest = meets_right (f x) (flat_map f xs) (rest h)

module _ (wanted : List Occasion) where
  happens_left : (os ps : List Occasion) → meets wanted os ≡ true → meets wanted (os ++ ps) ≡ true
  happens_left os ps h = list_any-append (is_among wanted) os ps ∙ or_left (meets wanted os) (meets wanted ps) h

  happens_right : (os ps : List Occasion) → meets wanted ps ≡ true → meets wanted (os ++ ps) ≡ true
  happens_right os ps h = list_any-append (is_among wanted) os ps ∙ or_right (meets wanted os) (meets wanted ps) h

  happens_flat : {X : Type 0} (f : X → List Occasion) (p : X → Bool) (xs : List X) → ((x : X) → p x ≡ true → meets wanted (f x) ≡ true) → list_any p xs ≡ true
      → meets wanted (flat_map f xs) ≡ true
  happens_flat f p [] each h = absurd (true≢false (sym h))
  happens_flat f p (x ∷ xs) each h = by (p x) refl h (happens_flat f p xs each)
    where
      by : (b : Bool) → p x ≡ b → (b || list_any p xs) ≡ true → (list_any p xs ≡ true → meets wanted (flat_map f xs) ≡ true) → meets wanted (f x ++ flat_map f xs) ≡ true
      by true e h rest = happens_left (f x) (flat_map f xs) (each x e)
      by false e h rest = happens_right (f x) (flat_map f xs) (rest h)

-- ---- what a term may match is among the patterns that match an id
part_either : (e : ℕ) (a : Ref) → may_be e a ≡ true → (part_of a ≡ part.Is e) ⊎ (part_of a ≡ part.Any)
part_either e (ref.Is d) h = inl (ap part.Is ((Decides-eqb d e).0 h))
part_either e (ref.Var v) h = inr refl
part_either e ref.Any h = inr refl
part_either e ref.AnyOnce h = inr refl

module _ (way : Way) where
  matched : (first : Ref) (target : Option Ref) (i : Id) → may_match first target i ≡ true → is_among (facts_of way i) (Fact way (pattern_of first target)) ≡ true
  matched first None (plain c) h =
      let any : Occasion = Fact way (record { first = part.Any; second = None }) in
      let own : Occasion = Fact way (record { first = part.Is c; second = None }) in
      elim (part_either c first h) [
        | inl s ↦ among_front own (any ∷ []) way (pattern_of first None) (λ j. Fact way (record { first = sym s j; second = None }))
        | inr s ↦ among_behind own (any ∷ []) (Fact way (pattern_of first None))
            (among_front any [] way (pattern_of first None) (λ j. Fact way (record { first = sym s j; second = None })))
      ]
  matched first None (pair r t) h = absurd (true≢false (sym h))
  matched first (Some target) (plain c) h = absurd (true≢false (sym h))
  matched first (Some target) (pair r t) h =
      let parts = and_parts (may_be r first) (may_be t target) h in
      let at : Part → Part → Occasion = λ a b. Fact way (record { first = a; second = Some b }) in
      let wanted : Pattern = pattern_of first (Some target) in
      let is : (a b : Part) → part_of first ≡ a → part_of target ≡ b → at a b ≡ Fact way wanted = λ a b ea eb. (λ j. Fact way (record { first = sym ea j; second = Some (sym eb j) })) in
      let o1 = at (part.Is r) (part.Is t) in
      let o2 = at (part.Is r) part.Any in
      let o3 = at part.Any (part.Is t) in
      let o4 = at part.Any part.Any in
      elim (part_either r first parts.0) [
        | inl a ↦ elim (part_either t target parts.1) [
          | inl b ↦ among_front o1 (o2 ∷ o3 ∷ o4 ∷ []) way wanted (is (part.Is r) (part.Is t) a b)
          | inr b ↦ among_behind o1 (o2 ∷ o3 ∷ o4 ∷ []) (Fact way wanted) (among_front o2 (o3 ∷ o4 ∷ []) way wanted (is (part.Is r) part.Any a b))
        ]
        | inr a ↦ elim (part_either t target parts.1) [
          | inl b ↦ among_behind o1 (o2 ∷ o3 ∷ o4 ∷ []) (Fact way wanted) (among_behind o2 (o3 ∷ o4 ∷ []) (Fact way wanted)
              (among_front o3 (o4 ∷ []) way wanted (is part.Any (part.Is t) a b)))
          | inr b ↦ among_behind o1 (o2 ∷ o3 ∷ o4 ∷ []) (Fact way wanted) (among_behind o2 (o3 ∷ o4 ∷ []) (Fact way wanted)
              (among_behind o3 (o4 ∷ []) (Fact way wanted) (among_front o4 [] way wanted (is part.Any part.Any a b))))
        ]
      ]

  one_meets : (p : Pattern) (i : Id) → is_among (facts_of way i) (Fact way p) ≡ true → meets (Fact way p ∷ []) (facts_of way i) ≡ true
  one_meets p i h = meets_by (Fact way p ∷ []) (facts_of way i) (Fact way p) (among_front (Fact way p) [] way p refl) h

  -- all pairs of a relationship
  pairs_matched : (first : Ref) (i : Id) → is_pair_of first i ≡ true → may_match first (Some ref.Any) i ≡ true
  pairs_matched first (plain c) h = absurd (true≢false (sym h))
  pairs_matched first (pair r t) h = rw h refl

  up_meets : (up : Option ℕ) (i : Id) → leads_up up i ≡ true → meets (up_occasions way up) (facts_of way i) ≡ true
  up_meets None i h = absurd (true≢false (sym h))
  up_meets (Some r) i h = one_meets (pairs_of (part.Is r)) i (matched (ref.Is r) (Some ref.Any) i (pairs_matched (ref.Is r) i h))

  closed_meets : (t : Term) (i : Id) → (t.closed && is_pair_of t.component i) ≡ true → meets (closed_occasions way t) (facts_of way i) ≡ true
  closed_meets t i h =
      let parts = and_parts t.closed (is_pair_of t.component i) h in
      ap (λ b. meets (if b then Fact way (pairs_of (part_of t.component)) ∷ [] else []) (facts_of way i)) parts.0
      ∙ one_meets (pairs_of (part_of t.component)) i (matched t.component (Some ref.Any) i (pairs_matched t.component i parts.1))

  match_meets : (t : Term) (i : Id) → may_match t.component t.target i ≡ true → meets (term_occasions way t) (facts_of way i) ≡ true
  match_meets t i h =
      meets_left (facts_of way i) (Fact way (pattern_of t.component t.target) ∷ []) (up_occasions way t.up ++ closed_occasions way t)
      (one_meets (pattern_of t.component t.target) i (matched t.component t.target i h))

  term_meets : (t : Term) (i : Id) → term_concerns i t ≡ true → meets (term_occasions way t) (facts_of way i) ≡ true
  term_meets t i h = by (may_match t.component t.target i) (leads_up t.up i) (t.closed && is_pair_of t.component i) refl refl refl h
    where
      by : (a b c : Bool) → may_match t.component t.target i ≡ a → leads_up t.up i ≡ b → (t.closed && is_pair_of t.component i) ≡ c → (a || b || c) ≡ true
          → meets (term_occasions way t) (facts_of way i) ≡ true
      by true b c ea eb ec h = match_meets t i ea
      by false true c ea eb ec h =
          meets_right (facts_of way i) (Fact way (pattern_of t.component t.target) ∷ []) (up_occasions way t.up ++ closed_occasions way t)
          (meets_left (facts_of way i) (up_occasions way t.up) (closed_occasions way t) (up_meets t.up i eb))
      by false false true ea eb ec h =
          meets_right (facts_of way i) (Fact way (pattern_of t.component t.target) ∷ []) (up_occasions way t.up ++ closed_occasions way t)
          (meets_right (facts_of way i) (up_occasions way t.up) (closed_occasions way t) (closed_meets t i ec))
      by false false false ea eb ec h = absurd (true≢false (sym h))

  -- ---- an observer's one term
  may_fit : (e : ℕ) (a : Ref) → fits [] e a ≡ true → may_be e a ≡ true
  may_fit e (ref.Is d) h = h
  may_fit e (ref.Var v) h = refl
  may_fit e ref.Any h = refl
  may_fit e ref.AnyOnce h = refl

  may_matches : (first : Ref) (target : Option Ref) (i : Id) → matches [] first target i ≡ true → may_match first target i ≡ true
  may_matches first None (plain c) h = may_fit c first h
  may_matches first None (pair r t) h = h
  may_matches first (Some target) (plain c) h = h
  may_matches first (Some target) (pair r t) h =
      let parts = and_parts (fits [] r first) (fits [] t target) h in
      rw (may_fit r first parts.0, may_fit t target parts.1) refl

  observed_meets : (ps : List Piece) (i : Id) → option_map_or (λ t. matches [] t.component t.target i) (only_term ps) false ≡ true → meets (flat_map (term_occasions way) (flat_map piece_terms ps)) (facts_of way i) ≡ true
  observed_meets [] i h = absurd (true≢false (sym h))
  observed_meets (item (must t) ∷ []) i h = meets_left (facts_of way i) (term_occasions way t) [] (match_meets t i (may_matches t.component t.target i h))
  observed_meets (item (must t) ∷ p ∷ ps) i h = absurd (true≢false (sym h))
  observed_meets (item (may t) ∷ ps) i h = absurd (true≢false (sym h))
  observed_meets (item (either ts) ∷ ps) i h = absurd (true≢false (sym h))
  observed_meets (item (equal v r) ∷ ps) i h = absurd (true≢false (sym h))
  observed_meets (item (differ v r) ∷ ps) i h = absurd (true≢false (sym h))
  observed_meets (opening from_term own ∷ ps) i h = absurd (true≢false (sym h))
  observed_meets (closing ∷ ps) i h = absurd (true≢false (sym h))

-- ---- of a query
by_all : (i : Id) → is_asked_by_all i ≡ true → is_among (moved i) AskedByAll ≡ true
by_all i e = ap (λ b. is_among ((if b then AskedByAll ∷ [] else []) ++ facts_of Moves i) AskedByAll) e

asked_by_all : (q : Query) → is_among (of_monitors q) AskedByAll ≡ true
asked_by_all q = among_right (flat_map (term_occasions Moves) (terms q)) (AskedByAll ∷ (if is_anchored q then [] else Life ∷ [])) AskedByAll refl

monitor_meets : (q : Query) (i : Id) → concerns q i ≡ true → meets (of_monitors q) (moved i) ≡ true
unfolding concerns
monitor_meets q i h = by (is_asked_by_all i) refl h
  where
    by : (b : Bool) → is_asked_by_all i ≡ b → (b || list_any (term_concerns i) (terms q)) ≡ true → meets (of_monitors q) (moved i) ≡ true
    by true e h = meets_by (of_monitors q) (moved i) AskedByAll (asked_by_all q) (by_all i e)
    by false e h =
        happens_right (of_monitors q) (of_all i) (facts_of Moves i)
        (meets_left (facts_of Moves i) (flat_map (term_occasions Moves) (terms q)) (AskedByAll ∷ (if is_anchored q then [] else Life ∷ []))
        (meets_flat (facts_of Moves i) (term_occasions Moves) (term_concerns i) (terms q) (λ t e. term_meets Moves t i e) h))

observer_meets : (q : Query) (i : Id) → matches_term q i ≡ true → meets (flat_map (term_occasions Moves) (terms q)) (moved i) ≡ true
observer_meets q i h = happens_right (flat_map (term_occasions Moves) (terms q)) (of_all i) (facts_of Moves i) (observed_meets Moves q.pieces i h)

lives_meet : (q : Query) (lives : Bool) → (lives && not (is_anchored q)) ≡ true → meets (of_monitors q) (if lives then Life ∷ [] else []) ≡ true
lives_meet q lives h =
    let parts = and_parts lives (not (is_anchored q)) h in
    let free : is_anchored q ≡ false = not-true (is_anchored q) parts.1 in
    let wanted : is_among (of_monitors q) Life ≡ true =
    among_right (flat_map (term_occasions Moves) (terms q)) (AskedByAll ∷ (if is_anchored q then [] else Life ∷ [])) Life
    (ap (λ b. is_among (AskedByAll ∷ (if b then [] else Life ∷ [])) Life) free) in
    ap (λ b. meets (of_monitors q) (if b then Life ∷ [] else [])) parts.0 ∙ or_left (is_among (of_monitors q) Life) false wanted

module _ (wanted : List Occasion) (lives : Bool) (came went written : List Key) where
  abbrev of_lives : List Occasion
  of_lives = if lives then Life ∷ [] else []

  abbrev all_came : List Occasion
  all_came = flat_map (λ k. moved k.1) came

  abbrev all_went : List Occasion
  all_went = flat_map (λ k. moved k.1) went

  abbrev all_written : List Occasion
  all_written = flat_map (λ k. facts_of IsWritten k.1) written

  at_lives : meets wanted of_lives ≡ true → meets wanted (happening lives came went written) ≡ true
  at_lives h = happens_left wanted of_lives (all_came ++ (all_went ++ all_written)) h

  at_came : meets wanted all_came ≡ true → meets wanted (happening lives came went written) ≡ true
  at_came h = happens_right wanted of_lives (all_came ++ (all_went ++ all_written)) (happens_left wanted all_came (all_went ++ all_written) h)

  at_went : meets wanted all_went ≡ true → meets wanted (happening lives came went written) ≡ true
  at_went h =
      happens_right wanted of_lives (all_came ++ (all_went ++ all_written))
      (happens_right wanted all_came (all_went ++ all_written) (happens_left wanted all_went all_written h))

  at_written : meets wanted all_written ≡ true → meets wanted (happening lives came went written) ≡ true
  at_written h =
      happens_right wanted of_lives (all_came ++ (all_went ++ all_written))
      (happens_right wanted all_came (all_went ++ all_written) (happens_right wanted all_went all_written h))

pub whom_changes_concern : WhomChangesConcernTheyLeadTo
whom_changes_concern Kept q lives came went written h = absurd (true≢false (sym h))
whom_changes_concern Monitor q lives came went written h =
    by (lives && not (is_anchored q)) (list_any (λ (k : Key). concerns q k.1) came) (list_any (λ (k : Key). concerns q k.1) went) refl refl refl h
  where
    by : (a b c : Bool) → (lives && not (is_anchored q)) ≡ a → list_any (λ (k : Key). concerns q k.1) came ≡ b → list_any (λ (k : Key). concerns q k.1) went ≡ c → (a || b || c) ≡ true
        → meets (of_monitors q) (happening lives came went written) ≡ true
    by true b c ea eb ec h = at_lives (of_monitors q) lives came went written (lives_meet q lives ea)
    by false true c ea eb ec h =
        at_came (of_monitors q) lives came went written (happens_flat (of_monitors q) (λ (k : Key). moved k.1) (λ (k : Key). concerns q k.1) came (λ k e. monitor_meets q k.1 e) eb)
    by false false true ea eb ec h =
        at_went (of_monitors q) lives came went written (happens_flat (of_monitors q) (λ (k : Key). moved k.1) (λ (k : Key). concerns q k.1) went (λ k e. monitor_meets q k.1 e) ec)
    by false false false ea eb ec h = absurd (true≢false (sym h))
whom_changes_concern OnAdd q lives came went written h =
    let wanted : List Occasion = flat_map (term_occasions Moves) (terms q) in
    at_came wanted lives came went written (happens_flat wanted (λ (k : Key). moved k.1) (λ (k : Key). matches_term q k.1) came (λ k e. observer_meets q k.1 e) h)
whom_changes_concern OnRemove q lives came went written h =
    let wanted : List Occasion = flat_map (term_occasions Moves) (terms q) in
    at_went wanted lives came went written (happens_flat wanted (λ (k : Key). moved k.1) (λ (k : Key). matches_term q k.1) went (λ k e. observer_meets q k.1 e) h)
whom_changes_concern OnSet q lives came went written h =
    let wanted : List Occasion = flat_map (term_occasions IsWritten) (terms q) in
    at_written wanted lives came went written
    (happens_flat wanted (λ (k : Key). facts_of IsWritten k.1) (λ (k : Key). matches_term q k.1) written (λ k e. observed_meets IsWritten q.pieces k.1 e) h)
