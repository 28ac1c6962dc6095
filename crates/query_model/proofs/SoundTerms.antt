-- The terms of a checked query are sound, since their references have no faults.
use Rattle.std.specs.Prelude.{◌≡◌, ℕ, ◌+◌, Bool, true, false, not, ◌&&◌, ◌||◌, List, [], ◌∷◌, ◌++◌, map, flat_map, Option, Some, None, is_none, option_map, Ok, Err, if◌then◌else◌}
use Rattle.std.specs.List.{list_all}
use Rattle.std.specs.Option.{option_map_or}
use Rattle.std.proofs.Common.{ap, sym, ◌∙◌, refl}
use Rattle.std.proofs.lemmas.List.Folds.{list_all-append}
use Rattle.std.proofs.lemmas.List.Concat.{flat_map-append}
use Rattle.query_model.specs.declared.Span.{Span}
use Rattle.query_model.specs.declared.faults.Fault.{Fault}
use Rattle.query_model.specs.declared.query.Position.TheVariants.{Component, Source, Target, Risen, Left, Right}
use Rattle.query_model.specs.declared.syntax.Role.TheVariants.{And, Or, Not, Optional}
use Rattle.query_model.specs.Faults.{is_before, least_from}
use Rattle.query_model.specs.Syntax.{Spoken, Word, Var, Any, AnyOnce, Reference, at, TermSyntax, Part, term, opened, closed, equality, Syntax}
use Rattle.query_model.specs.Levels.{Path, alternatives, path_behind, path_in, placed, with_alternatives}
use Rattle.query_model.specs.Uses.{Use, risen, uses_of, uses_of_term, written}
use Rattle.query_model.specs.Scope.{Sighting, sightings}
use Rattle.query_model.specs.Numbers.{Variable, variables}
use Rattle.query_model.specs.Check.{Known, faults, faults_of_use}
use Rattle.query_model.specs.Query.{Query, chain_of, checked_equality, checked_query, checked_term, follows, is_a, is_definite_target, is_inherited, pieces_of, pieces_of_part, ref_of, source_of, up_of}
use Rattle.query_model.specs.Local.{is_entity}
use Rattle.query_model.specs.Sound.{TermsAreSound, has_definite_target, is_definite_ref, is_sound_item, is_sound_piece, is_sound_term}

pub left_nil : {A : Type 0} (xs ys : List A) → xs ++ ys ≡ [] → xs ≡ []
left_nil [] ys e = refl
left_nil (x ∷ xs) ys e = absurd (cc)

pub right_nil : {A : Type 0} (xs ys : List A) → xs ++ ys ≡ [] → ys ≡ []
right_nil [] ys e = e
right_nil (x ∷ xs) ys e = absurd (cc)

some_least : (f : Fault) (fs : List Fault) → least_from (Some f) fs ≡ None → ⊥
some_least f [] e = cc
some_least f (g ∷ gs) e = some_least (if is_before g f then g else f) gs e

pub no_faults : (fs : List Fault) → least_from None fs ≡ None → fs ≡ []
no_faults [] e = refl
no_faults (f ∷ fs) e = absurd (some_least f fs e)

-- a closed term, by what is known of its first reference, of its target and of its ancestors: such a term reads no bases
closed_sound : (follow name definite sound plain inherited : Bool) (risen : Option ℕ) → (follow ≡ true → name ≡ true) → (definite ≡ true → sound ≡ true)
    → (not (follow && definite && is_none risen) || name && sound && is_none (if plain && not (follow && definite && is_none risen) && inherited then Some is_a else risen)) ≡ true
closed_sound false name definite sound plain inherited risen f d = refl
closed_sound true name false sound plain inherited risen f d = refl
closed_sound true name true sound plain inherited (Some r) f d = refl
closed_sound true name true sound true inherited None f d = rw (f refl, d refl) refl
closed_sound true name true sound false inherited None f d = rw (f refl, d refl) refl

module _ (k : Known) where
  abbrev Faultless : List Use → Type 0
  Faultless us = flat_map (faults_of_use k) us ≡ []

  faultless_left : (us vs : List Use) → Faultless (us ++ vs) → Faultless us
  faultless_left us vs e = left_nil (flat_map (faults_of_use k) us) (flat_map (faults_of_use k) vs) (sym (flat_map-append (faults_of_use k) us vs) ∙ e)

  faultless_right : (us vs : List Use) → Faultless (us ++ vs) → Faultless vs
  faultless_right us vs e = right_nil (flat_map (faults_of_use k) us) (flat_map (faults_of_use k) vs) (sym (flat_map-append (faults_of_use k) us vs) ∙ e)

  module _ (all : List Sighting) (vs : List Variable) (path : Path) where
    source_sound : (w : Spoken) (s : Span) → Faultless (written Source (Some (at w s))) → is_definite_ref (ref_of k all vs path (at w s)) ≡ true
    source_sound (Word n) s e = refl
    source_sound (Var v) s e = refl
    source_sound Any s e = absurd (cc)
    source_sound AnyOnce s e = absurd (cc)

    sources_sound : (r : Option Reference) → Faultless (written Source r) → is_definite_ref (source_of k all vs path r) ≡ true
    sources_sound None e = refl
    sources_sound (Some r) e = source_sound r.spoken r.span e

    right_sound : (w : Spoken) (s : Span) → Faultless (written Right (Some (at w s))) → is_definite_ref (ref_of k all vs path (at w s)) ≡ true
    right_sound (Word n) s e = refl
    right_sound (Var v) s e = refl
    right_sound Any s e = absurd (cc)
    right_sound AnyOnce s e = absurd (cc)

    first_is_name : (w : Spoken) (s : Span) → follows k w ≡ true → is_entity (ref_of k all vs path (at w s)) ≡ true
    first_is_name (Word n) s e = refl
    first_is_name (Var v) s e = absurd (cc)
    first_is_name Any s e = absurd (cc)
    first_is_name AnyOnce s e = absurd (cc)

    target_spoken : (w : Spoken) (s : Span) → is_definite_target (Some (at w s)) ≡ true → is_definite_ref (ref_of k all vs path (at w s)) ≡ true
    target_spoken (Word n) s e = refl
    target_spoken (Var v) s e = refl
    target_spoken Any s e = absurd (cc)
    target_spoken AnyOnce s e = absurd (cc)

    target_sound : (r : Option Reference) → is_definite_target r ≡ true → has_definite_target (option_map (ref_of k all vs path) r) ≡ true
    target_sound None e = absurd (cc)
    target_sound (Some r) e = target_spoken r.spoken r.span e

    term_sound : (t : TermSyntax) → Faultless (uses_of_term t) → is_sound_term (checked_term k all vs path t) ≡ true
    term_sound t e =
        let c = written Component (Some t.component) in
        let s = written Source t.source in
        let r = written Risen (risen t) in
        let g = written Target t.target in
        let source : Faultless s = faultless_right c s (faultless_left (c ++ s) r (faultless_left (c ++ s ++ r) g e)) in
        rw (sources_sound t.source source)
        (closed_sound (follows k (t.component).spoken) _ (is_definite_target t.target) _ (is_none t.flags) (is_inherited k (t.component).spoken) (up_of k t.flags) (first_is_name (t.component).spoken (t.component).span) (target_sound t.target))

    alternatives_sound : (ps : List Part) → Faultless (flat_map uses_of ps) → list_all is_sound_term (map (checked_term k all vs path) (alternatives ps)) ≡ true
    alternatives_sound [] e = refl
    alternatives_sound (term Or t ∷ ps) e =
        rw (term_sound t (faultless_left (uses_of_term t) (flat_map uses_of ps) e)) (alternatives_sound ps (faultless_right (uses_of_term t) (flat_map uses_of ps) e))
    alternatives_sound (p ∷ ps) e = refl

    chain_sound : (t : TermSyntax) (ts : List TermSyntax) → is_sound_term (checked_term k all vs path t) ≡ true → list_all is_sound_term (map (checked_term k all vs path) ts) ≡ true
        → is_sound_item (chain_of (checked_term k all vs path t) (map (checked_term k all vs path) ts)) ≡ true
    chain_sound t [] h a = h
    chain_sound t (u ∷ us) h a = rw h a

    equality_sound : (w : Spoken) (same : Bool) (r : Reference) → is_definite_ref (ref_of k all vs path r) ≡ true → is_sound_item (checked_equality k all vs path w same r) ≡ true
    equality_sound (Var v) true r h = h
    equality_sound (Var v) false r h = h
    equality_sound (Word n) same r h = h
    equality_sound Any same r h = h
    equality_sound AnyOnce same r h = h

    part_sound : (p : Part) (others : List TermSyntax) → Faultless (uses_of p) → list_all is_sound_term (map (checked_term k all vs path) others) ≡ true → list_all is_sound_piece (pieces_of k all vs path others p) ≡ true
    part_sound (term And t) others e a = rw (chain_sound t others (term_sound t e) a) refl
    part_sound (term Or t) others e a = refl
    part_sound (term Optional t) others e a = rw (term_sound t e) refl
    part_sound (term Not t) others e a = rw (term_sound t e) refl
    part_sound (opened s) others e a = refl
    part_sound closed others e a = refl
    part_sound (equality v same r) others e a = rw (equality_sound v.spoken same r (right_sound r.spoken r.span (faultless_right (written Left (Some v)) (written Right (Some r)) e))) refl

  module _ (all : List Sighting) (vs : List Variable) where
    placed_parts_of : (n : ℕ) (path : Path) (ps : List Part) → map (λ q. q.1) (placed n path ps) ≡ ps
    placed_parts_of n path [] = refl
    placed_parts_of n path (p ∷ ps) = ap (λ l. p ∷ l) (placed_parts_of (n + 1) (path_behind n path p) ps)

    pieces_sound : (n : ℕ) (path : Path) (ps : List Part) → Faultless (flat_map uses_of ps) → list_all is_sound_piece (flat_map (pieces_of_part k all vs) (with_alternatives (placed n path ps))) ≡ true
    pieces_sound n path [] e = refl
    pieces_sound n path (p ∷ ps) e =
        let here = path_in n path p in
        let rest = placed (n + 1) (path_behind n path p) ps in
        let front = faultless_left (uses_of p) (flat_map uses_of ps) e in
        let back = faultless_right (uses_of p) (flat_map uses_of ps) e in
        let others = alternatives (map (λ (q : Path × Part). q.1) rest) in
        let a : list_all is_sound_term (map (checked_term k all vs here) others) ≡ true =
        ap (λ l. list_all is_sound_term (map (checked_term k all vs here) (alternatives l))) (placed_parts_of (n + 1) (path_behind n path p) ps) ∙ alternatives_sound all vs here ps back in
        list_all-append is_sound_piece (pieces_of k all vs here others p) (flat_map (pieces_of_part k all vs) (with_alternatives rest))
        ∙ ap (λ b. b && list_all is_sound_piece (flat_map (pieces_of_part k all vs) (with_alternatives rest))) (part_sound all vs here p others front a)
        ∙ pieces_sound (n + 1) (path_behind n path p) ps back

  first_faults : (ps : List Part) → faults k ps ≡ [] → Faultless (flat_map uses_of ps)
  unfolding faults
  first_faults ps e = left_nil _ _ (left_nil _ _ (left_nil _ _ (left_nil _ _ (left_nil _ _ e))))

  query_sound : (s : Syntax) → faults k s.parts ≡ [] → list_all is_sound_piece (checked_query k s).pieces ≡ true
  unfolding checked_query
  query_sound s e = pieces_sound (sightings s.parts) (variables s.parts) 1 [] s.parts (first_faults s.parts e)

  pub answered : (s : Syntax) (q : Query) (o : Option Fault) → option_map_or Err o (Ok (checked_query k s)) ≡ Ok q → (o ≡ None) × (checked_query k s ≡ q)
  answered s q None e = (refl, cc)
  answered s q (Some f) e = absurd (cc)

pub terms_are_sound : TermsAreSound
terms_are_sound k s q e =
    let a = answered k s q (least_from None (faults k s.parts)) e in
    ap (λ (x : Query). list_all is_sound_piece x.pieces) (sym a.1) ∙ query_sound k s (no_faults (faults k s.parts) a.0)
