-- A checked query uses each variable where it is in scope.
use Rattle.std.specs.Prelude.{◌≡◌, ◌⊎◌, ℕ, ◌+◌, ◌<◌, ◌==◌, Bool, true, false, ◌&&◌, List, [], ◌∷◌, ◌++◌, map, flat_map, fold, drop, length, bytes_eq, nat_lt, Option, Some, None, is_none, option_map, Result, Ok, Err, if◌then◌else◌}
use Rattle.std.specs.List.{list_any, list_all}
use Rattle.std.specs.Option.{option_map_or}
use Rattle.std.proofs.Common.{ap, sym, ◌∙◌, refl, subst, inl, inr, eq-eqb}
use Rattle.std.proofs.lemmas.Bool.{eqb-true, lt-ltb}
use Rattle.std.proofs.lemmas.List.{map-append}
use Rattle.std.proofs.lemmas.List.Concat.{flat_map-append}
use Rattle.std.proofs.lemmas.List.Folds.{list_all-append}
use Rattle.query_model.specs.declared.Span.{Span}
use Rattle.query_model.specs.declared.query.Position.{Position}
use Rattle.query_model.specs.declared.query.Position.TheVariants.{Component, Source, Target, Risen, Left, Right}
use Rattle.query_model.specs.declared.query.Term.{Term}
use Rattle.query_model.specs.declared.syntax.Role.TheVariants.{And, Or, Not, Optional}
use Rattle.query_model.specs.declared.syntax.Role.{Role}
use Rattle.query_model.specs.declared.faults.FaultKind.TheVariants.{Lex}
use Rattle.query_model.specs.declared.faults.FaultKind.TheVariants.{Syntax as SyntaxFault}
use Rattle.query_model.specs.Faults.{as_fault, least_from}
use Rattle.query_model.specs.Tokens.{Token, IsSpelledBy, tokens_of}
use Rattle.query_model.specs.Machine.{parts_of}
use Rattle.query_model.specs.Laws.{EndsInEnd}
use Rattle.query_model.specs.Grammar.{IsChain, last_alternative, alternative, IsItem, terms, operator, operator_behind_access, group, equation, IsItems, last_item, item}
use Rattle.query_model.specs.Syntax.{Spoken, Word, Var, Any, AnyOnce, Reference, at, TermSyntax, Part, term, opened, closed, equality, Syntax}
use Rattle.query_model.specs.Levels.{Path, alternatives, path_behind, path_in, placed, with_alternatives}
use Rattle.query_model.specs.Uses.{Use, risen, uses_of, uses_of_term, written}
use Rattle.query_model.specs.Scope.{Occurrence, Sighting, occurrence_of, occurrences, occurrences_of, occurs_in, outermost, owner, sightings, this}
use Rattle.query_model.specs.Numbers.{Variable, has_this, is_this, number_from, numbers_from, understands_this, variable_of, variables}
use Rattle.query_model.specs.Check.{Known, faults}
use Rattle.query_model.specs.Query.{Piece, Query, chain_of, checked, parts_read, query_of, checked_equality, checked_query, checked_term, number_of, pieces_of_part, ref_of, source_of, visible_names}
use Rattle.query_model.specs.Scopes.{contains, is_in_scope, is_scoped, item_variables, term_variables, uses_scope, variable_in, QueriesAreScoped, QueriesOfTextsAreScoped}
use Rattle.query_model.proofs.SoundTerms.{answered}
use Rattle.query_model.proofs.TokenSpelling.{tokens_are_spelled}
use Rattle.query_model.proofs.SyntaxFaults.{parts_are_grammatical}
use Rattle.query_model.proofs.NumberedVariables.{all_numbered, both, first_of, is_among, is_own, is_visible, left_true, Parted, parted, right_true, second_of, split, this_is_visible}

abbrev pub outermost_from : (ℕ → Bool) → ℕ → Path → ℕ
outermost_from test found path = fold (λ o l. if test l then l else o) found path

-- the outermost level that passes a test is one of the path's, or the one that was found before
pub outermost_cases : (test : ℕ → Bool) (path : Path) (found : ℕ) → (outermost_from test found path ≡ found) ⊎ (contains path (outermost_from test found path) ≡ true)
outermost_cases test [] found = inl refl
outermost_cases test (l ∷ ls) found = by (outermost_cases test ls l) (outermost_cases test ls found) (test l)
  where
    by : (outermost_from test l ls ≡ l) ⊎ (contains ls (outermost_from test l ls) ≡ true) → (outermost_from test found ls ≡ found) ⊎ (contains ls (outermost_from test found ls) ≡ true) → (b : Bool)
        → (outermost_from test (if b then l else found) ls ≡ found) ⊎ (contains (l ∷ ls) (outermost_from test (if b then l else found) ls) ≡ true)
    by here there true =
        elim here [
          | inl e ↦ inr (left_true (l == outermost_from test l ls) _ (eq-eqb l (outermost_from test l ls) (sym e)))
          | inr e ↦ inr (right_true (l == outermost_from test l ls) _ e)
        ]
    by here there false =
        elim there [
          | inl e ↦ inl e
          | inr e ↦ inr (right_true (l == outermost_from test found ls) _ e)
        ]

pub owner_cases : (all : List Sighting) (name : List ℕ) (path : Path) → (owner all name path ≡ 0) ⊎ (contains path (owner all name path) ≡ true)
owner_cases all name path = by (bytes_eq name this) (occurs_in all name 0)
  where
    by : (a b : Bool) → ((if a then 0 else (if b then 0 else outermost (occurs_in all name) path)) ≡ 0) ⊎ (contains path (if a then 0 else (if b then 0 else outermost (occurs_in all name) path)) ≡ true)
    by true b = inl refl
    by false true = inl refl
    by false false = outermost_cases (occurs_in all name) path 0

all_both : (test : ℕ → Bool) (xs ys : List ℕ) → list_all test xs ≡ true → list_all test ys ≡ true → list_all test (xs ++ ys) ≡ true
all_both test xs ys e f = list_all-append test xs ys ∙ both (list_all test xs) (list_all test ys) e f

-- an equality whose left side is a variable, as in each syntax of tokens
abbrev is_var : Spoken → Bool
is_var (Var v) = true
is_var w = false

abbrev has_left : Part → Bool
has_left (equality v same r) = is_var v.spoken
has_left q = true

chain_has_left : {role : Role} {ts us : List Token} {ps qs : List Part} → IsChain role ts us ps qs → list_all has_left ps ≡ true → list_all has_left qs ≡ true
chain_has_left (last_alternative i) h = h
chain_has_left (alternative i is) h = chain_has_left is h

mutual
  item_has_left : {ts us : List Token} {ps qs : List Part} → IsItem ts us ps qs → list_all has_left ps ≡ true → list_all has_left qs ≡ true
  item_has_left (terms i) h = chain_has_left i h
  item_has_left (operator j i) h = h
  item_has_left (operator_behind_access a j i) h = h
  item_has_left (group is) h = items_have_left is h
  item_has_left (equation j i) h = h

  items_have_left : {ts us : List Token} {ps qs : List Part} → IsItems ts us ps qs → list_all has_left ps ≡ true → list_all has_left qs ≡ true
  items_have_left (last_item i) h = item_has_left i h
  items_have_left (item i is) h = item_has_left i (items_have_left is h)

module _ (k : Known) (all : List Sighting) (vs : List Variable) (visible : ℕ) (count : visible ≡ length (visible_names vs)) (p : Parted vs) where
  abbrev own_of : ℕ → List ℕ
  own_of l = numbers_from 0 l vs

  abbrev around : Path → List (List ℕ)
  around path = map own_of path

  around_own : (path : Path) (l r : ℕ) → contains path l ≡ true → contains (own_of l) r ≡ true → list_any (λ ls. contains ls r) (around path) ≡ true
  around_own [] l r e f = absurd (let x : false ≡ true = e in cc)
  around_own (m ∷ ms) l r e f =
      elim (split (m == l) (contains ms l) e) [
        | inl s ↦ left_true (contains (own_of m) r) _ (ap (λ n. contains (own_of n) r) (eqb-true m l s) ∙ f)
        | inr t ↦ right_true (contains (own_of m) r) _ (around_own ms l r t f)
      ]

  in_scope : (path : Path) (name : List ℕ) → is_among vs (name, owner all name path) ≡ true → is_in_scope visible (around path) (number_of k all vs path name) ≡ true
  in_scope path name e =
      let v : Variable = (name, owner all name path) in
      let r = number_from 0 v vs in
      elim (owner_cases all name path) [
        | inl z ↦ left_true (nat_lt r visible) _ (lt-ltb r visible (subst (λ m. r < m) (sym count) (is_visible vs v p z e)))
        | inr h ↦ right_true (nat_lt r visible) _ (around_own path (owner all name path) r h (is_own 0 v vs e))
      ]

  -- the variables among references have numbers
  abbrev Numbered : List Occurrence → Type 0
  Numbered os = list_all (is_among vs) (map (variable_of all) os) ≡ true

  parts_numbered : (xs ys : List Occurrence) → Numbered (xs ++ ys) → (list_all (is_among vs) (map (variable_of all) xs) && list_all (is_among vs) (map (variable_of all) ys)) ≡ true
  parts_numbered xs ys e = sym (ap (list_all (is_among vs)) (map-append (variable_of all) xs ys) ∙ list_all-append (is_among vs) (map (variable_of all) xs) (map (variable_of all) ys)) ∙ e

  front_numbered : (xs ys : List Occurrence) → Numbered (xs ++ ys) → Numbered xs
  front_numbered xs ys e = first_of (list_all (is_among vs) (map (variable_of all) xs)) _ (parts_numbered xs ys e)

  back_numbered : (xs ys : List Occurrence) → Numbered (xs ++ ys) → Numbered ys
  back_numbered xs ys e = second_of (list_all (is_among vs) (map (variable_of all) xs)) _ (parts_numbered xs ys e)

  abbrev UsesNumbered : Path → List Use → Type 0
  UsesNumbered path us = Numbered (flat_map (occurrence_of path) us)

  front_uses : (path : Path) (us ws : List Use) → UsesNumbered path (us ++ ws) → UsesNumbered path us
  front_uses path us ws e = front_numbered (flat_map (occurrence_of path) us) (flat_map (occurrence_of path) ws) (subst Numbered (flat_map-append (occurrence_of path) us ws) e)

  back_uses : (path : Path) (us ws : List Use) → UsesNumbered path (us ++ ws) → UsesNumbered path ws
  back_uses path us ws e = back_numbered (flat_map (occurrence_of path) us) (flat_map (occurrence_of path) ws) (subst Numbered (flat_map-append (occurrence_of path) us ws) e)

  abbrev AllInScope : Path → List ℕ → Type 0
  AllInScope path ns = list_all (is_in_scope visible (around path)) ns ≡ true

  spoken_in : (path : Path) (w : Spoken) (s : Span) (position : Position) → UsesNumbered path (written position (Some (at w s))) → AllInScope path (variable_in (ref_of k all vs path (at w s)))
  spoken_in path (Word n) s position e = refl
  spoken_in path (Var v) s position e = both (is_in_scope visible (around path) (number_of k all vs path v)) true (in_scope path v (first_of (is_among vs (v, owner all v path)) true e)) refl
  spoken_in path Any s position e = refl
  spoken_in path AnyOnce s position e = refl

  reference_in : (path : Path) (r : Reference) (position : Position) → UsesNumbered path (written position (Some r)) → AllInScope path (variable_in (ref_of k all vs path r))
  reference_in path r position e = spoken_in path r.spoken r.span position e

  source_in : (path : Path) (r : Option Reference) → UsesNumbered path (written Source r) → (is_none r ≡ true → nat_lt 0 visible ≡ true) → AllInScope path (variable_in (source_of k all vs path r))
  source_in path None e h = both (is_in_scope visible (around path) 0) true (left_true (nat_lt 0 visible) _ (h refl)) refl
  source_in path (Some r) e h = reference_in path r Source e

  target_in : (path : Path) (r : Option Reference) → UsesNumbered path (written Target r) → AllInScope path (option_map_or variable_in (option_map (ref_of k all vs path) r) [])
  target_in path None e = refl
  target_in path (Some r) e = reference_in path r Target e

  term_in : (path : Path) (t : TermSyntax) → UsesNumbered path (uses_of_term t) → (is_none t.source ≡ true → nat_lt 0 visible ≡ true) → AllInScope path (term_variables (checked_term k all vs path t))
  term_in path t e h =
      let c = written Component (Some t.component) in
      let s = written Source t.source in
      let r = written Risen (risen t) in
      let g = written Target t.target in
      let three = front_uses path (c ++ s ++ r) g e in
      let two = front_uses path (c ++ s) r three in
      let test = is_in_scope visible (around path) in
      let first = variable_in (ref_of k all vs path t.component) in
      let source = variable_in (source_of k all vs path t.source) in
      all_both test source _ (source_in path t.source (back_uses path c s two) h)
      (all_both test first _ (reference_in path t.component Component (front_uses path c s two)) (target_in path t.target (back_uses path (c ++ s ++ r) g e)))

  -- a part of which a term names no source
  abbrev Understood : List Part → Type 0
  Understood ps = list_any understands_this ps ≡ true → nat_lt 0 visible ≡ true

  rest_understood : (q : Part) (ps : List Part) → Understood (q ∷ ps) → Understood ps
  rest_understood q ps h e = h (right_true (understands_this q) _ e)

  one_understood : (q : Part) (ps : List Part) → Understood (q ∷ ps) → understands_this q ≡ true → nat_lt 0 visible ≡ true
  one_understood q ps h e = h (left_true (understands_this q) _ e)

  abbrev PartsNumbered : ℕ → Path → List Part → Type 0
  PartsNumbered n path ps = Numbered (flat_map occurrences_of (placed n path ps))

  one_part : (n : ℕ) (path : Path) (q : Part) (ps : List Part) → PartsNumbered n path (q ∷ ps) → UsesNumbered (path_in n path q) (uses_of q)
  one_part n path q ps e = front_numbered (occurrences_of (path_in n path q, q)) (flat_map occurrences_of (placed (n + 1) (path_behind n path q) ps)) e

  rest_parts : (n : ℕ) (path : Path) (q : Part) (ps : List Part) → PartsNumbered n path (q ∷ ps) → PartsNumbered (n + 1) (path_behind n path q) ps
  rest_parts n path q ps e = back_numbered (occurrences_of (path_in n path q, q)) (flat_map occurrences_of (placed (n + 1) (path_behind n path q) ps)) e

  alternatives_in : (n : ℕ) (path : Path) (ps : List Part) → PartsNumbered n path ps → Understood ps → AllInScope path (flat_map term_variables (map (checked_term k all vs path) (alternatives ps)))
  alternatives_in n path [] e h = refl
  alternatives_in n path (term Or t ∷ ps) e h =
      all_both (is_in_scope visible (around path)) (term_variables (checked_term k all vs path t)) _ (term_in path t (one_part n path (term Or t) ps e) (one_understood (term Or t) ps h))
      (alternatives_in (n + 1) path ps (rest_parts n path (term Or t) ps e) (rest_understood (term Or t) ps h))
  alternatives_in n path (q ∷ ps) e h = refl

  chain_in : (path : Path) (t : Term) (ts : List Term) → AllInScope path (term_variables t) → AllInScope path (flat_map term_variables ts) → AllInScope path (item_variables (chain_of t ts))
  chain_in path t [] e f = e
  chain_in path t (u ∷ us) e f = all_both (is_in_scope visible (around path)) (term_variables t) _ e f

  equality_in : (path : Path) (w : Spoken) (s : Span) (same : Bool) (r : Reference) → is_var w ≡ true → UsesNumbered path (written Left (Some (at w s)) ++ written Right (Some r))
      → AllInScope path (item_variables (checked_equality k all vs path w same r))
  equality_in path (Var v) s true r l e =
      all_both (is_in_scope visible (around path)) (number_of k all vs path v ∷ []) _ (spoken_in path (Var v) s Left (front_uses path (written Left (Some (at (Var v) s))) (written Right (Some r)) e))
      (reference_in path r Right (back_uses path (written Left (Some (at (Var v) s))) (written Right (Some r)) e))
  equality_in path (Var v) s false r l e =
      all_both (is_in_scope visible (around path)) (number_of k all vs path v ∷ []) _ (spoken_in path (Var v) s Left (front_uses path (written Left (Some (at (Var v) s))) (written Right (Some r)) e))
      (reference_in path r Right (back_uses path (written Left (Some (at (Var v) s))) (written Right (Some r)) e))
  equality_in path (Word n) s same r l e = absurd (cc)
  equality_in path Any s same r l e = absurd (cc)
  equality_in path AnyOnce s same r l e = absurd (cc)

  around_less : (path : Path) → drop 1 (around path) ≡ around (drop 1 path)
  around_less [] = refl
  around_less (l ∷ ls) = refl

  placed_are : (n : ℕ) (path : Path) (ps : List Part) → map (λ (q : Path × Part). q.1) (placed n path ps) ≡ ps
  placed_are n path [] = refl
  placed_are n path (q ∷ ps) = ap (λ l. q ∷ l) (placed_are (n + 1) (path_behind n path q) ps)

  abbrev pieces_from : ℕ → Path → List Part → List Piece
  pieces_from n path ps = flat_map (pieces_of_part k all vs) (with_alternatives (placed n path ps))

  pieces_in : (n : ℕ) (path : Path) (ps : List Part) → PartsNumbered n path ps → Understood ps → list_all has_left ps ≡ true → uses_scope visible (around path) (pieces_from n path ps) ≡ true
  pieces_in n path [] e h l = refl
  pieces_in n path (term And t ∷ ps) e h l =
      let others = alternatives (map (λ (q : Path × Part). q.1) (placed (n + 1) path ps)) in
      let more : AllInScope path (flat_map term_variables (map (checked_term k all vs path) others)) =
      ap (λ qs. list_all (is_in_scope visible (around path)) (flat_map term_variables (map (checked_term k all vs path) (alternatives qs)))) (placed_are (n + 1) path ps)
      ∙ alternatives_in (n + 1) path ps (rest_parts n path (term And t) ps e) (rest_understood (term And t) ps h) in
      both _ (uses_scope visible (around path) (pieces_from (n + 1) path ps))
      (chain_in path (checked_term k all vs path t) (map (checked_term k all vs path) others) (term_in path t (one_part n path (term And t) ps e) (one_understood (term And t) ps h)) more)
      (pieces_in (n + 1) path ps (rest_parts n path (term And t) ps e) (rest_understood (term And t) ps h) l)
  pieces_in n path (term Or t ∷ ps) e h l = pieces_in (n + 1) path ps (rest_parts n path (term Or t) ps e) (rest_understood (term Or t) ps h) l
  pieces_in n path (term Optional t ∷ ps) e h l =
      both _ (uses_scope visible (around path) (pieces_from (n + 1) path ps)) (term_in path t (one_part n path (term Optional t) ps e) (one_understood (term Optional t) ps h))
      (pieces_in (n + 1) path ps (rest_parts n path (term Optional t) ps e) (rest_understood (term Optional t) ps h) l)
  pieces_in n path (term Not t ∷ ps) e h l =
      both _ (uses_scope visible (around path) (pieces_from (n + 1) path ps)) (term_in (n ∷ path) t (one_part n path (term Not t) ps e) (one_understood (term Not t) ps h))
      (pieces_in (n + 1) path ps (rest_parts n path (term Not t) ps e) (rest_understood (term Not t) ps h) l)
  pieces_in n path (opened s ∷ ps) e h l = pieces_in (n + 1) (n ∷ path) ps (rest_parts n path (opened s) ps e) (rest_understood (opened s) ps h) l
  pieces_in n path (closed ∷ ps) e h l =
      ap (λ a. uses_scope visible a (pieces_from (n + 1) (drop 1 path) ps)) (around_less path)
      ∙ pieces_in (n + 1) (drop 1 path) ps (rest_parts n path closed ps e) (rest_understood closed ps h) l
  pieces_in n path (equality v same r ∷ ps) e h l =
      both _ (uses_scope visible (around path) (pieces_from (n + 1) path ps))
      (equality_in path v.spoken v.span same r (first_of (is_var v.spoken) _ l) (one_part n path (equality v same r) ps e))
      (pieces_in (n + 1) path ps (rest_parts n path (equality v same r) ps e) (rest_understood (equality v same r) ps h) (second_of (is_var v.spoken) _ l))

checked_scoped : (k : Known) (s : Syntax) → list_all has_left s.parts ≡ true → is_scoped (checked_query k s) ≡ true
unfolding checked_query
checked_scoped k s h =
    let all = sightings s.parts in
    let owned = map (variable_of all) (occurrences s.parts) in
    let vs = variables s.parts in
    let visible = length (visible_names vs) in
    let understood : list_any understands_this s.parts ≡ true → nat_lt 0 visible ≡ true = λ e. lt-ltb 0 visible (this_is_visible (has_this s.parts) owned (right_true (list_any is_this all) _ e)) in
    pieces_in k all vs visible refl (parted (has_this s.parts) owned) 1 [] s.parts (all_numbered (has_this s.parts) owned) understood h

pub queries_are_scoped : QueriesAreScoped
queries_are_scoped k ts s q (end, is) e = subst (λ (x : Query). is_scoped x ≡ true) (answered k s q (least_from None (faults k s.parts)) e).1 (checked_scoped k s (items_have_left is refl))

ends : (text : List ℕ) (ts : List Token) → IsSpelledBy text ts → EndsInEnd ts
ends text ts (front, spells, same) = (front, record { start = length text; end = length text }, same)

module _ (k : Known) (text : List ℕ) (q : Query) where
  of_parts : (ts : List Token) → EndsInEnd ts → (r : Result (List Part) Span) → parts_of ts ≡ r → checked k (length text) (as_fault SyntaxFault r) ≡ Ok q → is_scoped q ≡ true
  of_parts ts end (Ok ps) is e = queries_are_scoped k ts (record { parts = ps; length = length text }) q (((parts_are_grammatical ts end).0 ps).0 is) e
  of_parts ts end (Err s) is e = absurd (cc)

  of_tokens : (r : Result (List Token) Span) → tokens_of text ≡ r → checked k (length text) (parts_read (as_fault Lex r)) ≡ Ok q → is_scoped q ≡ true
  of_tokens (Ok ts) is e = of_parts ts (ends text ts (((tokens_are_spelled text).0 ts).0 is)) (parts_of ts) refl e
  of_tokens (Err s) is e = absurd (cc)

pub queries_of_texts_are_scoped : QueriesOfTextsAreScoped
unfolding query_of
queries_of_texts_are_scoped k text q e = of_tokens k text q (tokens_of text) refl e
