-- Where `$this` is written or understood in a query, some item has it.
use Rattle.std.specs.Prelude.{◌≡◌, ◌⊎◌, ℕ, ◌+◌, ◌==◌, Bool, true, false, ◌&&◌, ◌||◌, List, [], ◌∷◌, ◌++◌, map, flat_map, drop, bytes_eq, Option, Some, None, is_none, option_map}
use Rattle.std.specs.List.{list_any, list_all}
use Rattle.std.specs.Option.{option_map_or}
use Rattle.std.proofs.Common.{ap, sym, ◌∙◌, refl, inl, inr, eq-eqb}
use Rattle.std.proofs.lemmas.List.{map-append}
use Rattle.std.proofs.lemmas.List.Concat.{flat_map-append}
use Rattle.std.proofs.lemmas.List.Folds.{list_any-append}
use Rattle.std.proofs.lemmas.Slice.Eq.{bytes_eq-Decides}
use Rattle.query_model.specs.declared.Span.{Span}
use Rattle.query_model.specs.declared.query.Term.{Term}
use Rattle.query_model.specs.declared.query.Position.{Position}
use Rattle.query_model.specs.declared.query.Position.TheVariants.{Component, Source, Target, Risen, Left, Right}
use Rattle.query_model.specs.declared.syntax.Role.{Role}
use Rattle.query_model.specs.declared.syntax.Role.TheVariants.{And, Or, Not, Optional}
use Rattle.query_model.specs.Tokens.{Token}
use Rattle.query_model.specs.Grammar.{plain_word, IsRise, up_alone, up_along, up_in_brackets, IsFlags, self_alone, rise_alone, self_or_rise, IsSource, reference_alone, flags_alone, reference_with_flags, IsArgs, source_alone, source_and_target, IsBody, alone, pair, with_args, IsTerm, body, body_behind_access, IsChain, last_alternative, alternative, IsOperator, bang, question, IsItem, terms, operator, operator_behind_access, group, equation, IsItems, last_item, IsQuery}
use Rattle.query_model.specs.Grammar.{item as one_item}
use Rattle.query_model.specs.Syntax.{Spoken, Word, Var, Any, AnyOnce, Reference, at, Rise, Flags, TermSyntax, Part, term, opened, closed, equality}
use Rattle.query_model.specs.Levels.{Path, alternatives, path_behind, path_in, placed}
use Rattle.query_model.specs.Uses.{Use, along_what, rise_of, risen, uses_of_term, written}
use Rattle.query_model.specs.Scope.{Occurrence, Sighting, is_word, occurrence_of, occurrences_of, owner, sighting, this}
use Rattle.query_model.specs.Numbers.{Variable, has_this, is_this, number_from, understands_this}
use Rattle.query_model.specs.Check.{Known}
use Rattle.query_model.specs.Query.{chain_of, checked_equality, checked_term, ref_of, source_of}
use Rattle.query_model.proofs.NumberedVariables.{both, first_of, left_true, right_true, second_of, split}
use Rattle.query_meaning.specs.Variables.{contains, item_variables, term_variables, variable_in}
use Rattle.query_meaning.proofs.LevelHolding.{contains-left, contains-right}
use Rattle.query_meaning.proofs.OwnOccurrences.{pieces_from}
use Rattle.query_meaning.proofs.SoundLevels.{occurs_among}

-- ---- what the grammar says: alternatives stand after a term that must match, and what is after `up` or `cascade` is a word

-- may says whether an alternative may come first
abbrev pub are_chained : Bool → List Part → Bool
are_chained may [] = true
are_chained may (term And t ∷ ps) = are_chained true ps
are_chained may (term Or t ∷ ps) = may && are_chained true ps
are_chained may (term Not t ∷ ps) = are_chained false ps
are_chained may (term Optional t ∷ ps) = are_chained false ps
are_chained may (opened s ∷ ps) = are_chained false ps
are_chained may (closed ∷ ps) = are_chained false ps
are_chained may (equality v same r ∷ ps) = are_chained false ps

abbrev is_word_if_written : Option Reference → Bool
is_word_if_written None = true
is_word_if_written (Some r) = is_word r

abbrev pub rises_by_word : Part → Bool
rises_by_word (term role t) = is_word_if_written (risen t)
rises_by_word p = true

may_chained : (ps : List Part) → are_chained false ps ≡ true → are_chained true ps ≡ true
may_chained [] e = e
may_chained (term And t ∷ ps) e = e
may_chained (term Or t ∷ ps) e = absurd (let x : false ≡ true = e in cc)
may_chained (term Not t ∷ ps) e = e
may_chained (term Optional t ∷ ps) e = e
may_chained (opened s ∷ ps) e = e
may_chained (closed ∷ ps) e = e
may_chained (equality v same r ∷ ps) e = e

abbrev follows_role : Role → List Part → Bool
follows_role And ps = are_chained false ps
follows_role Or ps = are_chained true ps
follows_role role ps = true

term_chained : (role : Role) (t : TermSyntax) (ps : List Part) → are_chained true ps ≡ true → follows_role role (term role t ∷ ps) ≡ true
term_chained And t ps e = e
term_chained Or t ps e = e
term_chained Not t ps e = refl
term_chained Optional t ps e = refl

chain_chained : {role : Role} {ts us : List Token} {ps qs : List Part} → IsChain role ts us ps qs → are_chained false ps ≡ true → follows_role role qs ≡ true
chain_chained {role = role} {ps = ps} (last_alternative {t = t} i) h = term_chained role t ps (may_chained ps h)
chain_chained {role = role} (alternative {t = t} {qs = qs} i is) h = term_chained role t qs (chain_chained is h)

operator_chained : {o : Token} {role : Role} → IsOperator o role → (t : TermSyntax) (ps : List Part) → are_chained false ps ≡ true → are_chained false (term role t ∷ ps) ≡ true
operator_chained bang t ps h = h
operator_chained question t ps h = h

mutual
  item_chained : {ts us : List Token} {ps qs : List Part} → IsItem ts us ps qs → are_chained false ps ≡ true → are_chained false qs ≡ true
  item_chained (terms i) h = chain_chained i h
  item_chained (operator {t = t} {ps = ps} j i) h = operator_chained j t ps h
  item_chained (operator_behind_access {t = t} {ps = ps} a j i) h = operator_chained j t ps h
  item_chained (group is) h = items_chained is h
  item_chained (equation j i) h = h

  items_chained : {ts us : List Token} {ps qs : List Part} → IsItems ts us ps qs → are_chained false ps ≡ true → are_chained false qs ≡ true
  items_chained (last_item i) h = item_chained i h
  items_chained (one_item i is) h = item_chained i (items_chained is h)

rise_word : {ts us : List Token} {r : Rise} → IsRise ts us r → is_word_if_written (along_what r) ≡ true
rise_word (up_alone u) = refl
rise_word (up_along u (plain_word e)) = refl
rise_word (up_in_brackets u (plain_word e)) = refl

flags_word : {ts us : List Token} {f : Flags} → IsFlags ts us f → is_word_if_written (along_what f.rise) ≡ true
flags_word self_alone = refl
flags_word (rise_alone i) = rise_word i
flags_word (self_or_rise i) = rise_word i

source_word : {ts us : List Token} {r : Option Reference} {f : Option Flags} → IsSource ts us r f → is_word_if_written (along_what (rise_of f)) ≡ true
source_word (reference_alone i) = refl
source_word (flags_alone i) = flags_word i
source_word (reference_with_flags j i) = flags_word i

args_word : {ts us : List Token} {r : Option Reference} {f : Option Flags} {t : Option Reference} → IsArgs ts us r f t → is_word_if_written (along_what (rise_of f)) ≡ true
args_word (source_alone i) = source_word i
args_word (source_and_target i j) = source_word i

body_word : {shows_value : Bool} {ts us : List Token} {t : TermSyntax} → IsBody shows_value ts us t → is_word_if_written (risen t) ≡ true
body_word (alone i) = refl
body_word (pair i j) = refl
body_word (with_args i j) = args_word j

term_word : {ts us : List Token} {t : TermSyntax} → IsTerm ts us t → is_word_if_written (risen t) ≡ true
term_word (body i) = body_word i
term_word (body_behind_access a i) = body_word i

chain_words : {role : Role} {ts us : List Token} {ps qs : List Part} → IsChain role ts us ps qs → list_all rises_by_word ps ≡ true → list_all rises_by_word qs ≡ true
chain_words (last_alternative i) h = both _ _ (term_word i) h
chain_words (alternative i is) h = both _ _ (term_word i) (chain_words is h)

mutual
  item_words : {ts us : List Token} {ps qs : List Part} → IsItem ts us ps qs → list_all rises_by_word ps ≡ true → list_all rises_by_word qs ≡ true
  item_words (terms i) h = chain_words i h
  item_words (operator j i) h = both _ _ (term_word i) h
  item_words (operator_behind_access a j i) h = both _ _ (body_word i) h
  item_words (group is) h = items_words is h
  item_words (equation j i) h = h

  items_words : {ts us : List Token} {ps qs : List Part} → IsItems ts us ps qs → list_all rises_by_word ps ≡ true → list_all rises_by_word qs ≡ true
  items_words (last_item i) h = item_words i h
  items_words (one_item i is) h = item_words i (items_words is h)

-- ---- where `$this` is among variables

abbrev says_this : List Occurrence → Bool
says_this os = list_any is_this (map sighting os)

says_either : (os ps : List Occurrence) → says_this (os ++ ps) ≡ (says_this os || says_this ps)
says_either os ps = ap (list_any is_this) (map-append sighting os ps) ∙ list_any-append is_this (map sighting os) (map sighting ps)

abbrev use_this : Path → List Use → Bool
use_this path us = says_this (flat_map (occurrence_of path) us)

use_either : (path : Path) (us ws : List Use) → use_this path (us ++ ws) ≡ true → (use_this path us ≡ true) ⊎ (use_this path ws ≡ true)
use_either path us ws e =
    split (use_this path us) (use_this path ws) (sym (ap says_this (flat_map-append (occurrence_of path) us ws) ∙ says_either (flat_map (occurrence_of path) us) (flat_map (occurrence_of path) ws)) ∙ e)

word_is_other : (path : Path) (w : Spoken) (s : Span) → is_word (at w s) ≡ true → use_this path (written Risen (Some (at w s))) ≡ true → ⊥
word_is_other path (Word n) s w e = absurd (let x : false ≡ true = e in cc)
word_is_other path (Var v) s w e = absurd (let x : false ≡ true = w in cc)
word_is_other path Any s w e = absurd (let x : false ≡ true = w in cc)
word_is_other path AnyOnce s w e = absurd (let x : false ≡ true = w in cc)

risen_is_other : (path : Path) (r : Option Reference) → is_word_if_written r ≡ true → use_this path (written Risen r) ≡ true → ⊥
risen_is_other path None w e = absurd (let x : false ≡ true = e in cc)
risen_is_other path (Some r) w e = word_is_other path r.spoken r.span w e

module _ (k : Known) (all : List Sighting) (vs : List Variable) (first : number_from 0 (this, 0) vs ≡ 0) where
  owner_of_this : (path : Path) → owner all this path ≡ 0
  owner_of_this path = refl

  this_spoken : (path : Path) (w : Spoken) (s : Span) (position : Position) → use_this path (written position (Some (at w s))) ≡ true → contains (variable_in (ref_of k all vs path (at w s))) 0 ≡ true
  this_spoken path (Var v) s position e =
      let same : v ≡ this = (bytes_eq-Decides v this).0 (elim (split (bytes_eq v this) false e) [ inl t ↦ t | inr f ↦ absurd (let x : false ≡ true = f in cc) ]) in
      let number : number_from 0 (v, owner all v path) vs ≡ 0 = ap (λ n. number_from 0 (n, owner all n path) vs) same ∙ ap (λ l. number_from 0 (this, l) vs) (owner_of_this path) ∙ first in
      left_true (number_from 0 (v, owner all v path) vs == 0) false (eq-eqb (number_from 0 (v, owner all v path) vs) 0 number)
  this_spoken path (Word n) s position e = absurd (let x : false ≡ true = e in cc)
  this_spoken path Any s position e = absurd (let x : false ≡ true = e in cc)
  this_spoken path AnyOnce s position e = absurd (let x : false ≡ true = e in cc)

  this_reference : (path : Path) (r : Reference) (position : Position) → use_this path (written position (Some r)) ≡ true → contains (variable_in (ref_of k all vs path r)) 0 ≡ true
  this_reference path r position e = this_spoken path r.spoken r.span position e

  this_source : (path : Path) (r : Option Reference) → (use_this path (written Source r) || is_none r) ≡ true → contains (variable_in (source_of k all vs path r)) 0 ≡ true
  this_source path None e = refl
  this_source path (Some r) e =
      elim (split (use_this path (written Source (Some r))) false e) [
        | inl u ↦ this_reference path r Source u
        | inr f ↦ absurd (let x : false ≡ true = f in cc)
      ]

  this_target : (path : Path) (r : Option Reference) → use_this path (written Target r) ≡ true → contains (option_map_or variable_in (option_map (ref_of k all vs path) r) []) 0 ≡ true
  this_target path None e = absurd (let x : false ≡ true = e in cc)
  this_target path (Some r) e = this_reference path r Target e

  this_term : (path : Path) (t : TermSyntax) → is_word_if_written (risen t) ≡ true → (use_this path (uses_of_term t) || is_none t.source) ≡ true → contains (term_variables (checked_term k all vs path t)) 0 ≡ true
  this_term path t w e =
      let c = written Component (Some t.component) in
      let s = written Source t.source in
      let r = written Risen (risen t) in
      let g = written Target t.target in
      let source = variable_in (source_of k all vs path t.source) in
      let first_ = variable_in (ref_of k all vs path t.component) in
      let target = option_map_or variable_in (option_map (ref_of k all vs path) t.target) [] in
      elim (split (use_this path (uses_of_term t)) (is_none t.source) e) [
        | inl u ↦
            elim (use_either path (c ++ s ++ r) g u) [
              | inl x ↦
                  elim (use_either path (c ++ s) r x) [
                    | inl y ↦
                        elim (use_either path c s y) [
                          | inl z ↦ contains-right source (first_ ++ target) 0 (contains-left first_ target 0 (this_reference path t.component Component z))
                          | inr z ↦ contains-left source (first_ ++ target) 0 (this_source path t.source (left_true (use_this path s) _ z))
                        ]
                    | inr y ↦ absurd (risen_is_other path (risen t) w y)
                  ]
              | inr x ↦ contains-right source (first_ ++ target) 0 (contains-right first_ target 0 (this_target path t.target x))
            ]
        | inr n ↦ contains-left source (first_ ++ target) 0 (this_source path t.source (right_true (use_this path s) _ n))
      ]

  this_equality : (path : Path) (w : Spoken) (s : Span) (same : Bool) (r : Reference) → use_this path (written Left (Some (at w s)) ++ written Right (Some r)) ≡ true
      → contains (item_variables (checked_equality k all vs path w same r)) 0 ≡ true
  this_equality path (Var v) s true r e =
      elim (use_either path (written Left (Some (at (Var v) s))) (written Right (Some r)) e) [
        | inl u ↦ contains-left (number_from 0 (v, owner all v path) vs ∷ []) (variable_in (ref_of k all vs path r)) 0 (this_spoken path (Var v) s Left u)
        | inr u ↦ contains-right (number_from 0 (v, owner all v path) vs ∷ []) (variable_in (ref_of k all vs path r)) 0 (this_reference path r Right u)
      ]
  this_equality path (Var v) s false r e =
      elim (use_either path (written Left (Some (at (Var v) s))) (written Right (Some r)) e) [
        | inl u ↦ contains-left (number_from 0 (v, owner all v path) vs ∷ []) (variable_in (ref_of k all vs path r)) 0 (this_spoken path (Var v) s Left u)
        | inr u ↦ contains-right (number_from 0 (v, owner all v path) vs ∷ []) (variable_in (ref_of k all vs path r)) 0 (this_reference path r Right u)
      ]
  this_equality path (Word n) s same r e = refl
  this_equality path Any s same r e = refl
  this_equality path AnyOnce s same r e = refl

  -- ---- and in which item it is then

  abbrev more_this : Path → List Part → Bool
  more_this path ps = contains (flat_map term_variables (map (checked_term k all vs path) (alternatives ps))) 0

  abbrev SaysThis : ℕ → Path → List Part → Type 0
  SaysThis n path ps = (says_this (flat_map occurrences_of (placed n path ps)) || list_any understands_this ps) ≡ true

  says_split : (n : ℕ) (path : Path) (p : Part) (ps : List Part) → SaysThis n path (p ∷ ps)
      → ((says_this (occurrences_of (path_in n path p, p)) || understands_this p) ≡ true) ⊎ SaysThis (n + 1) (path_behind n path p) ps
  says_split n path p ps e =
      let here = occurrences_of (path_in n path p, p) in
      let rest = flat_map occurrences_of (placed (n + 1) (path_behind n path p) ps) in
      elim (split (says_this (here ++ rest)) (understands_this p || list_any understands_this ps) e) [
        | inl s ↦
            elim (split (says_this here) (says_this rest) (sym (says_either here rest) ∙ s)) [
              | inl h ↦ inl (left_true (says_this here) _ h)
              | inr r ↦ inr (left_true (says_this rest) _ r)
            ]
        | inr u ↦
            elim (split (understands_this p) (list_any understands_this ps) u) [
              | inl h ↦ inl (right_true (says_this here) _ h)
              | inr r ↦ inr (right_true (says_this rest) _ r)
            ]
      ]

  -- without alternatives at the beginning
  no_more : (path : Path) (ps : List Part) (b : Bool) → are_chained false ps ≡ true → (more_this path ps || b) ≡ true → b ≡ true
  no_more path [] b c e = e
  no_more path (term And t ∷ ps) b c e = e
  no_more path (term Or t ∷ ps) b c e = absurd (let x : false ≡ true = c in cc)
  no_more path (term Not t ∷ ps) b c e = e
  no_more path (term Optional t ∷ ps) b c e = e
  no_more path (opened s ∷ ps) b c e = e
  no_more path (closed ∷ ps) b c e = e
  no_more path (equality v same r ∷ ps) b c e = e

  chain_has : (t : Term) (ts : List Term) → contains (term_variables t) 0 ≡ true → contains (item_variables (chain_of t ts)) 0 ≡ true
  chain_has t [] e = e
  chain_has t (u ∷ us) e = contains-left (term_variables t) (flat_map term_variables (u ∷ us)) 0 e

  chain_has_more : (t : Term) (ts : List Term) → contains (flat_map term_variables ts) 0 ≡ true → contains (item_variables (chain_of t ts)) 0 ≡ true
  chain_has_more t [] e = absurd (let x : false ≡ true = e in cc)
  chain_has_more t (u ∷ us) e = contains-right (term_variables t) (flat_map term_variables (u ∷ us)) 0 e

  placed_are : (n : ℕ) (path : Path) (ps : List Part) → map (λ (q : Path × Part). q.1) (placed n path ps) ≡ ps
  placed_are n path [] = refl
  placed_are n path (q ∷ ps) = ap (λ l. q ∷ l) (placed_are (n + 1) (path_behind n path q) ps)

  nothing_said : {A : Type 0} → (false || false) ≡ true → A
  nothing_said e = absurd (let x : false ≡ true = e in cc)

  said_without : (b : Bool) → (b || false) ≡ true → b ≡ true
  said_without true e = refl
  said_without false e = e

  this_from : (n : ℕ) (path : Path) (ps : List Part) → are_chained true ps ≡ true → list_all rises_by_word ps ≡ true → SaysThis n path ps → (more_this path ps || occurs_among (pieces_from k all vs n path ps) 0) ≡ true
  this_from n path [] c w e = nothing_said e
  this_from n path (term And t ∷ ps) c w e =
      let others = alternatives (map (λ (q : Path × Part). q.1) (placed (n + 1) path ps)) in
      let i = chain_of (checked_term k all vs path t) (map (checked_term k all vs path) others) in
      let rest = pieces_from k all vs (n + 1) path ps in
      elim (says_split n path (term And t) ps e) [
        | inl h ↦
            left_true (contains (item_variables i) 0) (occurs_among rest 0)
            (chain_has (checked_term k all vs path t) (map (checked_term k all vs path) others) (this_term path t (first_of (is_word_if_written (risen t)) _ w) h))
        | inr r ↦
            elim (split (more_this path ps) (occurs_among rest 0) (this_from (n + 1) path ps c (second_of (is_word_if_written (risen t)) _ w) r)) [
              | inl m ↦
                  left_true (contains (item_variables i) 0) (occurs_among rest 0)
                  (chain_has_more (checked_term k all vs path t) (map (checked_term k all vs path) others)
                  (ap (λ l. contains (flat_map term_variables (map (checked_term k all vs path) (alternatives l))) 0) (placed_are (n + 1) path ps) ∙ m))
              | inr b ↦ right_true (contains (item_variables i) 0) (occurs_among rest 0) b
            ]
      ]
  this_from n path (term Or t ∷ ps) c w e =
      let mine = term_variables (checked_term k all vs path t) in
      let more = flat_map term_variables (map (checked_term k all vs path) (alternatives ps)) in
      let rest = occurs_among (pieces_from k all vs (n + 1) path ps) 0 in
      elim (says_split n path (term Or t) ps e) [
        | inl h ↦ left_true (contains (mine ++ more) 0) rest (contains-left mine more 0 (this_term path t (first_of (is_word_if_written (risen t)) _ w) h))
        | inr r ↦
            elim (split (contains more 0) rest (this_from (n + 1) path ps c (second_of (is_word_if_written (risen t)) _ w) r)) [
              | inl m ↦ left_true (contains (mine ++ more) 0) rest (contains-right mine more 0 m)
              | inr b ↦ right_true (contains (mine ++ more) 0) rest b
            ]
      ]
  this_from n path (term Optional t ∷ ps) c w e =
      let mine = contains (term_variables (checked_term k all vs path t)) 0 in
      let rest = occurs_among (pieces_from k all vs (n + 1) path ps) 0 in
      elim (says_split n path (term Optional t) ps e) [
        | inl h ↦ left_true mine rest (this_term path t (first_of (is_word_if_written (risen t)) _ w) h)
        | inr r ↦ right_true mine rest (no_more path ps rest c (this_from (n + 1) path ps (may_chained ps c) (second_of (is_word_if_written (risen t)) _ w) r))
      ]
  this_from n path (term Not t ∷ ps) c w e =
      let mine = contains (term_variables (checked_term k all vs (n ∷ path) t)) 0 in
      let rest = occurs_among (pieces_from k all vs (n + 1) path ps) 0 in
      elim (says_split n path (term Not t) ps e) [
        | inl h ↦ left_true mine rest (this_term (n ∷ path) t (first_of (is_word_if_written (risen t)) _ w) h)
        | inr r ↦ right_true mine rest (no_more path ps rest c (this_from (n + 1) path ps (may_chained ps c) (second_of (is_word_if_written (risen t)) _ w) r))
      ]
  this_from n path (opened s ∷ ps) c w e =
      elim (says_split n path (opened s) ps e) [
        | inl h ↦ nothing_said h
        | inr r ↦ no_more (n ∷ path) ps (occurs_among (pieces_from k all vs (n + 1) (n ∷ path) ps) 0) c (this_from (n + 1) (n ∷ path) ps (may_chained ps c) w r)
      ]
  this_from n path (closed ∷ ps) c w e =
      elim (says_split n path closed ps e) [
        | inl h ↦ nothing_said h
        | inr r ↦ no_more (drop 1 path) ps (occurs_among (pieces_from k all vs (n + 1) (drop 1 path) ps) 0) c (this_from (n + 1) (drop 1 path) ps (may_chained ps c) w r)
      ]
  this_from n path (equality v same x ∷ ps) c w e =
      let mine = contains (item_variables (checked_equality k all vs path v.spoken same x)) 0 in
      let rest = occurs_among (pieces_from k all vs (n + 1) path ps) 0 in
      elim (says_split n path (equality v same x) ps e) [
        | inl h ↦ left_true mine rest (this_equality path v.spoken v.span same x (said_without (use_this path (written Left (Some v) ++ written Right (Some x))) h))
        | inr r ↦ right_true mine rest (no_more path ps rest c (this_from (n + 1) path ps (may_chained ps c) w r))
      ]

  pub this_occurs : (ts : List Token) (ps : List Part) → IsQuery ts ps → has_this ps ≡ true → occurs_among (pieces_from k all vs 1 [] ps) 0 ≡ true
  this_occurs ts ps (end, is) e =
      let c : are_chained false ps ≡ true = items_chained is refl in
      no_more [] ps (occurs_among (pieces_from k all vs 1 [] ps) 0) c (this_from 1 [] ps (may_chained ps c) (items_words is refl) e)
