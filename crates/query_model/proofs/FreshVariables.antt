-- A group's own variables are in no scope around it, since a number has one level, and a group's level is on no path around it.
use Rattle.std.specs.Prelude.{◌≡◌, ◌⊎◌, ℕ, ◌+◌, ◌<◌, ◌≤◌, ◌==◌, Bool, true, false, not, List, [], ◌∷◌, ◌++◌, map, flat_map, drop, length, nat_lt, None, if◌then◌else◌}
use Rattle.std.specs.List.{list_any, list_all}
use Rattle.std.proofs.Common.{ap, sym, ◌∙◌, refl, subst, inl, inr, eq-eqb, arith}
use Rattle.std.proofs.lemmas.Bool.{eqb-true, ltb-true}
use Rattle.query_model.specs.declared.syntax.Role.TheVariants.{And, Or, Not, Optional}
use Rattle.query_model.specs.Faults.{least_from}
use Rattle.query_model.specs.Syntax.{Part, term, opened, closed, equality, Syntax}
use Rattle.query_model.specs.Levels.{Path, placed, with_alternatives}
use Rattle.query_model.specs.Scope.{Sighting, occurrences, sightings}
use Rattle.query_model.specs.Numbers.{Variable, has_this, is_whole, numbers_from, variable_of, variables}
use Rattle.query_model.specs.Check.{Known, faults}
use Rattle.query_model.specs.Query.{Piece, Query, checked_query, pieces_of_part, visible_names}
use Rattle.query_model.specs.Scopes.{OwnVariablesAreNew, has_new_variables, contains, is_in_scope}
use Rattle.query_model.proofs.NumberedVariables.{Parted, both, count_visible, first_of, left_true, parted, right_true, second_of, split}
use Rattle.query_model.proofs.SoundTerms.{answered}

refuted : (b : Bool) → (b ≡ true → ⊥) → not b ≡ true
refuted true h = absurd (h refl)
refuted false h = refl

pub each_number : (test : ℕ → Bool) (xs : List ℕ) → ((v : ℕ) → contains xs v ≡ true → test v ≡ true) → list_all test xs ≡ true
each_number test [] h = refl
each_number test (x ∷ xs) h = both (test x) _ (h x (left_true (x == x) _ (eq-eqb x x refl))) (each_number test xs (λ v e. h v (right_true (x == v) _ e)))

-- the numbers of a level from a number on
pub one_more : (b r : ℕ) (rest : List ℕ) (here : Bool) → contains (if here then b ∷ rest else rest) r ≡ true → ((here ≡ true) × (b ≡ r)) ⊎ (contains rest r ≡ true)
one_more b r rest true e =
    elim (split (b == r) (contains rest r) e) [
      | inl s ↦ inl (refl, eqb-true b r s)
      | inr s ↦ inr s
    ]
one_more b r rest false e = inr e

at_least : (b level r : ℕ) (us : List Variable) → contains (numbers_from b level us) r ≡ true → b ≤ r
at_least b level r [] e = absurd (let x : false ≡ true = e in cc)
at_least b level r (u ∷ us) e =
    elim (one_more b r (numbers_from (b + 1) level us) (u.1 == level) e) [
      | inl s ↦ let same = s.1 in omega arith
      | inr s ↦ let more = at_least (b + 1) level r us s in omega arith
    ]

behind_wholes : (b level r : ℕ) (ws gs : List Variable) → 0 < level → list_all (is_whole true) ws ≡ true → contains (numbers_from b level (ws ++ gs)) r ≡ true → b + length ws ≤ r
behind_wholes b level r [] gs h w e = let more = at_least b level r gs e in omega arith
behind_wholes b level r (v ∷ ws) gs h w e =
    elim (one_more b r (numbers_from (b + 1) level (ws ++ gs)) (v.1 == level) e) [
      | inl s ↦ absurd (let here = eqb-true v.1 level s.0 in let whole = eqb-true v.1 0 (first_of (is_whole true v) _ w) in omega arith)
      | inr s ↦ let more = behind_wholes (b + 1) level r ws gs h (second_of (is_whole true v) _ w) s in omega arith
    ]

one_level : (b l m r : ℕ) (us : List Variable) → contains (numbers_from b l us) r ≡ true → contains (numbers_from b m us) r ≡ true → l ≡ m
one_level b l m r [] e f = absurd (let x : false ≡ true = e in cc)
one_level b l m r (u ∷ us) e f =
    elim (one_more b r (numbers_from (b + 1) l us) (u.1 == l) e) [
      | inl s ↦
          elim (one_more b r (numbers_from (b + 1) m us) (u.1 == m) f) [
            | inl t ↦ sym (eqb-true u.1 l s.0) ∙ eqb-true u.1 m t.0
            | inr t ↦ absurd (let same = s.1 in let more = at_least (b + 1) m r us t in omega arith)
          ]
      | inr s ↦
          elim (one_more b r (numbers_from (b + 1) m us) (u.1 == m) f) [
            | inl t ↦ absurd (let same = t.1 in let more = at_least (b + 1) l r us s in omega arith)
            | inr t ↦ one_level (b + 1) l m r us s t
          ]
    ]

-- the levels of a path are begun before
abbrev pub Before : ℕ → Path → Type 0
Before n path = (l : ℕ) → contains path l ≡ true → l < n

before_later : (n : ℕ) (path : Path) → Before n path → Before (n + 1) path
before_later n path h l e = let less = h l e in omega arith

before_inside : (n : ℕ) (path : Path) → Before n path → Before (n + 1) (n ∷ path)
before_inside n path h l e =
    elim (split (n == l) (contains path l) e) [
      | inl s ↦ let same = eqb-true n l s in omega arith
      | inr s ↦ let less = h l s in omega arith
    ]

before_outside : (n : ℕ) (path : Path) → Before n path → Before (n + 1) (drop 1 path)
before_outside n [] h l e = absurd (let x : false ≡ true = e in cc)
before_outside n (m ∷ ms) h l e = let less = h l (right_true (m == l) _ e) in omega arith

module _ (k : Known) (all : List Sighting) (vs : List Variable) (p : Parted vs) where
  abbrev around : Path → List (List ℕ)
  around path = map (λ l. numbers_from 0 l vs) path

  abbrev visible : ℕ
  visible = length (visible_names vs)

  of_level : (path : Path) (n r : ℕ) → contains (numbers_from 0 n vs) r ≡ true → list_any (λ ls. contains ls r) (around path) ≡ true → contains path n ≡ true
  of_level [] n r e f = absurd (let x : false ≡ true = f in cc)
  of_level (l ∷ ls) n r e f =
      elim (split (contains (numbers_from 0 l vs) r) _ f) [
        | inl s ↦ left_true (l == n) _ (eq-eqb l n (one_level 0 l n r vs s e))
        | inr s ↦ right_true (l == n) _ (of_level ls n r e s)
      ]

  hidden : (n r : ℕ) → 0 < n → contains (numbers_from 0 n vs) r ≡ true → nat_lt r visible ≡ true → ⊥
  hidden n r h e f =
      let less = ltb-true r visible f in
      let count : visible ≡ length p.wholes = ap (λ us. length (visible_names us)) p.is ∙ count_visible p.wholes p.inner p.all_whole p.all_inner in
      let more = behind_wholes 0 n r p.wholes p.inner h p.all_whole (sym (ap (λ us. contains (numbers_from 0 n us) r) p.is) ∙ e) in
      absurd (omega arith)

  own_new : (n : ℕ) (path : Path) → 0 < n → Before n path → list_all (λ v. not (is_in_scope visible (around path) v)) (numbers_from 0 n vs) ≡ true
  own_new n path h below =
      each_number (λ v. not (is_in_scope visible (around path) v)) (numbers_from 0 n vs)
      (λ r e. refuted (is_in_scope visible (around path) r) (λ f. elim (split (nat_lt r visible) _ f) [
        | inl s ↦ hidden n r h e s
        | inr s ↦ absurd (let less = below n (of_level path n r e s) in omega arith)
      ]))

  around_less : (path : Path) → drop 1 (around path) ≡ around (drop 1 path)
  around_less [] = refl
  around_less (l ∷ ls) = refl

  abbrev pieces_from : ℕ → Path → List Part → List Piece
  pieces_from n path ps = flat_map (pieces_of_part k all vs) (with_alternatives (placed n path ps))

  pieces_new : (n : ℕ) (path : Path) (ps : List Part) → 0 < n → Before n path → has_new_variables visible (around path) (pieces_from n path ps) ≡ true
  pieces_new n path [] h b = refl
  pieces_new n path (term And t ∷ ps) h b = pieces_new (n + 1) path ps (omega arith) (before_later n path b)
  pieces_new n path (term Or t ∷ ps) h b = pieces_new (n + 1) path ps (omega arith) (before_later n path b)
  pieces_new n path (term Optional t ∷ ps) h b = pieces_new (n + 1) path ps (omega arith) (before_later n path b)
  pieces_new n path (term Not t ∷ ps) h b =
      both _ (has_new_variables visible (around path) (pieces_from (n + 1) path ps)) (own_new n path h b) (pieces_new (n + 1) path ps (omega arith) (before_later n path b))
  pieces_new n path (opened s ∷ ps) h b =
      both _ (has_new_variables visible (around (n ∷ path)) (pieces_from (n + 1) (n ∷ path) ps)) (own_new n path h b) (pieces_new (n + 1) (n ∷ path) ps (omega arith) (before_inside n path b))
  pieces_new n path (closed ∷ ps) h b =
      ap (λ a. has_new_variables visible a (pieces_from (n + 1) (drop 1 path) ps)) (around_less path) ∙ pieces_new (n + 1) (drop 1 path) ps (omega arith) (before_outside n path b)
  pieces_new n path (equality v same r ∷ ps) h b = pieces_new (n + 1) path ps (omega arith) (before_later n path b)

checked_new : (k : Known) (s : Syntax) → has_new_variables (length (checked_query k s).variables) [] (checked_query k s).pieces ≡ true
unfolding checked_query
checked_new k s =
    let all = sightings s.parts in
    pieces_new k all (variables s.parts) (parted (has_this s.parts) (map (variable_of all) (occurrences s.parts))) 1 [] s.parts (omega arith) (λ l e. absurd (let x : false ≡ true = e in cc))

pub own_variables_are_new : OwnVariablesAreNew
own_variables_are_new k s q e =
    subst (λ (x : Query). has_new_variables (length x.variables) [] x.pieces ≡ true) (answered k s q (least_from None (faults k s.parts)) e).1 (checked_new k s)
