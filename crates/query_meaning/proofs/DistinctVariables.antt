-- The variables of a query stand once each among its variables, so a number belongs to one of them; and each of them occurs.
use Rattle.std.specs.Prelude.{◌≡◌, ◌⊎◌, ℕ, ◌+◌, ◌<◌, ◌≤◌, ◌==◌, Bool, true, false, not, ◌&&◌, List, [], ◌∷◌, ◌++◌, filter, fold, length, if◌then◌else◌}
use Rattle.std.specs.List.{list_all}
use Rattle.std.proofs.Common.{ap, sym, ◌∙◌, refl, subst, inl, inr, arith, eq-eqb}
use Rattle.std.proofs.lemmas.Bool.{cases_eq, eqb-true, false_from_ne_true}
use Rattle.std.proofs.lemmas.List.Folds.{list_any-append}
use Rattle.query_model.specs.Numbers.{Variable, add_new, is_whole, number_from, numbers_from, same_variable, variables_among}
use Rattle.query_model.specs.Scope.{this}
use Rattle.query_model.specs.Query.{visible_names}
use Rattle.query_model.specs.Scopes.{contains}
use Rattle.query_model.proofs.FreshVariables.{one_more}
use Rattle.query_model.proofs.NumberedVariables.{Parted, both, count_visible, first_of, is_among, left_true, right_true, second_of, split}
pub use Rattle.query_model.proofs.NumberedVariables.{one_variable, same_itself}

-- ---- distinct variables

abbrev pub distinct : List Variable → Bool
distinct [] = true
distinct (v ∷ vs) = not (is_among vs v) && distinct vs

not_both : {b : Bool} → b ≡ true → not b ≡ true → ⊥
not_both {b = true} e f = cc
not_both {b = false} e f = cc

one_behind : (vs : List Variable) (x : Variable) → distinct vs ≡ true → is_among vs x ≡ false → distinct (vs ++ x ∷ []) ≡ true
one_behind [] x d n = refl
one_behind (v ∷ vs) x d n =
    both (not (is_among (vs ++ x ∷ []) v)) (distinct (vs ++ x ∷ []))
    (ap not (false_from_ne_true (is_among (vs ++ x ∷ []) v) (λ e. elim (split (is_among vs v) _ (sym (list_any-append (same_variable v) vs (x ∷ [])) ∙ e)) [
      | inl i ↦ not_both i (first_of (not (is_among vs v)) (distinct vs) d)
      | inr i ↦
          let same : v ≡ x = elim (split (same_variable v x) false i) [ inl s ↦ one_variable v x s | inr f ↦ absurd (let y : false ≡ true = f in cc) ] in
          let here : is_among (v ∷ vs) x ≡ true = left_true (same_variable x v) (is_among vs x) (subst (λ (u : Variable). same_variable x u ≡ true) (sym same) (same_itself x)) in
          absurd (let y : false ≡ true = sym n ∙ here in cc)
    ])))
    (one_behind vs x (second_of (not (is_among vs v)) (distinct vs) d) (false_from_ne_true (is_among vs x) (λ e. let y : false ≡ true = sym n ∙ right_true (same_variable x v) (is_among vs x) e in cc)))

distinct_added : (xs base : List Variable) → distinct base ≡ true → distinct (fold add_new base xs) ≡ true
distinct_added [] base d = d
distinct_added (x ∷ xs) base d = distinct_added xs (add_new base x) (by (is_among base x) refl)
  where
    by : (b : Bool) → is_among base x ≡ b → distinct (if b then base else base ++ x ∷ []) ≡ true
    by true e = d
    by false e = one_behind base x d e

pub distinct_among : (has : Bool) (xs : List Variable) → distinct (variables_among has xs) ≡ true
distinct_among has xs = distinct_added (filter (is_whole false) xs) _ (distinct_added (filter (is_whole true) xs) _ (by has))
  where
    by : (b : Bool) → distinct (if b then (this, 0) ∷ [] else []) ≡ true
    by true = refl
    by false = refl

-- ---- the variable of a number

-- a variable of a level has the number
abbrev pub Has : ℕ → ℕ → ℕ → List Variable → Type 0
Has b level r us = (name : List ℕ) × (is_among us (name, level) ≡ true) × (number_from b (name, level) us ≡ r)

pub own_number : (b level r : ℕ) (us : List Variable) → distinct us ≡ true → contains (numbers_from b level us) r ≡ true → Has b level r us
own_number b level r [] d e = absurd (let x : false ≡ true = e in cc)
own_number b level r (w ∷ ws) d e =
    elim (one_more b r (numbers_from (b + 1) level ws) (w.1 == level) e) [
      | inl s ↦
          let same : w.1 ≡ level = eqb-true w.1 level s.0 in (
            w.0,
            subst (λ l. is_among (w ∷ ws) (w.0, l) ≡ true) same (left_true (same_variable w w) (is_among ws w) (same_itself w)),
            ap (λ l. number_from b (w.0, l) (w ∷ ws)) (sym same) ∙ ap (λ c. if c then b else number_from (b + 1) w ws) (same_itself w) ∙ s.1,
          )
      | inr s ↦
          let h = own_number (b + 1) level r ws (second_of (not (is_among ws w)) (distinct ws) d) s in
          let v : Variable = (h.0, level) in
          let other : same_variable v w ≡ false =
          false_from_ne_true (same_variable v w) (λ t. not_both (subst (λ (u : Variable). is_among ws u ≡ true) (one_variable v w t) h.1) (first_of (not (is_among ws w)) (distinct ws) d)) in
          (h.0, right_true (same_variable v w) (is_among ws v) h.1, ap (λ c. if c then b else number_from (b + 1) v ws) other ∙ h.2)
    ]

whole_number : (b r : ℕ) (ws gs : List Variable) → list_all (is_whole true) ws ≡ true → b ≤ r → r < b + length ws → contains (numbers_from b 0 (ws ++ gs)) r ≡ true
whole_number b r [] gs w low high = absurd (omega arith)
whole_number b r (v ∷ ws) gs w low high =
    let rest = numbers_from (b + 1) 0 (ws ++ gs) in
    ap (λ here. contains (if here then b ∷ rest else rest) r) (first_of (is_whole true v) _ w)
    ∙ elim (cases_eq b r) [
      | inl e ↦ left_true (b == r) (contains rest r) (eq-eqb b r e)
      | inr d ↦ right_true (b == r) (contains rest r) (whole_number (b + 1) r ws gs (second_of (is_whole true v) _ w) (omega arith) (omega arith))
    ]

-- each number of a visible variable is one's of the whole query
pub visible_number : (r : ℕ) (vs : List Variable) → Parted vs → distinct vs ≡ true → r < length (visible_names vs) → Has 0 0 r vs
visible_number r vs p d l =
    let count : length (visible_names vs) ≡ length p.wholes = ap (λ us. length (visible_names us)) p.is ∙ count_visible p.wholes p.inner p.all_whole p.all_inner in
    own_number 0 0 r vs d (ap (λ us. contains (numbers_from 0 0 us) r) p.is ∙ whole_number 0 r p.wholes p.inner p.all_whole (omega arith) (omega arith))

-- ---- where `$this` occurs, it has the first number

front_stays : (xs : List Variable) (b : Variable) (bs : List Variable) → (more : List Variable) × (fold add_new (b ∷ bs) xs ≡ b ∷ more)
front_stays [] b bs = (bs, refl)
front_stays (x ∷ xs) b bs = by (front_stays xs b) (is_among (b ∷ bs) x)
  where
    by : ((cs : List Variable) → (more : List Variable) × (fold add_new (b ∷ cs) xs ≡ b ∷ more)) → (c : Bool) → (more : List Variable) × (fold add_new (if c then b ∷ bs else (b ∷ bs) ++ x ∷ []) xs ≡ b ∷ more)
    by next true = next bs
    by next false = next (bs ++ x ∷ [])

pub this_is_first : (has : Bool) (xs : List Variable) → has ≡ true → number_from 0 (this, 0) (variables_among has xs) ≡ 0
this_is_first true xs e =
    let w = front_stays (filter (is_whole true) xs) (this, 0) [] in
    let g = front_stays (filter (is_whole false) xs) (this, 0) w.0 in
    ap (λ us. number_from 0 (this, 0) (fold add_new us (filter (is_whole false) xs))) w.1
    ∙ ap (number_from 0 (this, 0)) g.1
    ∙ ap (λ c. if c then 0 else number_from 1 (this, 0) g.0) (same_itself (this, 0))
this_is_first false xs e = absurd (cc)

-- ---- each variable is `$this` or one of those that occur

among_added : (xs base : List Variable) (u : Variable) → is_among (fold add_new base xs) u ≡ true → (is_among base u ≡ true) ⊎ (is_among xs u ≡ true)
among_added [] base u e = inl e
among_added (x ∷ xs) base u e =
    elim (among_added xs (add_new base x) u e) [
      | inl i ↦ by (is_among base x) i
      | inr i ↦ inr (right_true (same_variable u x) _ i)
    ]
  where
    by : (c : Bool) → is_among (if c then base else base ++ x ∷ []) u ≡ true → (is_among base u ≡ true) ⊎ (is_among (x ∷ xs) u ≡ true)
    by true i = inl i
    by false i =
        elim (split (is_among base u) _ (sym (list_any-append (same_variable u) base (x ∷ [])) ∙ i)) [
          | inl j ↦ inl j
          | inr j ↦ elim (split (same_variable u x) false j) [ inl s ↦ inr (left_true (same_variable u x) _ s) | inr f ↦ absurd (let y : false ≡ true = f in cc) ]
        ]

among_filtered : (test : Variable → Bool) (xs : List Variable) (u : Variable) → is_among (filter test xs) u ≡ true → is_among xs u ≡ true
among_filtered test [] u e = e
among_filtered test (x ∷ xs) u e = by (among_filtered test xs u) (test x) e
  where
    by : (is_among (filter test xs) u ≡ true → is_among xs u ≡ true) → (c : Bool) → is_among (if c then x ∷ filter test xs else filter test xs) u ≡ true → is_among (x ∷ xs) u ≡ true
    by next true i =
        elim (split (same_variable u x) _ i) [
          | inl s ↦ left_true (same_variable u x) _ s
          | inr j ↦ right_true (same_variable u x) _ (next j)
        ]
    by next false i = right_true (same_variable u x) _ (next i)

pub this_or_occurs : (has : Bool) (xs : List Variable) (u : Variable) → is_among (variables_among has xs) u ≡ true → ((has ≡ true) × (u ≡ (this, 0))) ⊎ (is_among xs u ≡ true)
this_or_occurs has xs u e =
    let base : List Variable = if has then (this, 0) ∷ [] else [] in
    elim (among_added (filter (is_whole false) xs) (fold add_new base (filter (is_whole true) xs)) u e) [
      | inl i ↦
          elim (among_added (filter (is_whole true) xs) base u i) [
            | inl j ↦ inl (by has j)
            | inr j ↦ inr (among_filtered (is_whole true) xs u j)
          ]
      | inr i ↦ inr (among_filtered (is_whole false) xs u i)
    ]
  where
    by : (b : Bool) → is_among (if b then (this, 0) ∷ [] else []) u ≡ true → (b ≡ true) × (u ≡ (this, 0))
    by true j = elim (split (same_variable u (this, 0)) false j) [ inl s ↦ (refl, one_variable u (this, 0) s) | inr f ↦ absurd (let y : false ≡ true = f in cc) ]
    by false j = absurd (let y : false ≡ true = j in cc)
