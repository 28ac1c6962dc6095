-- The assignment under which a row has an entity first gives it to the first variable; and what a term gives that asks it itself.
use Rattle.std.proofs.Common.{◌≡◌, ℕ, zero, suc, ◌<◌, ◌⊎◌, true, false, cond, inl, inr, List, [], ◌∷◌, ◌++◌, length, Less, refl, sym, ap, ◌∙◌, arith}
use Rattle.std.specs.Prelude.{◌==◌, ◌&&◌, map, not, Some, None, is_some, if◌then◌else◌}
use Rattle.std.specs.Cmp.{nat_cmp_is}
use Rattle.std.specs.FinMap.Entries.{by_order}
use Rattle.std.specs.List.{Contains, list_any, range_with_len}
use Rattle.std.specs.Option.{option_map_or}
use Rattle.std.specs.Ordering.{nat_cmp}
use Rattle.std.proofs.lemmas.Cmp.{eq_by_cmp_equiv, nat_cmp_total}
use Rattle.std.proofs.lemmas.Bool.{and_from, and_parts, cases_Bool, cases_eq, eqb-true, false≢true, not-true, or_cases, true≢false}
use Rattle.ecs_model.specs.Links.{ancestor_line}
use Rattle.ecs_model.specs.Map.{IsMap, with_value}
use Rattle.ecs_model.specs.rows.Level.{Level, done, also, unless, top}
use Rattle.ecs_model.specs.rows.Rows.{Assignment, asked, assignments, candidates, closed_fields, fields_of_term, first_nonempty, hits, meant, passes_over, rows, solutions, visible}
use Rattle.ecs_model.specs.rows.View.{View}
use Rattle.ecs_model.specs.stored.Watches.{is_this, matching}
use Rattle.ecs_model.proofs.Members.{filtered, passing}
use Rattle.query_model.specs.declared.query.Term.{Term}
use Rattle.query_model.specs.Local.{asks_first}
use Rattle.query_model.specs.Query.{Query}
use Rattle.query_meaning.specs.Sound.{is_sound_level, occurs_directly}
use Rattle.query_meaning.specs.Variables.{contains}
use Rattle.query_meaning.proofs.Assignments.{Extends, Extends-from_assignments, IsMap-with, at, at-with_other, at-with_same, same_assignment}
use Rattle.query_meaning.proofs.LevelHolding.{Holds, Holds-solutions, contains-left}
use Rattle.watch_concerns.specs.Others.{asks_this_stored}
use Rattle.query_meaning.proofs.Choices.{has-some, none_of, some, source_first}
use Rattle.watch_concerns.proofs.LevelAgreement.{at_each}
use Rattle.watch_concerns.proofs.MatchingRows.{is_first_of}
use Rattle.watch_concerns.proofs.AnchoredRows.{all_at, any_row, first_bound, to_place}

-- ---- the first variable

pub head_at : (u y : ℕ) (rest : Assignment) → at ((u, y) ∷ rest) u ≡ Some y
head_at u y rest = ap (λ b. cond b (Some y) (at rest u)) ((eq_by_cmp_equiv nat_cmp_total).refl u)

-- whoever is first in an assignment is the first variable's, where it has one
first_given : (e : ℕ) (a : Assignment) (x : ℕ) → IsMap nat_cmp a → at a 0 ≡ Some x → is_first_of e a ≡ true → at a 0 ≡ Some e
first_given e [] x in_order given first = absurd (false≢true first)
first_given e ((u, y) ∷ rest) x in_order given first = elim (cases_eq u 0) [
  | inl same ↦ ap (at ((u, y) ∷ rest)) (sym same) ∙ head_at u y rest ∙ ap Some (head_is (or_cases _ _ first))
  | inr apart ↦
      let a : Assignment = (u, y) ∷ rest in
      let kept : with_value nat_cmp a 0 x ≡ a = same_assignment (with_value nat_cmp a 0 x) a (IsMap-with a 0 x in_order) in_order (λ k. elim (cases_eq k 0) [
        | inl z ↦ ap (at (with_value nat_cmp a 0 x)) z ∙ at-with_same a 0 x ∙ sym given ∙ ap (at a) (sym z)
        | inr d ↦ at-with_other a 0 x k d
      ]) in
      let below : 0 < u = omega (arith, apart) in
      let front : with_value nat_cmp a 0 x ≡ (0, x) ∷ a = ap (λ o. by_order o ((0, x) ∷ a) ((u, x) ∷ rest) ((u, y) ∷ with_value nat_cmp rest 0 x)) (sym (nat_cmp_is 0 u Less below)) in
      absurd (omega (arith, ap length (sym kept ∙ front)))
]
  where
    head_is : ((y == e) ≡ true) ⊎ (false ≡ true) → y ≡ e
    head_is (inl same) = eqb-true y e same
    head_is (inr none) = absurd (false≢true none)

has_zero : (n u : ℕ) → contains (range_with_len 0 n) u ≡ true → contains (range_with_len 0 n) 0 ≡ true
has_zero zero u h = absurd (false≢true h)
has_zero (suc n) u h = refl

-- an assignment of the visible variables under which a row has the entity first
pub record IsThis (w : View) (q : Query) (e : ℕ) (a : Assignment) : Type 0 where
  pub extends : Extends (visible q) w.entities [] a
  pub shown : contains (visible q) 0 ≡ true
  pub this : at a 0 ≡ Some e
  pub passed : not (passes_over w q a) ≡ true
  pub first : is_first_of e a ≡ true
  pub holds : Holds w (top q) a

is_seen : (w : View) (q : Query) (e : ℕ) (a : Assignment) → Extends (visible q) w.entities [] a → is_first_of e a ≡ true → contains (visible q) 0 ≡ true
is_seen w q e a ext first =
    let u = first_bound e a first in
    elim (cases_Bool (contains (visible q) u.0)) [
      | inl own ↦ has_zero (length q.variables) u.0 own
      | inr other ↦ absurd (false≢true (ap is_some (sym (ext.rest u.0 other) ∙ u.1)))
    ]

-- who is `$this` of some row is so under such an assignment
pub this_of : (w : View) (q : Query) (e : ℕ) → Contains (matching w q) e → (a : Assignment) × IsThis w q e a
unfolding matching
this_of w q e h =
    let f = (filtered (λ e. list_any (is_this e) (rows w q)) w.entities e).0 h in
    let found = passing (λ a. is_first_of e a && some (solutions w (top q) a)) (candidates w q) (sym (any_row w q e) ∙ f.1) in
    let a : Assignment = found.0 in
    let tests = and_parts (is_first_of e a) (some (solutions w (top q) a)) found.2 in
    let c = (filtered (λ a. not (passes_over w q a)) (assignments (visible q) w.entities []) a).0 found.1 in
    let ext = Extends-from_assignments (visible q) w.entities [] a refl (to_place _ a c.0) in
    let seen = is_seen w q e a ext tests.0 in
    let given = ext.own 0 seen in (
      a,
      record {
        extends = ext;
        shown = seen;
        this = first_given e a given.0 ext.in_order given.2 tests.0;
        passed = c.1;
        first = tests.0;
        holds = (Holds-solutions w (top q) a ext.in_order).0 (has-some (solutions w (top q) a) ∙ tests.1);
      },
    )

-- ---- no group takes the first variable for its own

abbrev pub KeepsThis : Level → Type 0
KeepsThis done = Unit {0}
KeepsThis (also x rest) = KeepsThis rest
KeepsThis (unless from_term own inner rest) = (contains own 0 ≡ false) × KeepsThis inner × KeepsThis rest

pub sound_keeps_this : (scope : List ℕ) (l : Level) → contains scope 0 ≡ true → is_sound_level scope l ≡ true → KeepsThis l
sound_keeps_this scope done there h = tt
sound_keeps_this scope (also x rest) there h = sound_keeps_this scope rest there (and_parts _ _ h).1
sound_keeps_this scope (unless from_term own inner rest) there h =
    let outer = and_parts _ _ h in
    let both = and_parts _ _ outer.0 in (
      elim (cases_Bool (contains own 0)) [
        | inl taken ↦ absurd (true≢false (sym (and_parts _ _ (all_at (λ v. not (contains scope v) && occurs_directly inner v) own 0 both.0 taken)).0 ∙ ap not there))
        | inr free ↦ free
      ],
      sound_keeps_this (scope ++ own) inner (contains-left scope own 0 there) both.1,
      sound_keeps_this scope rest there outer.1,
    )

-- ---- a term that asks the first variable itself

-- what a term gives that asks the first variable
pub asked_of_this : (w : View) (a : Assignment) (e : ℕ) (t : Term) → at a 0 ≡ Some e → asks_this_stored t ≡ true → fields_of_term w a t ≡ first_nonempty (map (λ m. at_each m (hits w a t m)) (asked w t e))
unfolding fields_of_term
asked_of_this w a e t this asks =
    let both = and_parts _ _ asks in
    let closed = not-true t.closed both.1 in
    let source = ap (meant a) (source_first t.source both.0) ∙ this in
    λ i. option_map_or (λ s.
    if closed i then closed_fields w (meant a t.component) s (option_map_or (meant a) t.target None)
    else first_nonempty (map (λ m. at_each m (hits w a t m)) (asked w t s))) (source i) []

-- where it asks that alone
pub asked_itself : (w : View) (a : Assignment) (e : ℕ) (t : Term) → at a 0 ≡ Some e → asks_first t ≡ true → fields_of_term w a t ≡ first_nonempty (map (λ m. at_each m (hits w a t m)) (e ∷ []))
asked_itself w a e t this asks =
    let source = and_parts _ _ asks in
    let stored = and_parts _ _ source.1 in
    let itself = and_parts _ _ stored.0 in
    let up = none_of t.up itself.1 in
    asked_of_this w a e t this (and_from _ _ source.0 stored.1)
    ∙ (λ i. first_nonempty (map (λ m. at_each m (hits w a t m)) ((if itself.0 i then e ∷ [] else []) ++ option_map_or (λ r. ancestor_line w.ids w.entities r e) (up i) [])))
