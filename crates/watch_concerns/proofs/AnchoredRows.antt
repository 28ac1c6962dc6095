-- An anchored query has rows of the same entities wherever each holds the same ids of those that concern it, whoever else lives.
use Rattle.std.proofs.Common.{◌≡◌, ℕ, Bool, true, cond, inl, inr, List, [], ◌∷◌, refl, sym, ap, ◌∙◌, subst}
use Rattle.std.specs.Prelude.{◌&&◌, ◌||◌, flat_map, not, Some, None}
use Rattle.std.specs.List.{Contains, list_any, list_all}
use Rattle.std.proofs.lemmas.Bool.{and_from, and_parts, cases_Bool, eqb-true, false≢true, or_cases}
use Rattle.std.proofs.lemmas.Cmp.{eq_by_cmp_equiv, nat_cmp_total}
use Rattle.std.proofs.lemmas.List.Folds.{list_any-append}
use Rattle.std.proofs.lemmas.Option.{same_Some}
use Rattle.ecs_id.specs.Id.{Id, plain}
use Rattle.query_meaning.proofs.OrderedAssignments.{any-ordered}
use Rattle.ecs_model.specs.BuiltIns.{transitive, reflexive}
use Rattle.ecs_model.specs.Links.{AreLinks}
use Rattle.ecs_model.specs.rows.Level.{Level, done, also, unless, top}
use Rattle.ecs_model.specs.rows.Rows.{Assignment, assignments, candidates, fields_of_item, passes_over, rows, rows_under, solutions, visible}
use Rattle.ecs_model.specs.rows.View.{View}
use Rattle.ecs_model.specs.stored.Watches.{is_this, matching}
use Rattle.ecs_model.proofs.Members.{any_passes, filtered, passing}
use Rattle.query_model.specs.Query.{Query}
use Rattle.query_meaning.specs.Variables.{contains}
use Rattle.query_meaning.proofs.Assignments.{Extends, Extends-from_assignments, assignments-from_Extends, at}
use Rattle.query_meaning.proofs.LevelHolding.{Holds, Holds-solutions}
use Rattle.query_meaning.proofs.Lists.{In, In-from_place, place_of}
use Rattle.watch_concerns.specs.Anchored.{anchors, groups_are_anchored, is_anchored}
use Rattle.watch_concerns.specs.Concerns.{concerns}
use Rattle.watch_concerns.specs.Laws.{MatchWhoeverElseLives}
use Rattle.query_meaning.proofs.Choices.{has-some, some}
use Rattle.watch_concerns.proofs.Ancestors.{agree_linked}
use Rattle.watch_concerns.proofs.CoveredTerms.{CoversLevel, asked_by_all, top_covered}
use Rattle.watch_concerns.proofs.LevelAgreement.{item_same}
use Rattle.watch_concerns.proofs.LivingVariables.{anchored_lives}
use Rattle.watch_concerns.proofs.MatchingRows.{is_first_of, passed_same, this_of_rows}
use Rattle.watch_concerns.proofs.ReachAgreement.{Agree, HoldAlike}

pub to_place : {X : Type 0} (xs : List X) (x : X) → Contains xs x → In x xs
to_place xs x h = In-from_place xs h.0 x h.1 h.2

pub all_at : (p : ℕ → Bool) (vs : List ℕ) (u : ℕ) → list_all p vs ≡ true → contains vs u ≡ true → p u ≡ true
all_at p [] u h c = absurd (false≢true c)
all_at p (x ∷ vs) u h c =
    let each = and_parts _ _ h in
    elim (or_cases _ _ c) [ inl here ↦ ap p (sym (eqb-true x u here)) ∙ each.0 | inr later ↦ all_at p vs u each.1 later ]

-- what an assignment gives to anchored variables lives, wherever the level holds
pub lives_too : {n : ℕ} (w v : View) → AreLinks n v.entities v.ids → (vs : List ℕ) (l : Level) → list_all (λ u. anchors u l) vs ≡ true
    → (a b : Assignment) → Extends vs w.entities a b → Holds v l b → Extends vs v.entities a b
lives_too w v links vs l anchored a b ext holds = record {
  in_order = ext.in_order;
  own = λ u t. let g = ext.own u t in (g.0, to_place v.entities g.0 (anchored_lives v links b u g.0 g.2 l (all_at (λ u. anchors u l) vs u anchored t) holds), g.2);
  rest = ext.rest;
}

-- ---- a level holds in both views or in neither

module _ (wide : Id → Bool) {m n : ℕ} (w v : View) (links : AreLinks m w.entities w.ids) (links' : AreLinks n v.entities v.ids) (agree : Agree wide w v) where
  level_alike : (l : Level) → CoversLevel wide l → groups_are_anchored l ≡ true → (a : Assignment) → (Holds w l a → Holds v l a) × (Holds v l a → Holds w l a)
  level_alike done h anchored a = (λ x. tt, λ x. tt)
  level_alike (also x rest) h anchored a =
      let same = has-some (fields_of_item w a x) ∙ item_same wide w v agree a x h.0 ∙ sym (has-some (fields_of_item v a x)) in
      let others = level_alike rest h.1 anchored a in
      (λ y. (sym same ∙ y.0, others.0 y.1), λ y. (same ∙ y.0, others.1 y.1))
  level_alike (unless from_term own inner rest) h anchored a =
      let parts = and_parts _ _ anchored in
      let both = and_parts _ _ parts.0 in
      let within = level_alike inner h.0 both.1 in
      let others = level_alike rest h.1 parts.1 a in (
        λ y. (λ b ext holds. let here = (within b).1 holds in y.0 b (lives_too v w links own inner both.0 a b ext here) here, others.0 y.1),
        λ y. (λ b ext holds. let there = (within b).0 holds in y.0 b (lives_too w v links' own inner both.0 a b ext there) there, others.1 y.1),
      )

-- ---- the entities of rows

any_under : (w : View) (q : Query) (e : ℕ) (given : List Assignment) → list_any (is_this e) (flat_map (rows_under w q) given) ≡ list_any (λ a. is_first_of e a && some (solutions w (top q) a)) given
any_under w q e [] = refl
any_under w q e (a ∷ given) =
    let first = this_of_rows e a (solutions w (top q) a) in
    let rest = any_under w q e given in
    list_any-append (is_this e) (rows_under w q a) (flat_map (rows_under w q) given) ∙ (λ k. first k || rest k)

pub any_row : (w : View) (q : Query) (e : ℕ) → list_any (is_this e) (rows w q) ≡ list_any (λ a. is_first_of e a && some (solutions w (top q) a)) (candidates w q)
unfolding rows
any_row w q e = any-ordered w q (rows_under w q) (is_this e) (candidates w q) ∙ any_under w q e (candidates w q)

-- whoever an assignment has first, it has at some variable
pub first_bound : (e : ℕ) (a : Assignment) → is_first_of e a ≡ true → (u : ℕ) × (at a u ≡ Some e)
first_bound e [] h = absurd (false≢true h)
first_bound e ((u, x) ∷ a) h =
    elim (or_cases _ _ h) [
      | inl same ↦ (u, ap (λ b. cond b (Some x) (at a u)) ((eq_by_cmp_equiv nat_cmp_total).refl u) ∙ ap Some (eqb-true x e same))
      | inr none ↦ absurd (false≢true none)
    ]

pub first_lives : (es : List ℕ) (vs : List ℕ) (e : ℕ) (a : Assignment) → Extends vs es [] a → is_first_of e a ≡ true → In e es
first_lives es vs e a ext first =
    let u = first_bound e a first in
    elim (cases_Bool (contains vs u.0)) [
      | inl own ↦ let g = ext.own u.0 own in subst (λ x. In x es) (same_Some g.0 e (sym g.2 ∙ u.1)) g.1
      | inr other ↦ absurd (none e (sym (ext.rest u.0 other) ∙ u.1))
    ]
  where
    none : (e : ℕ) → None ≡ Some e → ⊥
    none e p = absurd cc

module _ {m n : ℕ} (w v : View) (q : Query) (links : AreLinks m w.entities w.ids) (links' : AreLinks n v.entities v.ids) (anchored : is_anchored q ≡ true) (held : HoldAlike (concerns q) w v) where
  carried_over : (e : ℕ) → Contains (matching w q) e → Contains (matching v q) e
  unfolding is_anchored matching
  carried_over e h =
      let both = and_parts _ _ anchored in
      let f = (filtered (λ e. list_any (is_this e) (rows w q)) w.entities e).0 h in
      let found = passing (λ a. is_first_of e a && some (solutions w (top q) a)) (candidates w q) (sym (any_row w q e) ∙ f.1) in
      let a : Assignment = found.0 in
      let tests = and_parts (is_first_of e a) (some (solutions w (top q) a)) found.2 in
      let c = (filtered (λ a. not (passes_over w q a)) (assignments (visible q) w.entities []) a).0 found.1 in
      let ext = Extends-from_assignments (visible q) w.entities [] a refl (to_place _ a c.0) in
      let agree = agree_linked (concerns q) w v links links' held (asked_by_all q (plain transitive) refl) (asked_by_all q (plain reflexive) refl) in
      let here = (Holds-solutions w (top q) a ext.in_order).0 (has-some (solutions w (top q) a) ∙ tests.1) in
      let there = (level_alike (concerns q) w v links links' agree (top q) (top_covered q) both.1 a).0 here in
      let ext' = lives_too w v links' (visible q) (top q) both.0 [] a ext there in
      let asked : Contains (candidates v q) a = (filtered (λ a. not (passes_over v q a)) (assignments (visible q) v.entities []) a).1
      (place_of _ a (assignments-from_Extends (visible q) v.entities [] a refl ext'), sym (ap not (passed_same w v q held a)) ∙ c.1) in
      let solved = sym (has-some (solutions v (top q) a)) ∙ (Holds-solutions v (top q) a ext'.in_order).1 there in
      (filtered (λ e. list_any (is_this e) (rows v q)) v.entities e).1 (
        place_of v.entities e (first_lives v.entities (visible q) e a ext' tests.0),
        any_row v q e ∙ any_passes (λ a. is_first_of e a && some (solutions v (top q) a)) (candidates v q) a asked (and_from _ _ tests.0 solved),
      )

pub match_whoever_else_lives : MatchWhoeverElseLives
match_whoever_else_lives m n w v q links links' anchored held e =
    (carried_over w v q links links' anchored held e, carried_over v w q links' links anchored (λ x. sym (held x)) e)
