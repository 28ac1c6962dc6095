-- Where facts are of the living alone and mention them alone, an anchored variable stands for an entity that lives.
use Rattle.std.proofs.Common.{◌≡◌, ℕ, ◌==◌, Bool, true, false, inl, inr, List, [], ◌∷◌, length, refl, sym, ap, ◌∙◌, subst, arith}
use Rattle.std.specs.Prelude.{◌||◌, not, filter, map, Option, Some, None, if◌then◌else◌}
use Rattle.std.specs.List.{Contains}
use Rattle.std.specs.Option.{option_eq, option_map_or}
use Rattle.std.proofs.lemmas.Bool.{and_parts, eqb-true, false≢true, not-true, or_cases}
use Rattle.std.proofs.lemmas.List.Elements.{All-contains, Contains-append_cases}
use Rattle.std.proofs.lemmas.Option.{same_Some}
use Rattle.ecs_id.specs.Id.{Id, plain, pair, mentioned}
use Rattle.ecs_model.specs.Links.{AreLinks, ancestor_line, target_under, upward}
use Rattle.ecs_model.specs.rows.Level.{Level, done, also, unless}
use Rattle.ecs_model.specs.rows.Rows.{Assignment, asked, closed_fields, fields_at, fields_of_term, first_nonempty, fits, hits, keeps_first_hit, matches, meant, shown}
use Rattle.ecs_model.specs.rows.View.{View}
use Rattle.ecs_model.proofs.Members.{filtered, from_filter_map, head_or_tail, passing}
use Rattle.query_model.specs.declared.query.Ref.{Ref}
use Rattle.query_model.specs.declared.query.Ref.TheVariants.{Is, Var, Any, AnyOnce}
use Rattle.query_model.specs.declared.query.Term.{Term}
use Rattle.query_meaning.proofs.Assignments.{at}
use Rattle.query_meaning.proofs.LevelHolding.{Holds}
use Rattle.watch_concerns.specs.Anchored.{anchors, is_variable, item_anchors, may_be_variable, term_anchors}
use Rattle.query_meaning.proofs.Choices.{any-map, some, some-first, some-map, some-taken}
use Rattle.watch_concerns.proofs.Ancestors.{line_chain}
use Rattle.watch_concerns.proofs.CoveredTerms.{OfEach}
use Rattle.watch_concerns.proofs.LevelAgreement.{at_each, directly_given, must_given}

pub first_there : {X : Type 0} (xs : List X) → some xs ≡ true → (x : X) × Contains xs x
first_there [] h = absurd (false≢true h)
first_there (x ∷ xs) h = (x, (0, omega arith, refl))

-- ---- what a reference that is a variable stands for

means : (a : Assignment) (v e : ℕ) (r : Ref) → is_variable v r ≡ true → at a v ≡ Some e → meant a r ≡ Some e
means a v e (Is d) h is = absurd (false≢true h)
means a v e (Var u) h is = ap (at a) (eqb-true u v h) ∙ is
means a v e Any h is = absurd (false≢true h)
means a v e AnyOnce h is = absurd (false≢true h)

pub fits_only : (a : Assignment) (v e d : ℕ) (r : Ref) → is_variable v r ≡ true → at a v ≡ Some e → fits a d r ≡ true → e ≡ d
fits_only a v e d (Is c) h is f = absurd (false≢true h)
fits_only a v e d (Var u) h is f = eqb-true e d (sym (ap (λ o. option_eq ◌==◌ o (Some d)) (ap (at a) (eqb-true u v h) ∙ is)) ∙ f)
fits_only a v e d Any h is f = absurd (false≢true h)
fits_only a v e d AnyOnce h is f = absurd (false≢true h)

-- what a pattern's variable stands for is mentioned by each id that the pattern matches
first_mentioned : (a : Assignment) (v e : ℕ) (first : Ref) (target : Option Ref) (i : Id) → is_variable v first ≡ true → at a v ≡ Some e → matches a first target i ≡ true → Contains (mentioned i) e
first_mentioned a v e first None (plain c) h is m = (0, omega arith, sym (fits_only a v e c first h is m))
first_mentioned a v e first None (pair r t) h is m = absurd (false≢true m)
first_mentioned a v e first (Some target) (plain c) h is m = absurd (false≢true m)
first_mentioned a v e first (Some target) (pair r t) h is m = (0, omega arith, sym (fits_only a v e r first h is (and_parts _ _ m).0))

target_mentioned : (a : Assignment) (v e : ℕ) (first : Ref) (target : Option Ref) (i : Id) → may_be_variable v target ≡ true → at a v ≡ Some e → matches a first target i ≡ true → Contains (mentioned i) e
target_mentioned a v e first None i h is m = absurd (false≢true h)
target_mentioned a v e first (Some target) (plain c) h is m = absurd (false≢true m)
target_mentioned a v e first (Some target) (pair r t) h is m = (1, omega arith, sym (fits_only a v e t target h is (and_parts _ _ m).1))

module _ {n : ℕ} (w : View) (links : AreLinks n w.entities w.ids) where
  module _ (a : Assignment) (v e : ℕ) (is : at a v ≡ Some e) where
    -- ---- a term that isn't closed

    module _ (t : Term) (stored : t.closed ≡ false) where
      hit : (m : ℕ) → some (hits w a t m) ≡ true → (i : Id) × Contains (w.ids m) i × (matches a t.component t.target i ≡ true)
      unfolding hits
      hit m h =
          let all = filter (matches a t.component t.target) (w.ids m) in
          let found = first_there all (sym (some-taken (keeps_first_hit t) all) ∙ h) in
          let f = (filtered (matches a t.component t.target) (w.ids m) found.0).0 found.1 in
          (found.0, f.0, f.1)

      -- who is asked holds an id, or leads to an ancestor that does
      asked_lives : (s m : ℕ) (i : Id) → Contains (asked w t s) m → Contains (w.ids m) i → Contains w.entities s
      asked_lives s m i h held =
          elim (Contains-append_cases (if t.on_source then s ∷ [] else []) (option_map_or (λ r. ancestor_line w.ids w.entities r s) t.up []) m h) [
            | inl own ↦ itself t.on_source own
            | inr risen ↦ ancestor t.up risen
          ]
        where
          itself : (b : Bool) → Contains (if b then s ∷ [] else []) m → Contains w.entities s
          itself true c = elim (head_or_tail s m [] c) [ inl q ↦ rw q (links.held m i held) | inr none ↦ absurd (omega (arith, none.1)) ]
          itself false c = absurd (omega (arith, c.1))

          ancestor : (o : Option ℕ) → Contains (option_map_or (λ r. ancestor_line w.ids w.entities r s) o []) m → Contains w.entities s
          ancestor None c = absurd (omega (arith, c.1))
          ancestor (Some r) c =
              let chain = line_chain (upward w.ids r) (length w.entities) s m c in
              let step = from_filter_map (target_under r) (w.ids s) chain.0 chain.1 in
              links.held s step.0 step.1

      found_lives : (s : ℕ) → meant a t.source ≡ Some s → (is_variable v t.source || is_variable v t.component || may_be_variable v t.target) ≡ true → some (fields_at w a t s) ≡ true → Contains w.entities e
      found_lives s source anchored h =
          let found = passing (λ m. some (at_each m (hits w a t m))) (asked w t s)
          (sym (some-first (map (λ m. at_each m (hits w a t m)) (asked w t s)) ∙ any-map (λ m. at_each m (hits w a t m)) (asked w t s))
          ∙ sym (ap (λ b. some (if b then closed_fields w (meant a t.component) s (option_map_or (meant a) t.target None) else first_nonempty (map (λ m. at_each m (hits w a t m)) (asked w t s)))) stored)
          ∙ h) in
          let m = found.0 in
          let i = hit m (sym (some-map (λ i. (m, i)) (hits w a t m)) ∙ found.2) in
          elim (or_cases _ _ anchored) [
            | inl before ↦ elim (or_cases _ _ before) [
              | inl own ↦
                  let same : s ≡ e = same_Some s e (sym source ∙ means a v e t.source own is) in
                  subst (Contains w.entities) same (asked_lives s m i.0 found.1 i.1)
              | inr first ↦ All-contains (Contains w.entities) (mentioned i.0) e (links.live m i.0 i.1) (first_mentioned a v e t.component t.target i.0 first is i.2)
            ]
            | inr target ↦ All-contains (Contains w.entities) (mentioned i.0) e (links.live m i.0 i.1) (target_mentioned a v e t.component t.target i.0 target is i.2)
          ]

    term_lives : (t : Term) → term_anchors v t ≡ true → some (fields_of_term w a t) ≡ true → Contains w.entities e
    unfolding fields_of_term
    term_lives t h f = by (meant a t.source) refl f
      where
        parts : (not t.closed ≡ true) × ((is_variable v t.source || is_variable v t.component || may_be_variable v t.target) ≡ true)
        parts = and_parts _ _ h

        by : (o : Option ℕ) → meant a t.source ≡ o → some (option_map_or (fields_at w a t) o []) ≡ true → Contains w.entities e
        by None source g = absurd (false≢true g)
        by (Some s) source g = found_lives t (not-true t.closed parts.0) s source parts.1 g

    -- ---- a level

    each_any : (l : Level) → OfEach (λ x. Unit {0}) l
    each_any done = tt
    each_any (also x rest) = (tt, each_any rest)
    each_any (unless from_term own inner rest) = (each_any inner, each_any rest)

    pub anchored_lives : (l : Level) → anchors v l ≡ true → Holds w l a → Contains w.entities e
    anchored_lives l h holds =
        let x = directly_given w a (λ x. Unit {0}) (item_anchors v) l (each_any l) h holds in
        let t = must_given w a (term_anchors v) x.0 x.2 x.3 in
        term_lives t.0 t.2 (sym (some-map (λ f. shown w t.0 f ∷ []) (fields_of_term w a t.0)) ∙ t.3)
