-- An added set makes a cycle exactly where one of its pairs closes one.
use Rattle.std.specs.List.{Contains, list_all}
use Rattle.std.specs.Prelude.{◌≡◌, ◌⊎◌, ◌↔◌, ℕ, ◌==◌, IsTrue, Bool, true, false, List, [], ◌∷◌, ◌++◌, map, Option, Some, None, is_some, cond}
use Rattle.std.proofs.Common.{refl, sym, ap, subst, ◌∙◌, inl, inr, true≢false}
use Rattle.std.proofs.lemmas.List.Elements.{Contains-append_cases, Contains-append_left, Contains-push}
use Rattle.ecs_id.specs.Id.{Id, plain, pair, mentioned, first_of}
use Rattle.ecs_id.specs.declared.EntityId.{EntityId}
use Rattle.ecs_model.specs.Added.{brought, IsAdded, mirror, with_first}
use Rattle.ecs_model.specs.BuiltIns.{acyclic, with_trait}
use Rattle.ecs_model.specs.steps.Outcomes.{is_dead, with_facts}
use Rattle.ecs_model.specs.Cycles.{HasCycle, after_step}
use Rattle.ecs_model.specs.Links.{is_held, upward}
use Rattle.ecs_model.specs.Map.{has_key}
use Rattle.ecs_model.specs.Reach.{Reached, itself, onward}
use Rattle.ecs_model.specs.World.{WorldState, Key, key_cmp, is_live, holds, ids_of}
use Rattle.ecs_model.specs.steps.FactChanges.{IsCopied, added, facts_after_add, facts_with_added, new_base}
use Rattle.ecs_model.specs.steps.Step.{adds_built_in, changes_trait, has_cycle}
use Rattle.ecs_model.specs.steps.WellFormed.{IsWellFormed}
use Rattle.ecs_model.specs.steps.StepLaws.{AddedPairsClose, ClosesAt}
use Rattle.ecs_model.proofs.ClosedChains.{steps_close_chains}
use Rattle.ecs_model.proofs.Maps.{key_cmp_same, key_cmp_total}
use Rattle.ecs_model.proofs.Members.{alike, eq_itself, eq_same}
use Rattle.ecs_model.proofs.steps.AcceptedFacts.{base_is_addition, may_come}
use Rattle.ecs_model.proofs.steps.AddedSets.{HasForm, added_are_members, added_form, by_with, from_mirror, in_map}
use Rattle.ecs_model.proofs.steps.CopiedIds.{Comes, CopiedFrom, of_base, value-with_base, with_base}
use Rattle.ecs_model.proofs.steps.CycleTests.{HasForbiddenCycle, has_cycle_tells}
use Rattle.ecs_model.proofs.steps.Facts.{holds_leads, is_held-holds, leads_holds, key_there, there_key}
use Rattle.ecs_model.proofs.steps.FewerPairs.{chain_of_more}
use Rattle.ecs_model.proofs.steps.LivingIds.{refuted}
use Rattle.ecs_model.proofs.steps.Additions.{IsAddition, MayCome, came_or_stayed, came_or_was, facts_live_after, gone_by, no_pair, plain_stays, same_parts, stays, trait_before}
use Rattle.ecs_model.proofs.steps.ReplacedFacts.{is_replaced}

-- a pair whose mirror was added was added itself
pub both_ways : (w : WorldState) (h : IsWellFormed w) (e b t : ℕ) → list_all (is_live w) (mentioned (pair b t)) ≡ true → (t == e) ≡ false → {z : Key} → IsAdded (ids_of w) (e, pair b t) z
    → (r : ℕ) → z ≡ (t, pair r e) → IsAdded (ids_of w) (e, pair b t) (e, pair r t)
both_ways w h e b t m apart itself r q = absurd (true≢false (sym (eq_itself e) ∙ (ap (λ x. x == e) (same_parts e t b r t e q).0 ∙ apart)))
both_ways w h e b t m apart (onward {y = y} {z = z} n c) r q =
    let form = added_form w h e (pair b t) m n in
    elim (Contains-append_cases (map (λ d. (y.0, with_first d y.1)) (upward (ids_of w) with_trait (first_of y.1))) (mirror (ids_of w) y) z c) [
      | inl g ↦ let d = by_with w y z g in with_it form.0 form.2 d.0 d.1 (d.2 ∙ q) (λ s. both_ways w h e b t m apart n form.0 s)
      | inr g ↦ mirrored form.0 form.2 (subst (Contains (mirror (ids_of w) y)) q g)
    ]
  where
    differ : e ≡ t → ⊥
    differ s = true≢false (sym (eq_itself e) ∙ (ap (λ x. x == e) s ∙ apart))

    with_it : (c : ℕ) → HasForm e (pair b t) c y → (d : ℕ) → holds w (first_of y.1) (pair with_trait d) ≡ true → ◌≡◌ {A = Key} (y.0, with_first d y.1) (t, pair r e)
        → (y ≡ (t, pair c e) → IsAdded (ids_of w) (e, pair b t) (e, pair c t)) → IsAdded (ids_of w) (e, pair b t) (e, pair r t)
    with_it c (inl s) d leads p rest = absurd (differ (same_parts e t d r t e (sym (ap (λ (k : Key). (k.0, with_first d k.1)) s) ∙ p)).0)
    with_it c (inr s) d leads p rest =
        let same = same_parts t t d r e e (sym (ap (λ (k : Key). (k.0, with_first d k.1)) s) ∙ p) in
        let led : holds w c (pair with_trait r) ≡ true = sym (ap (λ (k : Key). holds w (first_of k.1) (pair with_trait d)) s ∙ ap (λ x. holds w c (pair with_trait x)) same.1) ∙ leads in
        onward (rest s)
        (Contains-append_left (map (λ d. (e, with_first d (pair c t))) (upward (ids_of w) with_trait c)) (mirror (ids_of w) (e, pair c t)) (e, pair r t)
        (in_map (λ d. (e, with_first d (pair c t))) (upward (ids_of w) with_trait c) r (holds_leads w with_trait c r led)))

    mirrored : (c : ℕ) → HasForm e (pair b t) c y → Contains (mirror (ids_of w) y) (t, pair r e) → IsAdded (ids_of w) (e, pair b t) (e, pair r t)
    mirrored c (inl s) g =
        let back = from_mirror w e c t (t, pair r e) (subst (λ k. Contains (mirror (ids_of w) k) (t, pair r e)) s g) in
        let same = same_parts t t c r e e back.1 in
        subst (IsAdded (ids_of w) (e, pair b t)) (s ∙ (λ j. (e, pair (same.1 j) t))) n
    mirrored c (inr s) g =
        let back = from_mirror w t c e (t, pair r e) (subst (λ k. Contains (mirror (ids_of w) k) (t, pair r e)) s g) in
        absurd (differ (same_parts e t c r t e back.1).0)

module _ (w : WorldState) (e : ℕ) (i : Id) (h : IsWellFormed w) (may : MayCome w e i) where
  abbrev left : WorldState
  left = with_facts w (facts_with_added w e i)

  abbrev IsNew : Key → Type 0
  IsNew k = IsAdded (ids_of w) (e, i) k

  a : IsAddition w e i None (facts_with_added w e i)
  a = base_is_addition w e i None h may.mentions

  no_base : (q : Key) → CopiedFrom w e i None q → ⊥
  no_base q c = cc

  -- a step afterwards came, or was there
  step_was : (r x y : ℕ) → Contains (upward (ids_of left) r x) y → IsNew (x, pair r y) ⊎ Contains (upward (ids_of w) r x) y
  step_was r x y c =
      elim (came_or_stayed w e i None (facts_with_added w e i) h a may (x, pair r y) (leads_holds left r x y c)) [ inl (inl n) ↦ inl n | inl (inr c) ↦ absurd (no_base (x, pair r y) c) | inr s ↦ inr (holds_leads w r x y s.1) ]

  new_step : (r x y : ℕ) → IsNew (x, pair r y) → Contains (upward (ids_of left) r x) y
  new_step r x y n = holds_leads left r x y (a.there (x, pair r y) (inl n))

  -- an acyclic relationship with a cycle was Acyclic before
  was_acyclic : (r : ℕ) → holds left r (plain acyclic) ≡ true → HasCycle (upward (ids_of left) r) → holds w r (plain acyclic) ≡ true
  was_acyclic r is c = trait_before w e i None (facts_with_added w e i) h a may c.0 r (c.1).0 acyclic refl
      (came_or_was w e i None (facts_with_added w e i) h a may (c.0, pair r (c.1).0) (leads_holds left r c.0 (c.1).0 (c.1).1)) is

  none_before : (r : ℕ) → holds w r (plain acyclic) ≡ true → ¬ (HasCycle (upward (ids_of w) r))
  none_before r is c = (h.traits).no_cycle r is c.0 c.1

  held_acyclic : (r : ℕ) → holds w r (plain acyclic) ≡ true → is_held (ids_of w r) (plain acyclic) ≡ true
  held_acyclic r is = is_held-holds w r (plain acyclic) ∙ is

  -- where no pair of the relationship comes, none closes
  none_new : (r : ℕ) → holds w r (plain acyclic) ≡ true → HasCycle (upward (ids_of left) r) → ((x y : ℕ) → IsNew (x, pair r y) → ⊥) → ⊥
  none_new r is c none =
      none_before r is
      (c.0, chain_of_more (upward (ids_of left) r) (upward (ids_of w) r) (λ x y s. elim (step_was r x y s) [ inl n ↦ absurd (none x y n) | inr o ↦ o ]) c.0 c.0 c.1)

  abbrev Closed : Type 0
  Closed = (k : Key) × IsNew k × ClosesAt (ids_of w) e k

  is_new : (k : Key) → has_key key_cmp (added w e i) k ≡ true → IsNew k
  is_new k t = (added_are_members w e i h may.mentions k).0 t

  not_new : (k : Key) → has_key key_cmp (added w e i) k ≡ false → IsNew k → ⊥
  not_new k f n = true≢false (sym ((added_are_members w e i h may.mentions k).1 n) ∙ f)

module _ (w : WorldState) (e b t : ℕ) (h : IsWellFormed w) (may : MayCome w e (pair b t)) where
  abbrev New : Key → Type 0
  New k = IsAdded (ids_of w) (e, pair b t) k

  abbrev then : WorldState
  then = with_facts w (facts_with_added w e (pair b t))

  form : (r x y : ℕ) → New (x, pair r y) → ((x ≡ e) × (y ≡ t)) ⊎ ((x ≡ t) × (y ≡ e))
  form r x y n =
      let f = added_form w h e (pair b t) may.mentions n in
      elim f.2 [ inl q ↦ let s = same_parts x e r f.0 y t q in inl (s.0, s.2) | inr q ↦ let s = same_parts x t r f.0 y e q in inr (s.0, s.2) ]

  -- where the pair alone comes, it closes what led back
  led_back : (r : ℕ) → holds w r (plain acyclic) ≡ true → HasCycle (upward (ids_of then) r) → ((x y : ℕ) → New (x, pair r y) → (x ≡ e) × (y ≡ t)) → Reached (upward (ids_of w) r) t e
  led_back r is c one =
      (steps_close_chains (upward (ids_of w) r) (none_before w e (pair b t) h may r is) false e t).0
      (c.0, chain_of_more (upward (ids_of then) r) (after_step (upward (ids_of w) r) false e t) steps c.0 c.0 c.1)
    where
      new_at : (x y : ℕ) → x ≡ e → y ≡ t → Contains (after_step (upward (ids_of w) r) false e t x) y
      new_at x y p q = rw (p, q, eq_itself e) (Contains-push (upward (ids_of w) r e) t)

      old_at : (x y : ℕ) → Contains (upward (ids_of w) r x) y → (here : Bool) → Contains (cond here (upward (ids_of w) r x ++ t ∷ []) (upward (ids_of w) r x)) y
      old_at x y o true = Contains-append_left (upward (ids_of w) r x) (t ∷ []) y o
      old_at x y o false = o

      steps : (x y : ℕ) → Contains (upward (ids_of then) r x) y → Contains (after_step (upward (ids_of w) r) false e t x) y
      steps x y s = elim (step_was w e (pair b t) h may r x y s) [ inl n ↦ let p = one x y n in new_at x y p.0 p.1 | inr o ↦ old_at x y o (x == e) ]

  some_closes : (r : ℕ) → holds w r (plain acyclic) ≡ true → HasCycle (upward (ids_of then) r) → Closed w e (pair b t) h may
  some_closes r is c = by (has_key key_cmp (added w e (pair b t)) (t, pair r e)) (t == e) refl refl
    where
      one_way : ((x y : ℕ) → New (x, pair r y) → (x ≡ e) × (y ≡ t)) → (f : Bool) → has_key key_cmp (added w e (pair b t)) (e, pair r t) ≡ f → Closed w e (pair b t) h may
      one_way one true n = ((e, pair r t), is_new w e (pair b t) h may (e, pair r t) n, (t, refl, held_acyclic w e (pair b t) h may r is, inr (led_back r is c one)))
      one_way one false n =
          absurd (none_new w e (pair b t) h may r is c
          (λ x y m. let p = one x y m in not_new w e (pair b t) h may (e, pair r t) n (subst New (λ j. (p.0 j, pair r (p.1 j))) m)))

      by : (back same : Bool) → has_key key_cmp (added w e (pair b t)) (t, pair r e) ≡ back → (t == e) ≡ same → Closed w e (pair b t) h may
      by true false n d =
          ((t, pair r e), is_new w e (pair b t) h may (t, pair r e) n, (e, refl, held_acyclic w e (pair b t) h may r is, inl (λ q. true≢false (sym (eq_itself e) ∙ (ap (λ x. x == e) (sym q) ∙ d)))))
      by back true n d =
          let s = eq_same t e d in
          one_way (λ x y m. elim (form r x y m) [ inl p ↦ p | inr p ↦ (p.0 ∙ s, p.1 ∙ sym s) ]) (has_key key_cmp (added w e (pair b t)) (e, pair r t)) refl
      by false false n d =
          one_way (λ x y m. elim (form r x y m) [ inl p ↦ p | inr p ↦ absurd (not_new w e (pair b t) h may (t, pair r e) n (subst New (λ j. (p.0 j, pair r (p.1 j))) m)) ])
          (has_key key_cmp (added w e (pair b t)) (e, pair r t)) refl

  -- a relationship whose pair comes both ways has a cycle
  two_ways : (r : ℕ) → New (e, pair r t) → New (t, pair r e) → HasCycle (upward (ids_of then) r)
  two_ways r n m = (e, (t, new_step w e (pair b t) h may r e t n, onward itself (new_step w e (pair b t) h may r t e m)))

  -- from others than e no step goes, where the pair comes one way
  steps_stay : (r : ℕ) → holds w r (plain acyclic) ≡ true → (New (t, pair r e) → (t == e) ≡ false → ⊥) → (x y : ℕ) → (x == e) ≡ false → Contains (upward (ids_of w) r x) y → Contains (upward (ids_of then) r x) y
  steps_stay r is one x y other c =
      let held = leads_holds w r x y c in
      holds_leads then r x y (stays w e (pair b t) None (facts_with_added w e (pair b t)) h (a w e (pair b t) h may) may (x, pair r y) held (refuted (is_replaced w e (pair b t) (x, pair r y)) goes))
    where
      away : (g : Key) → New g → (q : ℕ) (s : ℕ) → g ≡ (g.0, pair q s) → x ≡ g.0 → r ≡ q → ⊥
      away g n q s p k l =
          let m : New (x, pair r s) = subst New (p ∙ (λ j. (sym k j, pair (sym l j) s))) n in
          elim (form r x s m) [
            | inl f ↦ true≢false (sym (eq_itself e) ∙ (ap (λ z. z == e) (sym f.0) ∙ other))
            | inr f ↦ one (subst New (λ j. (f.0 j, pair r (f.1 j))) m) (ap (λ z. z == e) (sym f.0) ∙ other)
          ]

      goes : is_replaced w e (pair b t) (x, pair r y) ≡ true → ⊥
      goes g =
          let by = gone_by w e (pair b t) None (facts_with_added w e (pair b t)) h (a w e (pair b t) h may) may (x, pair r y) g in
          let way = by.2 in
          elim way.what [
            | inl z ↦ let s = same_parts x by.0.0 r way.r y way.u z in away by.0 by.1 way.r way.t way.is_pair s.0 s.1
            | inr z ↦ let s = same_parts x way.u r way.r y by.0.0 z.1 in
                let back = (h.traits).mirrored by.0.0 way.r way.u z.0 way.held in
                none_before w e (pair b t) h may way.r (sym (ap (λ q. holds w q (plain acyclic)) s.1) ∙ is)
                (by.0.0, (way.u, holds_leads w way.r by.0.0 way.u way.held, onward itself (holds_leads w way.r way.u by.0.0 back)))
          ]

  -- up to e, a way needs no step from e
  way_stays : (r : ℕ) → ((x y : ℕ) → (x == e) ≡ false → Contains (upward (ids_of w) r x) y → Contains (upward (ids_of then) r x) y) → {y : ℕ} → Reached (upward (ids_of w) r) t y
      → Reached (upward (ids_of then) r) t e ⊎ Reached (upward (ids_of then) r) t y
  way_stays r stay itself = inr itself
  way_stays r stay (onward {y = y} {z = z} n c) = by (y == e) refl (way_stays r stay n)
    where
      by : (same : Bool) → (y == e) ≡ same → Reached (upward (ids_of then) r) t e ⊎ Reached (upward (ids_of then) r) t y → Reached (upward (ids_of then) r) t e ⊎ Reached (upward (ids_of then) r) t z
      by same d (inl done) = inl done
      by true d (inr m) = inl (subst (Reached (upward (ids_of then) r) t) (eq_same y e d) m)
      by false d (inr m) = inr (onward m (stay y z d c))

  closes : (r : ℕ) → holds w r (plain acyclic) ≡ true → New (e, pair r t) → Reached (upward (ids_of w) r) t e → HasCycle (upward (ids_of then) r)
  closes r is n way = by (has_key key_cmp (added w e (pair b t)) (t, pair r e)) refl
    where
      by : (back : Bool) → has_key key_cmp (added w e (pair b t)) (t, pair r e) ≡ back → HasCycle (upward (ids_of then) r)
      by true m = two_ways r n (is_new w e (pair b t) h may (t, pair r e) m)
      by false m =
          let stay = steps_stay r is (λ x d. not_new w e (pair b t) h may (t, pair r e) m x) in
          (e, (t, new_step w e (pair b t) h may r e t n, elim (way_stays r stay way) [ inl q ↦ q | inr q ↦ q ]))

  one_closes : (x r s : ℕ) → New (x, pair r s) → holds w r (plain acyclic) ≡ true → (¬ (x ≡ e)) ⊎ Reached (upward (ids_of w) r) s e → HasCycle (upward (ids_of then) r)
  one_closes x r s n is alt = by (x == e) refl (form r x s n) alt
    where
      differ : (x == e) ≡ false → x ≡ e → ⊥
      differ d q = true≢false (sym (eq_itself e) ∙ (ap (λ z. z == e) (sym q) ∙ d))

      by : (same : Bool) → (x == e) ≡ same → ((x ≡ e) × (s ≡ t)) ⊎ ((x ≡ t) × (s ≡ e)) → (¬ (x ≡ e)) ⊎ Reached (upward (ids_of w) r) s e → HasCycle (upward (ids_of then) r)
      by false d (inl f) g = absurd (differ d f.0)
      by false d (inr f) g =
          let back : New (t, pair r e) = subst New (λ j. (f.0 j, pair r (f.1 j))) n in
          two_ways r (both_ways w h e b t may.mentions (ap (λ z. z == e) (sym f.0) ∙ d) back r refl) back
      by true d f (inl g) = absurd (g (eq_same x e d))
      by true d (inl f) (inr g) = closes r is (subst New (λ j. (f.0 j, pair r (f.1 j))) n) (subst (λ z. Reached (upward (ids_of w) r) z e) f.1 g)
      by true d (inr f) (inr g) =
          let q : t ≡ e = sym f.0 ∙ eq_same x e d in
          let ends : s ≡ t = f.1 ∙ sym q in
          closes r is (subst New (λ j. (eq_same x e d j, pair r (ends j))) n) (subst (λ z. Reached (upward (ids_of w) r) z e) ends g)

-- by what is added: a plain id closes nothing
closed_by : (w : WorldState) (e : ℕ) (i : Id) (h : IsWellFormed w) (may : MayCome w e i) (r : ℕ) → holds w r (plain acyclic) ≡ true
    → HasCycle (upward (ids_of (with_facts w (facts_with_added w e i))) r) → Closed w e i h may
closed_by w e (plain c) h may r is cycle =
    absurd (none_new w e (plain c) h may r is cycle (λ x y n. let f = added_form w h e (plain c) may.mentions n in no_pair e x f.0 r y (sym f.2)))
closed_by w e (pair b t) h may r is cycle = some_closes w e b t h may r is cycle

closes_by : (w : WorldState) (e : ℕ) (i : Id) (h : IsWellFormed w) (may : MayCome w e i) (k : Key) → IsAdded (ids_of w) (e, i) k → ClosesAt (ids_of w) e k
    → (r : ℕ) × (holds w r (plain acyclic) ≡ true) × HasCycle (upward (ids_of (with_facts w (facts_with_added w e i))) r)
closes_by w e i h may (x, plain d) n c = absurd cc
closes_by w e (plain b) h may (x, pair r s) n c = let f = added_form w h e (plain b) may.mentions n in absurd (no_pair e x f.0 r s (sym f.2))
closes_by w e (pair b t) h may (x, pair r s) n (u, ends, is, alt) =
    let same : u ≡ s = cc in
    let held = sym (is_held-holds w r (plain acyclic)) ∙ is in
    (r, held, one_closes w e b t h may x r s n held (subst (λ z. (¬ (x ≡ e)) ⊎ Reached (upward (ids_of w) r) z e) same alt))

-- a way up to e, where steps from others stay
up_to : (f g : ℕ → List ℕ) (e : ℕ) → ((x y : ℕ) → (x == e) ≡ false → Contains (f x) y → Contains (g x) y) → (s : ℕ) {y : ℕ} → Reached f s y → Reached g s e ⊎ Reached g s y
up_to f g e stay s itself = inr itself
up_to f g e stay s (onward {y = y} {z = z} n c) = by (y == e) refl (up_to f g e stay s n)
  where
    by : (same : Bool) → (y == e) ≡ same → Reached g s e ⊎ Reached g s y → Reached g s e ⊎ Reached g s z
    by same d (inl done) = inl done
    by true d (inr m) = inl (subst (Reached g s) (eq_same y e d) m)
    by false d (inr m) = inr (onward m (stay y z d c))

way_to : (f g : ℕ → List ℕ) (e : ℕ) → ((x y : ℕ) → (x == e) ≡ false → Contains (f x) y → Contains (g x) y) → (s : ℕ) → Reached f s e → Reached g s e
way_to f g e stay s r = elim (up_to f g e stay s r) [ inl q ↦ q | inr q ↦ q ]

joined : {next : ℕ → List ℕ} {x y z : ℕ} → Reached next x y → Reached next y z → Reached next x z
joined r itself = r
joined r (onward q c) = onward (joined r q) c

-- steps of which some are new, and all these go from e
module _ (old new : ℕ → List ℕ) (e : ℕ) (Extra : ℕ → Type 0) (step : (x y : ℕ) → Contains (new x) y → Contains (old x) y ⊎ ((x ≡ e) × Extra y)) where
  -- a way has no new step, or leads to e before the first one and goes on after the last one
  a_way : {x z : ℕ} → Reached new x z → Reached old x z ⊎ (Reached old x e × ((y : ℕ) × Extra y × Reached old y z))
  a_way itself = inl itself
  a_way {x} (onward {y} {z} r c) = further (a_way r) (step y z c)
    where
      further : Reached old x y ⊎ (Reached old x e × ((u : ℕ) × Extra u × Reached old u y)) → Contains (old y) z ⊎ ((y ≡ e) × Extra z)
          → Reached old x z ⊎ (Reached old x e × ((u : ℕ) × Extra u × Reached old u z))
      further (inl p) (inl c) = inl (onward p c)
      further (inl p) (inr n) = inr (subst (Reached old x) n.0 p, (z, n.1, itself))
      further (inr p) (inl c) = inr (p.0, ((p.1).0, (p.1).1, onward (p.1).2 c))
      further (inr p) (inr n) = inr (p.0, (z, n.1, itself))

  -- so where the others make no cycle, the end of a new one leads back to e
  new_leads_back : ¬ (HasCycle old) → HasCycle new → (y : ℕ) × Extra y × Reached old y e
  new_leads_back none c = by (step c.0 (c.1).0 (c.1).1) (a_way (c.1).2)
    where
      first : ℕ
      first = (c.1).0

      by : Contains (old c.0) first ⊎ ((c.0 ≡ e) × Extra first) → Reached old first c.0 ⊎ (Reached old first e × ((u : ℕ) × Extra u × Reached old u c.0)) → (y : ℕ) × Extra y × Reached old y e
      by (inl s) (inl r) = absurd (none (c.0, (first, s, r)))
      by (inl s) (inr p) = ((p.1).0, (p.1).1, joined (onward (p.1).2 s) p.0)
      by (inr n) (inl r) = (first, n.1, subst (Reached old first) n.0 r)
      by (inr n) (inr p) = (first, n.1, p.0)

-- with copies from a base
module _ (w : WorldState) (e : ℕ) (i : Id) (o : Option ℕ) (h : IsWellFormed w) (may : MayCome w e i) where
  abbrev after : WorldState
  after = with_facts w (with_base w e i (facts_with_added w e i) o)

  after_addition : IsAddition w e i o (with_base w e i (facts_with_added w e i) o)
  after_addition = base_is_addition w e i o h may.mentions

  abbrev one : WorldState
  one = with_facts w (facts_with_added w e i)

  one_addition : IsAddition w e i None (facts_with_added w e i)
  one_addition = base_is_addition w e i None h may.mentions

  was_acyclic_after : (r : ℕ) → holds after r (plain acyclic) ≡ true → HasCycle (upward (ids_of after) r) → holds w r (plain acyclic) ≡ true
  was_acyclic_after r is c = trait_before w e i o (with_base w e i (facts_with_added w e i) o) h after_addition may c.0 r (c.1).0 acyclic refl
      (came_or_was w e i o (with_base w e i (facts_with_added w e i) o) h after_addition may (c.0, pair r (c.1).0) (leads_holds after r c.0 (c.1).0 (c.1).1)) is

  -- a step afterwards is a copy, or one of those with the added set
  steps_after : (r x y : ℕ) → Contains (upward (ids_of after) r x) y → Contains (upward (ids_of one) r x) y ⊎ ((x ≡ e) × CopiedFrom w e i o (x, pair r y))
  steps_after r x y c =
      elim (value-with_base w e i (facts_with_added w e i) o (x, pair r y)) [
        | inl p ↦ inr (p.2, (p.0, p.1, p.2, p.3))
        | inr p ↦ inl (holds_leads one r x y (sym (ap is_some p.1) ∙ leads_holds after r x y c))
      ]

  more_after : (r x y : ℕ) → Contains (upward (ids_of one) r x) y → Contains (upward (ids_of after) r x) y
  more_after r x y c =
      holds_leads after r x y
      (elim (value-with_base w e i (facts_with_added w e i) o (x, pair r y)) [
        | inl p ↦ ap is_some p.4 ∙ of_base w e i p.0 (pair r y) p.3
        | inr p ↦ ap is_some p.1 ∙ leads_holds one r x y c
      ])

  cycle_after : (r : ℕ) → HasCycle (upward (ids_of one) r) → HasCycle (upward (ids_of after) r)
  cycle_after r c = (c.0, chain_of_more (upward (ids_of one) r) (upward (ids_of after) r) (more_after r) c.0 c.0 c.1)

  stays_acyclic : (r : ℕ) → holds w r (plain acyclic) ≡ true → holds after r (plain acyclic) ≡ true
  stays_acyclic r is = plain_stays w e i o (with_base w e i (facts_with_added w e i) o) h after_addition may r acyclic is

  one_acyclic : (r : ℕ) → holds w r (plain acyclic) ≡ true → holds one r (plain acyclic) ≡ true
  one_acyclic r is = plain_stays w e i None (facts_with_added w e i) h one_addition may r acyclic is

  abbrev Closing : Key → Type 0
  Closing k = Comes w e i o k × ClosesAt (ids_of w) e k

-- where the added set alone makes no cycle
module _ (w : WorldState) (e b t : ℕ) (o : Option ℕ) (h : IsWellFormed w) (may : MayCome w e (pair b t)) (none : (r : ℕ) → holds w r (plain acyclic) ≡ true → ¬ (HasCycle (upward (ids_of (with_facts w (facts_with_added w e (pair b t)))) r))) where
  abbrev only : WorldState
  only = with_facts w (facts_with_added w e (pair b t))

  -- no pair comes to another than e
  no_mirror : (r : ℕ) → holds w r (plain acyclic) ≡ true → IsAdded (ids_of w) (e, pair b t) (t, pair r e) → (t == e) ≡ false → ⊥
  no_mirror r is m d = none r is (two_ways w e b t h may r (both_ways w h e b t may.mentions d m r refl) m)

  was_there : (r : ℕ) → holds w r (plain acyclic) ≡ true → (x y : ℕ) → (x == e) ≡ false → Contains (upward (ids_of only) r x) y → Contains (upward (ids_of w) r x) y
  was_there r is x y other c = elim (step_was w e (pair b t) h may r x y c) [ inl n ↦ absurd (new n (form w e b t h may r x y n)) | inr q ↦ q ]
    where
      new : IsAdded (ids_of w) (e, pair b t) (x, pair r y) → ((x ≡ e) × (y ≡ t)) ⊎ ((x ≡ t) × (y ≡ e)) → ⊥
      new n (inl f) = true≢false (sym (eq_itself e) ∙ (ap (λ z. z == e) (sym f.0) ∙ other))
      new n (inr f) = no_mirror r is (subst (IsAdded (ids_of w) (e, pair b t)) (λ j. (f.0 j, pair r (f.1 j))) n) (ap (λ z. z == e) (sym f.0) ∙ other)

  copy_closes : (r : ℕ) → holds w r (plain acyclic) ≡ true → HasCycle (upward (ids_of (after w e (pair b t) o h may)) r) → (k : Key) × Closing w e (pair b t) o h may k
  copy_closes r is c =
      let back = new_leads_back (upward (ids_of only) r) (upward (ids_of (after w e (pair b t) o h may)) r) e (λ y. CopiedFrom w e (pair b t) o (e, pair r y))
      (λ x y s. elim (steps_after w e (pair b t) o h may r x y s) [ inl q ↦ inl q | inr q ↦ inr (q.0, subst (λ z. CopiedFrom w e (pair b t) o (z, pair r y)) q.0 q.1) ])
      (none r is) c in
      ((e, pair r back.0), (inr back.1, (back.0, refl, is_held-holds w r (plain acyclic) ∙ is, inr (way_to (upward (ids_of only) r) (upward (ids_of w) r) e (was_there r is) back.0 back.2))))

  closes_copy : (r y : ℕ) → holds w r (plain acyclic) ≡ true → CopiedFrom w e (pair b t) o (e, pair r y) → Reached (upward (ids_of w) r) y e → HasCycle (upward (ids_of (after w e (pair b t) o h may)) r)
  closes_copy r y is c way =
      let far = way_to (upward (ids_of w) r) (upward (ids_of only) r) e (steps_stay w e b t h may r is (λ m d. no_mirror r is m d)) y way in
      let nexts = upward (ids_of (after w e (pair b t) o h may)) r in
      (e, (y, holds_leads (after w e (pair b t) o h may) r e y ((after_addition w e (pair b t) o h may).there (e, pair r y) (inr c)), way_to (upward (ids_of only) r) nexts e (λ x z d s. more_after w e (pair b t) o h may r x z s) y far))

module _ (w : WorldState) (e : ℕ) (i : Id) (h : IsWellFormed w) (may : MayCome w e i) where
  abbrev base : Option ℕ
  base = new_base w e i

  one_tells : (has_cycle (one w e i base h may) ≡ true) ↔ HasForbiddenCycle (one w e i base h may)
  one_tells = has_cycle_tells (one w e i base h may) (facts_live_after w e i None (facts_with_added w e i) h (one_addition w e i base h may) may)

  after_tells : (has_cycle (after w e i base h may) ≡ true) ↔ HasForbiddenCycle (after w e i base h may)
  after_tells = has_cycle_tells (after w e i base h may) (facts_live_after w e i base (with_base w e i (facts_with_added w e i) base) h (after_addition w e i base h may) may)

  none_in_one : has_cycle (one w e i base h may) ≡ false → (r : ℕ) → holds w r (plain acyclic) ≡ true → ¬ (HasCycle (upward (ids_of (one w e i base h may)) r))
  none_in_one free r is c = true≢false (sym (one_tells.1 (r, one_acyclic w e i base h may r is, c)) ∙ free)

  added_closes : has_cycle (one w e i base h may) ≡ true → (k : Key) × Closing w e i base h may k
  added_closes t =
      let r = one_tells.0 t in
      let is = was_acyclic w e i h may r.0 r.1 r.2 in
      let k = closed_by w e i h may r.0 is r.2 in (k.0, (inl k.1, k.2))

plain_has_no_base : (w : WorldState) (e c : ℕ) → new_base w e (plain c) ≡ None
unfolding new_base
plain_has_no_base w e c = refl

closes_then : (w : WorldState) (e : ℕ) (i : Id) (h : IsWellFormed w) (may : MayCome w e i) → has_cycle (one w e i (base w e i h may) h may) ≡ false → HasForbiddenCycle (after w e i (base w e i h may) h may)
    → (k : Key) × Closing w e i (base w e i h may) h may k
closes_then w e (plain c) h may free f =
    let r = f.0 in
    let is = was_acyclic_after w e (plain c) (base w e (plain c) h may) h may r f.1 f.2 in
    let none : new_base w e (plain c) ≡ None = plain_has_no_base w e c in
    absurd (none_in_one w e (plain c) h may free r is (
      (f.2).0,
      chain_of_more (upward (ids_of (after w e (plain c) (base w e (plain c) h may) h may)) r) (upward (ids_of (one w e (plain c) (base w e (plain c) h may) h may)) r)
          (λ x y s. elim (steps_after w e (plain c) (base w e (plain c) h may) h may r x y s) [ inl q ↦ q | inr q ↦ absurd (let clash : None ≡ Some (q.1).0 = sym none ∙ (q.1).1 in cc) ]) (f.2).0 (f.2).0 (f.2).1,
    ))
closes_then w e (pair b t) h may free f =
    copy_closes w e b t (base w e (pair b t) h may) h may (none_in_one w e (pair b t) h may free) f.0 (was_acyclic_after w e (pair b t) (base w e (pair b t) h may) h may f.0 f.1 f.2) f.2

-- a copy that closes
copied_closes : (w : WorldState) (e : ℕ) (i : Id) (h : IsWellFormed w) (may : MayCome w e i) → has_cycle (one w e i (base w e i h may) h may) ≡ false
    → (k : Key) → CopiedFrom w e i (base w e i h may) k → ClosesAt (ids_of w) e k → HasForbiddenCycle (after w e i (base w e i h may) h may)
copied_closes w e i h may free (x, plain d) c at = absurd cc
copied_closes w e (plain a) h may free (x, pair r s) c at = absurd (let none : new_base w e (plain a) ≡ None = plain_has_no_base w e a in let clash : None ≡ Some c.0 = sym none ∙ c.1 in cc)
copied_closes w e (pair b t) h may free (x, pair r s) c (u, ends, is, alt) =
    let same : u ≡ s = cc in
    let held : holds w r (plain acyclic) ≡ true = sym (is_held-holds w r (plain acyclic)) ∙ is in
    let here : CopiedFrom w e (pair b t) (base w e (pair b t) h may) (e, pair r s) = subst (λ z. CopiedFrom w e (pair b t) (base w e (pair b t) h may) (z, pair r s)) c.2 c in (
      r,
      stays_acyclic w e (pair b t) (base w e (pair b t) h may) h may r held,
      elim alt [
        | inl n ↦ absurd (n c.2)
        | inr way ↦ closes_copy w e b t (base w e (pair b t) h may) h may (none_in_one w e (pair b t) h may free) r s held here (subst (λ z. Reached (upward (ids_of w) r) z e) same way)
      ],
    )

pub added_pairs_close : AddedPairsClose
unfolding facts_after_add
added_pairs_close w e i h dead built fixed = (
  λ t. by_one (has_cycle (one w e.index i o h may)) refl t,
  λ k. by_then (has_cycle (one w e.index i o h may)) refl k.0 k.1 k.2,
)
  where
    may : MayCome w e.index i
    may = may_come w e i h dead built fixed

    o : Option ℕ
    o = new_base w e.index i

    by_one : (c : Bool) → has_cycle (one w e.index i o h may) ≡ c → has_cycle (after w e.index i o h may) ≡ true
        → (k : Key) × Comes w e.index i o k × ClosesAt (ids_of w) e.index k
    by_one true p t = let k = added_closes w e.index i h may p in (k.0, (k.1).0, (k.1).1)
    by_one false p t = let k = closes_then w e.index i h may p ((after_tells w e.index i h may).0 t) in (k.0, (k.1).0, (k.1).1)

    already : has_cycle (one w e.index i o h may) ≡ true → has_cycle (after w e.index i o h may) ≡ true
    already p =
        let r = (one_tells w e.index i h may).0 p in
        let is = was_acyclic w e.index i h may r.0 r.1 r.2 in
        (after_tells w e.index i h may).1 (r.0, stays_acyclic w e.index i o h may r.0 is, cycle_after w e.index i o h may r.0 r.2)

    by_then : (c : Bool) → has_cycle (one w e.index i o h may) ≡ c → (k : Key) → Comes w e.index i o k → ClosesAt (ids_of w) e.index k → has_cycle (after w e.index i o h may) ≡ true
    by_then true p k n at = already p
    by_then false p k (inl n) at =
        let r = closes_by w e.index i h may k n at in
        absurd (none_in_one w e.index i h may p r.0 r.1 r.2)
    by_then false p k (inr n) at = (after_tells w e.index i h may).1 (copied_closes w e.index i h may p k n at)

-- an answer about a list of what comes says whether there will be a cycle
pub cycle_by_found : (w : WorldState) (e : EntityId) (i : Id) → IsWellFormed w → is_dead w e i ≡ false → adds_built_in w e.index i ≡ false → changes_trait w e.index i ≡ false
    → (items : List Key) → ((k : Key) → Contains items k ↔ (IsAdded (ids_of w) (e.index, i) k ⊎ IsCopied w e.index i k))
    → (answer : Bool) → IsTrue answer ↔ ((k : Key) × Contains items k × ClosesAt (ids_of w) e.index k) → has_cycle (with_facts w (facts_after_add w e.index i)) ≡ answer
cycle_by_found w e i h dead built fixed items all answer tells =
    let closes = added_pairs_close w e i h dead built fixed in
    alike (has_cycle (with_facts w (facts_after_add w e.index i))) answer
    (λ t. let k = closes.0 t in tells.1 (k.0, (all k.0).1 k.1, k.2))
    (λ t. let k = tells.0 t in closes.1 (k.0, (all k.0).0 k.1, k.2))
