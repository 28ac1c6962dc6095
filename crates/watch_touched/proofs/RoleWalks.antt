-- All who may be `$this` behind an entity are found by the steps that are kept of a query, and all behind those of whom facts came or went by what is kept of its variables.
use Rattle.std.proofs.Common.{◌≡◌, ℕ, zero, suc, ◌+◌, ◌<◌, ◌≤◌, ◌==◌, Bool, true, false, List, [], ◌∷◌, ◌++◌, true≢false, length, take, refl, sym, ap, subst, ◌∙◌, inl, inr, arith}
use Rattle.std.specs.Prelude.{◌&&◌, ◌||◌, nat_lt, not, filter, flat_map, is_none, map, Option, Some, None, if◌then◌else◌}
use Rattle.std.specs.List.{Contains}
use Rattle.std.proofs.lemmas.Bool.{and_from, and_parts, cases_Bool, eqb-true, ltb-true, not-true, or_right}
use Rattle.std.proofs.lemmas.List.{take_all}
use Rattle.std.proofs.lemmas.List.Elements.{Contains-append_cases, Contains-append_left, Contains-append_right}
use Rattle.id_pattern.specs.Patterns.{matches}
use Rattle.id_pattern.specs.declared.Pattern.{Pattern}
use Rattle.ecs_id.specs.Id.{Id, plain, pair}
use Rattle.ecs_model.specs.steps.Outcomes.{Changed}
use Rattle.ecs_model.specs.World.{WorldState, Key, entities, ids_of}
use Rattle.ecs_model.proofs.Members.{any_passes, eq_itself, filtered, from_flat_map, head_or_tail, in_flat_map, passing}
use Rattle.ecs_model.proofs.steps.AddedSets.{from_map, in_map}
use Rattle.query_check.specs.Terms.{terms}
use Rattle.query_model.specs.declared.query.Ref.{Ref}
use Rattle.query_model.specs.declared.query.Ref.TheVariants.{Is, Var, Any, AnyOnce}
use Rattle.query_model.specs.declared.query.Term.{Term}
use Rattle.query_model.specs.Query.{Query}
use Rattle.watch_asked.specs.Asked.{IsAskedBy, TellsIdle, any_counts_as, asked_by, counts, counts_as, steps_between, steps_by, steps_of}
use Rattle.watch_asked.specs.declared.asked.AskedOf.{AskedOf}
use Rattle.watch_asked.specs.declared.asked.AskedTerms.{AskedTerms}
use Rattle.watch_asked.specs.declared.steps.LinkStep.{LinkStep}
use Rattle.watch_asked.proofs.LinkSteps.{in_step, out_step}
use Rattle.watch_asked.proofs.AskedRoles.{asked_counts}
use Rattle.watch_concerns.specs.Idle.{asks_for}
use Rattle.watch_concerns.specs.OwnIds.{lacks}
use Rattle.watch_concerns.specs.Roles.{leads_in, may_stand}
use Rattle.watch_touched.specs.Leaning.{Adds, leaning, leans, pairs_to, target_of}
use Rattle.watch_touched.specs.Moving.{ids_around, may_be_this}
use Rattle.watch_touched.specs.Roles.{behind, holders_as, holds_as, ids_of_both, is_asked_of, roles_behind, roles_of, roles_of_fact, stands_for, targets_as, this_among}
use Rattle.watch_touched.specs.Steps.{behind_gone, behind_target, found_behind, found_from, gone_target, leads_by, may_be_as, may_be_by, step_back, targets_back}
use Rattle.watch_touched.proofs.GrownLists.{already, and_then, fewer}
use Rattle.watch_touched.proofs.MovingRoles.{is_this_among, of_this, this_behind}
use Rattle.watch_touched.proofs.RolesBehind.{passes_target}
use Rattle.watch_touched.proofs.StayingRoles.{asked_of_holder}

-- ---- steps lead to variables after

between_rises : (source target : ℕ) (p : Pattern) (s : LinkStep) → Contains (steps_between source target p) s → s.from < s.to
between_rises source target p s h = elim (cases_Bool (nat_lt source target)) [
  | inl up ↦
      let low : source < target = ltb-true source target up in
      let one : LinkStep = record { from = source; to = target; asked = p; outward = true } in
      let there = subst (λ b. Contains (if b then one ∷ [] else if nat_lt target source then record { from = target; to = source; asked = p; outward = false } ∷ [] else []) s) up h in
      elim (head_or_tail one s [] there) [ inl same ↦ subst (λ (t : LinkStep). t.from < t.to) same low | inr none ↦ absurd (omega (arith, none.1)) ]
  | inr level ↦
      let one : LinkStep = record { from = source; to = target; asked = p; outward = true } in
      let other : LinkStep = record { from = target; to = source; asked = p; outward = false } in
      let rest = subst (λ b. Contains (if b then one ∷ [] else if nat_lt target source then other ∷ [] else []) s) level h in
      elim (cases_Bool (nat_lt target source)) [
        | inl down ↦
            let low : target < source = ltb-true target source down in
            let there = subst (λ b. Contains (if b then other ∷ [] else []) s) down rest in
            elim (head_or_tail other s [] there) [ inl same ↦ subst (λ (t : LinkStep). t.from < t.to) same low | inr none ↦ absurd (omega (arith, none.1)) ]
        | inr same ↦
            let there : Contains [] s = subst (λ b. Contains (if b then other ∷ [] else []) s) same rest in
            absurd (omega (arith, there.1))
      ]
]

by_rises : (r : Ref) (o : Option Ref) (p : Pattern) (s : LinkStep) → Contains (steps_by r o p) s → s.from < s.to
by_rises (Var u) (Some (Var v)) p s h = between_rises u v p s h
by_rises (Var u) (Some (Is e)) p s h = absurd (omega (arith, h.1))
by_rises (Var u) (Some Any) p s h = absurd (omega (arith, h.1))
by_rises (Var u) (Some AnyOnce) p s h = absurd (omega (arith, h.1))
by_rises (Var u) None p s h = absurd (omega (arith, h.1))
by_rises (Is e) o p s h = absurd (omega (arith, h.1))
by_rises Any o p s h = absurd (omega (arith, h.1))
by_rises AnyOnce o p s h = absurd (omega (arith, h.1))

term_rises : (t : Term) (s : LinkStep) → Contains (steps_of t) s → s.from < s.to
term_rises t s h = by (is_none t.up && not t.closed) h
  where
    by : (b : Bool) → Contains (if b then steps_by t.source t.target (asked_by t.component t.target) else []) s → s.from < s.to
    by true c = by_rises t.source t.target (asked_by t.component t.target) s c
    by false c = absurd (omega (arith, c.1))

pub steps_rise : {A : Type 0} (q : Query) (asked : AskedTerms A) → IsAskedBy q asked → (s : LinkStep) → Contains asked.steps.items s → s.from < s.to
steps_rise q asked is s h =
    let found = from_flat_map steps_of (terms q) s (subst (λ (ss : List LinkStep). Contains ss s) is.steps h) in
    term_rises found.0 s found.2

-- a pair that passes another test too has the same target
same_target : (p r : Id → Bool) (i : Id) (x : ℕ) → Contains (target_of p i) x → r i ≡ true → Contains (target_of r i) x
same_target p r (plain c) x h passes = absurd (omega (arith, h.1))
same_target p r (pair t y) x h passes =
    let there = subst (λ b. Contains (if b then y ∷ [] else []) x) (passes_target p (pair t y) x h) h in
    subst (λ b. Contains (if b then y ∷ [] else []) x) (sym passes) there

-- ---- what is found so far

-- who may be `$this` behind an entity as that of a variable by one step, if it leads to that variable
abbrev pub behind_step : {A : Type 0} → Query → WorldState → Changed → List (AskedOf A) → ℕ → ℕ → ℕ → LinkStep → List ℕ
behind_step q w changed others n v y s = if s.to == v then flat_map (found_behind q w changed n s.from) (step_back q w others changed.went s y) else []

-- and behind the holder of a fact as the entity of a variable, if it counts for that
abbrev pub behind_entry : {A : Type 0} → Query → WorldState → Changed → Key → AskedOf A → List ℕ
behind_entry q w changed k a = if counts (ids_around w changed.went k.0) k.1 a then found_behind q w changed a.variable a.variable k.0 else []

module _ {A : Type 0} (q : Query) (w : WorldState) (changed : Changed) where
  -- a step to another variable finds nobody, and one to this all behind those from whom it leads
  pub step_elsewhere : (others : List (AskedOf A)) (n v y : ℕ) (s : LinkStep) (found : List ℕ) → (s.to == v) ≡ false → Adds (behind_step q w changed others n v y s) found found
  step_elsewhere others n v y s found fails =
      let back = flat_map (found_behind q w changed n s.from) (step_back q w others changed.went s y) in
      subst (λ b. Adds (if b then back else []) found found) (sym fails) (already [] found (λ e m. absurd (omega (arith, m.1))))

  pub step_here : (others : List (AskedOf A)) (n v y : ℕ) (s : LinkStep) (found after : List ℕ) → (s.to == v) ≡ true → Adds (flat_map (found_behind q w changed n s.from) (step_back q w others changed.went s y)) found after
      → Adds (behind_step q w changed others n v y s) found after
  step_here others n v y s found after passes adds =
      let back = flat_map (found_behind q w changed n s.from) (step_back q w others changed.went s y) in
      subst (λ b. Adds (if b then back else []) found after) (sym passes) adds

  -- nobody is wanted for whom the fact doesn't count
  pub entry_idle : (k : Key) (a : AskedOf A) (found : List ℕ) → counts (ids_around w changed.went k.0) k.1 a ≡ false → Adds (behind_entry q w changed k a) found found
  entry_idle k a found idle =
      subst (λ b. Adds (if b then found_behind q w changed a.variable a.variable k.0 else []) found found) (sym idle) (already [] found (λ e m. absurd (omega (arith, m.1))))

  pub entry_found : (k : Key) (a : AskedOf A) (found after : List ℕ) → counts (ids_around w changed.went k.0) k.1 a ≡ true → Adds (found_behind q w changed a.variable a.variable k.0) found after
      → Adds (behind_entry q w changed k a) found after
  entry_found k a found after counting adds = subst (λ b. Adds (if b then found_behind q w changed a.variable a.variable k.0 else []) found after) (sym counting) adds

-- ---- a fact that is asked of a variable is counted

module _ {A : Type 0} (q : Query) (w : WorldState) (by : ℕ → Term → Bool) (changed : Changed) (others : List (AskedOf A)) (tells : TellsIdle q others) where
  pub record IsCounted (u : ℕ) (k : Key) : Type 0 where
    pub entry : AskedOf A
    pub among : Contains others entry
    pub of : entry.variable ≡ u
    pub counts_for : counts (ids_around w changed.went k.0) k.1 entry ≡ true

  pub counted : (u : ℕ) (k : Key) → is_asked_of q w by changed u k ≡ true → IsCounted u k
  counted u k h =
      let outer = and_parts _ _ h in
      let inner = and_parts _ _ outer.0 in
      let other : (u == 0) ≡ false = not-true (u == 0) inner.0 in
      let ids : List Id = ids_around w changed.went k.0 in
      let found = passing (counts_as (λ v. v == u) ids k.1) others (asked_counts q others tells u ids k.1 other inner.1 outer.1) in
      let a : AskedOf A = found.0 in
      let tests = and_parts _ _ found.2 in
      record { entry = a; among = found.1; of = eqb-true a.variable u tests.0; counts_for = tests.1 }

  -- so it is asked of one of those variables of whose entities something is kept
  pub all_asked : (u : ℕ) (k : Key) → is_asked_of q w by changed u k ≡ true → Contains (map (λ a. a.variable) others) u
  all_asked u k h = let c = counted u k h in subst (Contains (map (λ (a : AskedOf A). a.variable) others)) c.of (in_map (λ (a : AskedOf A). a.variable) others c.entry c.among)

-- ---- one step back

module _ {A : Type 0} (q : Query) (w : WorldState) (changed : Changed) (asked : AskedTerms A) (is : IsAskedBy q asked) where
  abbrev every : ℕ → Term → Bool
  every v t = true

  -- a step that is kept, by which somebody leads to an entity
  record StepsTo (u v y x : ℕ) : Type 0 where
    step : LinkStep
    among : Contains asked.steps.items step
    from : step.from ≡ u
    to : step.to ≡ v
    leads : Contains (step_back q w asked.others.items changed.went step y) x

  may_be_of : (u : ℕ) (ids : List Id) (i : Id) → asks_for (terms q) u i ≡ true → may_stand q (ids ++ map (λ k. k.1) changed.went) u ≡ true → (u ≡ 0 → not (lacks q ids) ≡ true)
      → may_be_by q asked.others.items changed.went u ids i ≡ true
  may_be_of u ids i asks may fit =
      let all : List Id = ids ++ map (λ k. k.1) changed.went in
      let counting : Bool = any_counts_as (λ v. v == u) asked.others.items all i in
      elim (cases_Bool (u == 0)) [
        | inl first ↦ subst (λ b. (if b then not (lacks q ids) else counting) ≡ true) (sym first) (fit (eqb-true u 0 first))
        | inr other ↦ subst (λ b. (if b then not (lacks q ids) else counting) ≡ true) (sym other) (asked_counts q asked.others.items is.others u all i other asks may)
      ]

  may_be_that : (u x : ℕ) → (u ≡ 0 → may_be_this q w x ≡ true) → may_be_as q w u x ≡ true
  may_be_that u x fit = elim (cases_Bool (u == 0)) [
    | inl first ↦ or_right (not (u == 0)) (may_be_this q w x) (fit (eqb-true u 0 first))
    | inr other ↦ ap (λ b. not b || may_be_this q w x) other
  ]

  holder_steps : (u v y x : ℕ) → Contains (holders_as q w every changed u v y) x → (u ≡ 0 → may_be_this q w x ≡ true) → StepsTo u v y x
  holder_steps u v y x h fit =
      let p = holds_as q w every changed u v in
      let f = (filtered (leans p w y) (entities w) x).0 h in
      let found = passing (λ i. matches (pairs_to y) i && p (ids_of w x) i) (ids_of w x) f.1 in
      let i : Id = found.0 in
      let tests = and_parts _ _ found.2 in
      let holds = and_parts _ _ tests.1 in
      let s = out_step q u v i holds.0 in
      let step : LinkStep = s.step in
      let by = leads_by q asked.others.items changed.went step in
      let able : may_be_by q asked.others.items changed.went step.from (ids_of w x) i ≡ true =
      subst (λ n. may_be_by q asked.others.items changed.went n (ids_of w x) i ≡ true) (sym s.from) (may_be_of u (ids_of w x) i (asked_of_holder every q u v i holds.0) holds.1 fit) in
      let lean = any_passes (λ i. matches (pairs_to y) i && by (ids_of w x) i) (ids_of w x) i found.1 (and_from _ _ tests.0 (and_from _ _ s.passes able)) in
      let there = (filtered (leans by w y) (entities w) x).1 (f.0, lean) in
      record {
        step = step;
        among = subst (λ (ss : List LinkStep). Contains ss step) (sym is.steps) s.among;
        from = s.from;
        to = s.to;
        leads = subst (λ b. Contains (if b then leaning by w y else targets_back q w changed.went step y) x) (sym s.is) there;
      }

  target_steps : (u v y x : ℕ) → Contains (targets_as q w every changed u v y) x → (u ≡ 0 → may_be_this q w x ≡ true) → StepsTo u v y x
  target_steps u v y x h fit =
      let p = leads_in every q u v in
      let gone : List Key = filter (λ k. k.0 == y) changed.went in
      let f = (filtered (stands_for q w every changed u) (flat_map (target_of p) (ids_of_both q w every changed y)) x).0 h in
      let found = from_flat_map (target_of p) (ids_of_both q w every changed y) x f.0 in
      let i : Id = found.0 in
      let s = in_step q u v i (passes_target p i x found.2) in
      let step : LinkStep = s.step in
      let to = target_of (matches step.asked) in
      let hit : Contains (to i) x = same_target p (matches step.asked) i x found.2 s.passes in
      let now = flat_map to (ids_of w y) in
      let before = flat_map (gone_target step y) changed.went in
      let among : Contains (now ++ before) x = elim (Contains-append_cases (ids_of w y) (map (λ (k : Key). k.1) gone) i found.1) [
        | inl held ↦ Contains-append_left now before x (in_flat_map to (ids_of w y) i x held hit)
        | inr went ↦
            let k = from_map (λ (k : Key). k.1) gone i went in
            let kept = (filtered (λ k. k.0 == y) changed.went k.0).0 k.1 in
            let of_it : Contains (to (k.0).1) x = subst (λ j. Contains (to j) x) (sym k.2) hit in
            Contains-append_right now before x (in_flat_map (gone_target step y) changed.went k.0 x kept.0 (subst (λ b. Contains (if b then to (k.0).1 else []) x) (sym kept.1) of_it))
      ] in
      let able : may_be_as q w step.from x ≡ true = subst (λ n. may_be_as q w n x ≡ true) (sym s.from) (may_be_that u x fit) in
      let there : Contains (targets_back q w changed.went step y) x = (filtered (may_be_as q w step.from) (now ++ before) x).1 (among, able) in
      record {
        step = step;
        among = subst (λ (ss : List LinkStep). Contains ss step) (sym is.steps) s.among;
        from = s.from;
        to = s.to;
        leads = subst (λ b. Contains (if b then leaning (leads_by q asked.others.items changed.went step) w y else targets_back q w changed.went step y) x) (sym s.is) there;
      }

  steps_to : (u v y x : ℕ) → Contains (behind q w every changed u v y) x → (u ≡ 0 → may_be_this q w x ≡ true) → StepsTo u v y x
  steps_to u v y x h fit = elim (Contains-append_cases (holders_as q w every changed u v y) (targets_as q w every changed u v y) x h) [ inl holds ↦ holder_steps u v y x holds fit | inr held ↦ target_steps u v y x held fit ]

  -- ---- all behind an entity

  only_itself : (n y e : ℕ) → Contains (roles_behind q w every changed n 0 y) (0, e) → y ≡ e
  only_itself zero y e h = elim (head_or_tail (0, y) (0, e) [] h) [ inl same ↦ ap (λ (k : ℕ × ℕ). k.1) same | inr none ↦ absurd (omega (arith, none.1)) ]
  only_itself (suc n) y e h = elim (head_or_tail (0, y) (0, e) [] h) [ inl same ↦ ap (λ (k : ℕ × ℕ). k.1) same | inr none ↦ absurd (omega (arith, none.1)) ]

  all_behind : (n v y e : ℕ) → (v == 0) ≡ false → Contains (found_behind q w changed (suc n) v y) e → Contains (flat_map (behind_step q w changed asked.others.items n v y) asked.steps.items) e
  all_behind n v y e other h = elim (this_behind q w every changed n v y e h) [
    | inl itself ↦ absurd (true≢false (sym (ap (λ m. m == 0) itself.0) ∙ other))
    | inr b ↦
        let u : ℕ = b.number in
        let x : ℕ = b.entity in
        let last = of_this q w every changed (roles_behind q w every changed n u x) e b.further in
        let fit = λ (first : u ≡ 0).
        let there = subst (λ m. Contains (roles_behind q w every changed n m x) (0, e)) first last.0 in
        subst (λ z. may_be_this q w z ≡ true) (sym (only_itself n x e there)) last.1 in
        let s = steps_to u v y x b.among fit in
        let step : LinkStep = s.step in
        let back = step_back q w asked.others.items changed.went step y in
        let within = in_flat_map (found_behind q w changed n step.from) back x e s.leads (subst (λ m. Contains (found_behind q w changed n m x) e) (sym s.from) b.further) in
        let is_to : (step.to == v) ≡ true = ap (λ m. m == v) s.to ∙ eq_itself v in
        in_flat_map (behind_step q w changed asked.others.items n v y) asked.steps.items step e s.among
        (subst (λ b. Contains (if b then flat_map (found_behind q w changed n step.from) back else []) e) (sym is_to) within)
  ]

  -- the steps that lead to a variable find all behind its entity
  pub walked : (n v y : ℕ) (x z : List ℕ) → (v == 0) ≡ false → v ≤ n → ((m : ℕ) → v ≤ m + 1 → Adds (flat_map (behind_step q w changed asked.others.items m v y) asked.steps.items) x z) → Adds (found_behind q w changed n v y) x z
  walked zero v y x z other low adds = let first : v ≡ 0 = omega (arith, low) in absurd (true≢false (sym (ap (λ m. m == 0) first) ∙ other))
  walked (suc n) v y x z other low adds =
      fewer (flat_map (behind_step q w changed asked.others.items n v y) asked.steps.items) (found_behind q w changed (suc n) v y) x z (adds n (omega (arith, low))) (λ e h. all_behind n v y e other h)

  -- ---- all behind those of whom facts came or went

  abbrev variables : List ℕ
  variables = map (λ a. a.variable) asked.others.items

  from_fact : (k : Key) (e : ℕ) → Contains (this_among q w every changed (roles_of_fact q w every changed variables k)) e → Contains (found_from q w changed asked.others.items k) e
  from_fact k e h =
      let ids : List Id = ids_around w changed.went k.0 in
      let last = of_this q w every changed (roles_of_fact q w every changed variables k) e h in
      let l = from_flat_map (λ u. if is_asked_of q w every changed u k then roles_behind q w every changed u u k.0 else []) variables (0, e) last.0 in
      let u : ℕ = l.0 in
      elim (cases_Bool (is_asked_of q w every changed u k)) [
        | inl asks ↦
            let there = subst (λ b. Contains (if b then roles_behind q w every changed u u k.0 else []) (0, e)) asks l.2 in
            let c = counted q w every changed asked.others.items is.others u k asks in
            let a : AskedOf A = c.entry in
            let inside = subst (λ m. Contains (found_behind q w changed m m k.0) e) (sym c.of) (is_this_among q w every changed (roles_behind q w every changed u u k.0) e there last.1) in
            in_flat_map (λ (a : AskedOf A). if counts ids k.1 a then found_behind q w changed a.variable a.variable k.0 else []) asked.others.items a e c.among
            (subst (λ b. Contains (if b then found_behind q w changed a.variable a.variable k.0 else []) e) (sym c.counts_for) inside)
        | inr none ↦
            let there : Contains [] (0, e) = subst (λ b. Contains (if b then roles_behind q w every changed u u k.0 else []) (0, e)) none l.2 in
            absurd (omega (arith, there.1))
      ]

  pub from_all : (x y z : List ℕ) → Adds (flat_map (found_from q w changed asked.others.items) changed.came) x y → Adds (flat_map (found_from q w changed asked.others.items) changed.went) y z
      → Adds (this_among q w every changed (roles_of q w every changed variables)) x z
  from_all x y z h k =
      let next = found_from q w changed asked.others.items in
      let came = flat_map next changed.came in
      let went = flat_map next changed.went in
      let roles = roles_of q w every changed variables in
      fewer (came ++ went) (this_among q w every changed roles) x z (and_then came went x y z h k)
      (λ e m.
      let last = of_this q w every changed roles e m in
      let l = from_flat_map (roles_of_fact q w every changed variables) (changed.came ++ changed.went) (0, e) last.0 in
      let found = from_fact l.0 e (is_this_among q w every changed (roles_of_fact q w every changed variables l.0) e l.2 last.1) in
      elim (Contains-append_cases changed.came changed.went l.0 l.1) [
        | inl c ↦ Contains-append_left came went e (in_flat_map next changed.came l.0 e c found)
        | inr g ↦ Contains-append_right came went e (in_flat_map next changed.went l.0 e g found)
      ])

-- ---- as `$this`, and as another

module _ (q : Query) (w : WorldState) (changed : Changed) where
  -- as `$this` an entity alone is found
  pub only_this : (n y : ℕ) → found_behind q w changed n 0 y ≡ filter (may_be_this q w) (y ∷ [])
  only_this zero y = refl
  only_this (suc n) y = refl

  -- so all are found behind these who are among them
  pub at_this : (n u : ℕ) (xs x z : List ℕ) → u ≡ 0 → Adds xs x z → Adds (flat_map (found_behind q w changed n u) xs) x z
  at_this n u xs x z first adds =
      fewer xs (flat_map (found_behind q w changed n u) xs) x z adds
      (λ e m.
      let f = from_flat_map (found_behind q w changed n u) xs e m in
      let y : ℕ = f.0 in
      let there = subst (λ (ys : List ℕ). Contains ys e) (ap (λ v. found_behind q w changed n v y) first ∙ only_this n y) f.2 in
      elim (head_or_tail y e [] ((filtered (may_be_this q w) (y ∷ []) e).0 there).0) [ inl same ↦ subst (Contains xs) same f.1 | inr none ↦ absurd (omega (arith, none.1)) ])

  -- who is behind the targets from which a step leads is behind those of what an entity holds, or of what went from it
  pub behind_back : (n y : ℕ) (s : LinkStep) (x between z : List ℕ) → Adds (flat_map (behind_target q w changed n s) (ids_of w y)) x between → Adds (flat_map (behind_gone q w changed n s y) changed.went) between z
      → Adds (flat_map (found_behind q w changed n s.from) (targets_back q w changed.went s y)) x z
  behind_back n y s x between z h k =
      let f = found_behind q w changed n s.from in
      let to = target_of (matches s.asked) in
      let now = flat_map to (ids_of w y) in
      let before = flat_map (gone_target s y) changed.went in
      let held = flat_map (behind_target q w changed n s) (ids_of w y) in
      let gone = flat_map (behind_gone q w changed n s y) changed.went in
      fewer (held ++ gone) (flat_map f (targets_back q w changed.went s y)) x z (and_then held gone x between z h k)
      (λ e m.
      let a = from_flat_map f (targets_back q w changed.went s y) e m in
      let there = ((filtered (may_be_as q w s.from) (now ++ before) a.0).0 a.1).0 in
      elim (Contains-append_cases now before a.0 there) [
        | inl c ↦
            let i = from_flat_map to (ids_of w y) a.0 c in
            Contains-append_left held gone e (in_flat_map (behind_target q w changed n s) (ids_of w y) i.0 e i.1 (in_flat_map f (to i.0) a.0 e i.2 a.2))
        | inr c ↦
            let k = from_flat_map (gone_target s y) changed.went a.0 c in
            Contains-append_right held gone e (in_flat_map (behind_gone q w changed n s y) changed.went k.0 e k.1 (in_flat_map f (gone_target s y k.0) a.0 e k.2 a.2))
      ])

-- who is behind those from whom a step leads is behind those that were found
pub behind_found : (next : ℕ → List ℕ) (back start between x z : List ℕ) → Adds back start between → Adds (flat_map next between) x z → Adds (flat_map next back) x z
behind_found next back start between x z found adds =
    fewer (flat_map next between) (flat_map next back) x z adds (λ e m. let f = from_flat_map next back e m in in_flat_map next between f.0 e (found.all f.0 f.1) f.2)

-- ---- items one by one

-- what is wanted of one item alone
pub whole : {X : Type 0} (next : X → List ℕ) (xs : List X) (i : ℕ) (x z : List ℕ) → length xs ≤ i → Adds (flat_map next (take i xs)) x z → Adds (flat_map next xs) x z
whole next xs i x z over h = subst (λ ys. Adds (flat_map next ys) x z) (take_all i xs over) h
