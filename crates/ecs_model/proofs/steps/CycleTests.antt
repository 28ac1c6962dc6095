-- What `add` leaves, fact by fact, and that the test of cycles decides whether an acyclic relationship has one.
use Rattle.std.proofs.Common.{◌≡◌, ℕ, ◌-◌, ◌⊎◌, ◌↔◌, Bool, true, false, cond, not, ◌&&◌, ◌||◌, List, length, refl, sym, ap, ◌∙◌, inl, inr, arith, true≢false}
use Rattle.std.specs.Prelude.{ℤ, Option, Some, None, is_some, if◌then◌else◌}
use Rattle.std.specs.List.{Contains, list_all, list_any}
use Rattle.ecs_id.specs.Id.{Id, plain, pair, mentioned}
use Rattle.ecs_model.specs.Added.{IsAdded, IsReplaced, is_used}
use Rattle.ecs_model.specs.BuiltIns.{acyclic}
use Rattle.ecs_model.specs.steps.Outcomes.{with_facts}
use Rattle.ecs_model.specs.Cycles.{HasCycle}
use Rattle.ecs_model.specs.Links.{IsAcyclic, is_held, upward}
use Rattle.ecs_model.specs.Map.{has_key, keys, value_at}
use Rattle.ecs_model.specs.Sets.{has_chain}
use Rattle.ecs_model.specs.World.{WorldState, Key, key_cmp, entities, holds, ids_of, is_live, new_value, value_of}
use Rattle.ecs_model.specs.steps.FactChanges.{added, facts_with_added}
use Rattle.ecs_model.specs.steps.Step.{changes_trait, has_cycle, is_pinned}
use Rattle.ecs_model.specs.steps.WellFormed.{IsWellFormed}
use Rattle.ecs_model.specs.steps.Rules.{is_trait}
use Rattle.ecs_model.proofs.LeastSets.{chains_are_short}
use Rattle.ecs_model.proofs.Maps.{key_cmp_same}
use Rattle.ecs_model.proofs.Members.{and_true, any_passes, both, from_or, passing}
use Rattle.ecs_model.proofs.Reasons.{refused}
use Rattle.ecs_model.proofs.Removals.{value_at-without}
use Rattle.ecs_model.proofs.steps.AddedSets.{added_are_members, added_form, form_lives}
use Rattle.ecs_model.proofs.steps.AddEffects.{held_after_add, none_replaced, value_with_added}
use Rattle.ecs_model.proofs.steps.CopiedIds.{Comes, CopiedFrom, coming_at, coming_with, of_base, value-with_base, with_base}
use Rattle.ecs_model.proofs.steps.Facts.{held_listed, is_held-holds, key_there, leads_holds, listed_held, live_listed}
use Rattle.ecs_model.proofs.steps.LivingIds.{each_passes, refuted}
use Rattle.ecs_model.proofs.steps.ReplacedFacts.{gives_way, is_replaced, replaced_in}

-- what is there once is one
one_of : (o : Option ℕ) (x y : ℕ) → o ≡ Some x → o ≡ Some y → x ≡ y
one_of None x y p q = absurd (cc)
one_of (Some z) x y p q = cc

-- each fact mentions live entities alone
abbrev pub MentionsLive : WorldState → Type 0
MentionsLive v = (f : ℕ) (j : Id) → holds v f j ≡ true → (is_live v f ≡ true) × (list_all (is_live v) (mentioned j) ≡ true)

-- a relationship that is Acyclic has a cycle
abbrev pub HasForbiddenCycle : WorldState → Type 0
HasForbiddenCycle v = (r : ℕ) × (holds v r (plain acyclic) ≡ true) × HasCycle (upward (ids_of v) r)

module _ (v : WorldState) (live : MentionsLive v) where
  leads_live : (r y z : ℕ) → Contains (upward (ids_of v) r y) z → Contains (entities v) z
  leads_live r y z n = live_listed v z (each_passes (is_live v) (mentioned (pair r z)) (live y (pair r z) (leads_holds v r y z n)).1 z (1, omega arith, refl))

  abbrev closes : ℕ → ℕ → Bool
  closes r x = has_chain (upward (ids_of v) r) (length (entities v) - 1) x x

  abbrev is_cyclic : ℕ → Bool
  is_cyclic r = holds v r (plain acyclic) && list_any (closes r) (entities v)

  -- the test passes exactly where such a relationship has a cycle
  pub has_cycle_tells : (has_cycle v ≡ true) ↔ HasForbiddenCycle v
  has_cycle_tells = (
    λ h. let r = passing is_cyclic (entities v) h in
        let parts = both (holds v r.0 (plain acyclic)) (list_any (closes r.0) (entities v)) r.2 in
        let x = passing (closes r.0) (entities v) parts.1 in
        (r.0, parts.0, (x.0, (chains_are_short (upward (ids_of v) r.0) (length (entities v) - 1) (entities v) (omega arith) (leads_live r.0) x.0 x.0).0 x.2)),
    λ c. let x = (c.2).0 in
        let first = (c.2).1 in
        let there = live x (pair c.0 first.0) (leads_holds v c.0 x first.0 first.1) in
        any_passes is_cyclic (entities v) c.0 (live_listed v c.0 (live c.0 (plain acyclic) c.1).0)
        (and_true (holds v c.0 (plain acyclic)) (list_any (closes c.0) (entities v)) c.1
        (any_passes (closes c.0) (entities v) x (live_listed v x there.0) ((chains_are_short (upward (ids_of v) c.0) (length (entities v) - 1) (entities v) (omega arith) (leads_live c.0) x x).1 first))),
  )

  pub none_closes : has_cycle v ≡ false → (r : ℕ) → holds v r (plain acyclic) ≡ true → IsAcyclic (ids_of v) r
  none_closes none r is x c = true≢false (sym (has_cycle_tells.1 (r, is, (x, c))) ∙ none)

-- a well-formed world has no such cycle
pub none_before : (w : WorldState) → IsWellFormed w → ¬ (HasForbiddenCycle w)
none_before w h c = (h.traits).no_cycle c.0 c.1 (c.2).0 (c.2).1

module _ (w : WorldState) (e : ℕ) (i : Id) (o : Option ℕ) (h : IsWellFormed w) (alive : is_live w e ≡ true) (mentions : list_all (is_live w) (mentioned i) ≡ true) where
  abbrev left : WorldState
  left = with_facts w (with_base w e i (facts_with_added w e i) o)

  abbrev IsNew : Key → Type 0
  IsNew k = Comes w e i o k

  -- the set of what comes has exactly what does
  pub coming_tells : (k : Key) → (has_key key_cmp (coming_with w e i o) k ≡ true) ↔ IsNew k
  coming_tells k = (
    λ t. elim (coming_at w e i o k) [ inl c ↦ inr c.0 | inr c ↦ inl ((added_are_members w e i h mentions k).0 (sym c.1 ∙ t)) ],
    λ n. elim (coming_at w e i o k) [
      | inl c ↦ c.1
      | inr c ↦ elim n [ inl a ↦ c.1 ∙ (added_are_members w e i h mentions k).1 a | inr x ↦ absurd (c.0 x) ]
    ],
  )

  -- the list of what gives way has exactly what does
  replaced_tells : (k : Key) → (is_replaced w e i k ≡ true) ↔ IsReplaced (ids_of w) (e, i) k
  replaced_tells k = (
    λ g. let r = replaced_in w e i k g in (r.0, (added_are_members w e i h mentions r.0).0 r.1, r.2),
    λ r. gives_way w e i r.0 k ((added_are_members w e i h mentions r.0).1 r.1) r.2,
  )

  -- after `add` a fact is held exactly if it was added, or was held and did not give way
  pub held_after : (k : Key) → (holds left k.0 k.1 ≡ true) ↔ (IsNew k ⊎ ((holds w k.0 k.1 ≡ true) × ¬ (IsReplaced (ids_of w) (e, i) k)))
  held_after k = (
    λ t. elim (from_or (has_key key_cmp (coming_with w e i o) k) (not (is_replaced w e i k) && holds w k.0 k.1) (sym (held_after_add w e i o k) ∙ t)) [
      | inl a ↦ inl ((coming_tells k).0 a)
      | inr s ↦ let parts = both (not (is_replaced w e i k)) (holds w k.0 k.1) s in
          inr (parts.1, λ r. true≢false (sym ((replaced_tells k).1 r) ∙ refused (is_replaced w e i k) parts.0))
    ],
    λ s. held_after_add w e i o k ∙ elim s [
      | inl n ↦ λ j. (coming_tells k).1 n j || (not (is_replaced w e i k) && holds w k.0 k.1)
      | inr s ↦ by (has_key key_cmp (coming_with w e i o) k) (is_replaced w e i k) (holds w k.0 k.1) (refuted (is_replaced w e i k) (λ g. s.1 ((replaced_tells k).0 g))) s.0
    ],
  )
    where
      by : (a g b : Bool) → g ≡ false → b ≡ true → (a || (not g && b)) ≡ true
      by true g b p q = refl
      by false true b p q = absurd (true≢false p)
      by false false b p q = q

  -- so each entity holds these ids
  pub ids_after : (x : ℕ) (j : Id) → Contains (ids_of left x) j ↔ (IsNew (x, j) ⊎ (Contains (ids_of w x) j × ¬ (IsReplaced (ids_of w) (e, i) (x, j))))
  ids_after x j = (
    λ c. elim ((held_after (x, j)).0 (listed_held left x j c)) [ inl n ↦ inl n | inr s ↦ inr (held_listed w x j s.0, s.1) ],
    λ s. held_listed left x j ((held_after (x, j)).1 (elim s [ inl n ↦ inl n | inr s ↦ inr (listed_held w x j s.0, s.1) ])),
  )

  -- a copy has the base's value
  pub value_of_copy : (k : Key) (c : CopiedFrom w e i o k) → value_at key_cmp (with_base w e i (facts_with_added w e i) o) k ≡ value_of w c.0 k.1
  value_of_copy k c =
      elim (value-with_base w e i (facts_with_added w e i) o k) [
        | inl p ↦ p.4 ∙ ap (λ b. value_of w b k.1) (one_of o p.0 c.0 p.1 c.1)
        | inr p ↦ absurd (p.0 c)
      ]

  -- what was held keeps its value, and what else came has a new one
  pub value_after : (k : Key) → ¬ (CopiedFrom w e i o k) → holds left k.0 k.1 ≡ true
      → value_at key_cmp (with_base w e i (facts_with_added w e i) o) k ≡ (if holds w k.0 k.1 then value_at key_cmp w.facts k else Some (new_value w k.1))
  value_after k other t =
      elim (value-with_base w e i (facts_with_added w e i) o k) [ inl p ↦ absurd (other (p.0, p.1, p.2, p.3)) | inr p ↦ p.1 ∙ value_when_added (sym (ap is_some p.1) ∙ t) ]
    where
      by : (g a : Bool) (o : Option (List ℤ)) → (a ≡ true → g ≡ false)
          → is_some (cond (is_some (cond (not g) o None)) (cond (not g) o None) (cond a (Some (new_value w k.1)) None)) ≡ true
          → cond (is_some (cond (not g) o None)) (cond (not g) o None) (cond a (Some (new_value w k.1)) None) ≡ (if is_some o then o else Some (new_value w k.1))
      by true true o f s = absurd (true≢false (f refl))
      by true false o f s = absurd (true≢false (sym s))
      by false a (Some x) f s = refl
      by false true None f s = refl
      by false false None f s = absurd (true≢false (sym s))

      value_when_added : has_key key_cmp (facts_with_added w e i) k ≡ true → value_at key_cmp (facts_with_added w e i) k ≡ (if holds w k.0 k.1 then value_at key_cmp w.facts k else Some (new_value w k.1))
      value_when_added there =
          let at : value_at key_cmp (facts_with_added w e i) k
          ≡ cond (is_some (cond (not (is_replaced w e i k)) (value_at key_cmp w.facts k) None)) (cond (not (is_replaced w e i k)) (value_at key_cmp w.facts k) None) (cond (has_key key_cmp (added w e i) k) (Some (new_value w k.1)) None) =
          value_with_added w e i k ∙ ap (λ (o : Option (List ℤ)). cond (is_some o) o (cond (has_key key_cmp (added w e i) k) (Some (new_value w k.1)) None)) (value_at-without w.facts (is_replaced w e i) k) in
          at ∙ by (is_replaced w e i k) (has_key key_cmp (added w e i) k) (value_at key_cmp w.facts k) (none_replaced w e i h mentions None k) (sym (ap is_some at) ∙ there)

  pub left_lives : MentionsLive left
  left_lives f j held =
      elim ((held_after (f, j)).0 held) [
        | inl (inl n) ↦ let x = added_form w h e i mentions n in form_lives w e i x.0 (f, j) alive mentions x.1 x.2
        | inl (inr n) ↦ (ap (is_live w) n.2 ∙ alive, ((h.live).facts n.0 j (of_base w e i n.0 j n.3)).1)
        | inr s ↦ (h.live).facts f j s.0
      ]

  -- the test of what is left decides whether an acyclic relationship has a cycle
  pub cycle_is_told : (has_cycle left ≡ true) ↔ HasForbiddenCycle left
  cycle_is_told = has_cycle_tells left left_lives

  -- what gets the trait Acyclic is not in use
  pub fresh_are_acyclic : changes_trait w e i ≡ false → (r : ℕ) → IsAdded (ids_of w) (e, i) (r, plain acyclic) → (is_held (ids_of w r) (plain acyclic) ≡ true) ⊎ (is_used (ids_of w) (entities w) r ≡ false)
  fresh_are_acyclic fixed r n = by (holds w r (plain acyclic)) (is_used (ids_of w) (entities w) r) (is_pinned w r) refl unchanged
    where
      changed : Key → Bool
      changed k = not (holds w k.0 k.1) && is_trait k.1 && (is_used (ids_of w) (entities w) k.0 || is_pinned w k.0)

      unchanged : changed (r, plain acyclic) ≡ false
      unchanged =
          refuted (changed (r, plain acyclic))
          (λ t. true≢false (sym (any_passes changed (keys (added w e i)) (r, plain acyclic) (key_there key_cmp key_cmp_same (added w e i) (r, plain acyclic) ((added_are_members w e i h mentions (r, plain acyclic)).1 n)) t) ∙ fixed))

      by : (b u p : Bool) → holds w r (plain acyclic) ≡ b → (not b && true && (u || p)) ≡ false → (is_held (ids_of w r) (plain acyclic) ≡ true) ⊎ (u ≡ false)
      by true u p k q = inl (is_held-holds w r (plain acyclic) ∙ k)
      by false true p k q = absurd (true≢false q)
      by false false p k q = inr refl
