-- Facts with which no others come or go.
use Rattle.std.specs.Prelude.{◌==◌, Option, Some, None, filter, fold, flat_map, map}
use Rattle.std.specs.FinMap.Entries.{is_some-find}
use Rattle.std.specs.List.{Contains, list_any}
use Rattle.std.specs.declared.cmp.Ordering.{Ordering}
use Rattle.std.proofs.lemmas.List.Elements.{Contains-push}
use Rattle.std.proofs.Common.{◌≡◌, ℕ, zero, suc, ◌*◌, Bool, true, false, not, ◌&&◌, ◌||◌, List, [], ◌∷◌, ◌++◌, length, if◌then◌else◌, ◌⊎◌, refl, sym, ap, subst, ◌∙◌, inl, inr, arith, true≢false}
use Rattle.std.proofs.Math.Bool.{or-false}
use Rattle.ecs_id.specs.declared.EntityId.{EntityId}
use Rattle.ecs_id.specs.Id.{Id, plain, pair, first_of, id_eq}
use Rattle.ecs_model.specs.declared.faults.Refusal.TheVariants.{TraitFixed, Cycle, TooManyIds, Full}
use Rattle.ecs_model.specs.Added.{IsAdded, brought, displaced, is_exclusive, is_symmetric, is_used, mirror}
use Rattle.ecs_model.specs.BuiltIns.{is_a, symmetric, traversable, with_trait}
use Rattle.ecs_model.specs.Copied.{has_pair, is_copied, is_inherited, is_withheld, stays_behind, takes}
use Rattle.ecs_model.specs.steps.FactChanges.{IsCopied, added, coming, copied, facts_after_add, facts_after_remove, facts_with_added, new_base, own_ids, removed, replaced, with_new}
use Rattle.ecs_model.specs.steps.Outcomes.{is_crowded, is_dead, is_spent, with_facts}
use Rattle.ecs_model.specs.Links.{is_held, upward}
use Rattle.ecs_model.specs.Map.{Map, has_key, keys, with_value, without}
use Rattle.ecs_model.specs.Reach.{Reached, itself, onward}
use Rattle.ecs_model.specs.Refusal.{first_reason}
use Rattle.ecs_model.specs.Sets.{grown, with_member, within}
use Rattle.ecs_model.specs.World.{WorldState, Key, key_cmp, key_eq, component, entities, holds, ids_of, is_built_in, new_value}
use Rattle.ecs_model.specs.steps.Step.{add_reasons, adds_built_in, changes_trait, has_cycle, is_pinned}
use Rattle.ecs_model.specs.steps.WellFormed.{IsWellFormed}
use Rattle.ecs_model.specs.steps.Rules.{is_trait}
use Rattle.ecs_model.proofs.Reasons.{neither, refused}
use Rattle.ecs_model.proofs.steps.CopiedIds.{base_value, coming_with, with_base, with_each}
use Rattle.ecs_model.proofs.steps.Cycles.{added_pairs_close}
use Rattle.ecs_model.proofs.steps.LivingIds.{refuted}
use Rattle.ecs_model.proofs.steps.Additions.{same_parts}
use Rattle.ecs_model.proofs.steps.Facts.{is_held-holds}
use Rattle.ecs_model.proofs.steps.ReplacedFacts.{GivesWay, from_displaced, key_eq_same}
use Rattle.rel_traits.specs.Additions.{is_of_built_in}
use Rattle.rel_traits.specs.Simple.{ComesAlone, ComesInPlace, is_unmirrored, leads_to_copies}
use Rattle.rel_traits.proofs.LoneFacts.{unmirrored}
use Rattle.rel_traits.specs.After.{ClosesAt}
use Rattle.ecs_world.specs.Singles.{with_one, with_one_for, without_one}
use Rattle.ecs_world.proofs.IdCounts.{absent_without, not_crowded_replaced}

-- where nothing follows from a thing, it is all that is reached from it
alone_reached : {A : Type 0} (next : A → List A) (x : A) → next x ≡ [] → {y : A} → Reached next x y → y ≡ x
alone_reached next x none itself = refl
alone_reached next x none (onward {y = y} {z = z} r c) =
    let same : y ≡ x = alone_reached next x none r in
    let in_none : Contains [] z = subst (λ xs. Contains xs z) (ap next same ∙ none) c in
    absurd (omega (arith, in_none.1))

alone_within : {K : Type 0} (R : K → K → Ordering) (next : K → List K) (n : ℕ) (x : K) → next x ≡ [] → within R next n x ≡ (x, tt) ∷ []
unfolding within
alone_within R next zero x none = refl
alone_within R next (suc n) x none = ap (grown R next) (alone_within R next n x none) ∙ ap (λ ks. fold (with_member R) ((x, tt) ∷ []) (ks ++ [])) none

-- where no key passes, none goes
none_without : {X : Type 0} (m : Map Key X) → without key_cmp m (λ k. false) ≡ m
none_without [] = refl
none_without (e ∷ es) = ap (λ m. e ∷ m) (none_without es)

passes_not : (a b c : Bool) → b ≡ false → (a && b && c) ≡ false
passes_not true true c h = absurd (true≢false h)
passes_not true false c h = refl
passes_not false b c h = refl

-- what is copied may be copied to one that has nothing of its own
module _ (ids : ℕ → List Id) (own : List Id) where
  takes_more : (i : Id) → takes ids own i ≡ true → takes ids [] i ≡ true
  takes_more (plain c) t = refl
  takes_more (pair r u) t = by (is_held (ids r) (plain traversable)) (is_symmetric ids r) (is_exclusive ids r) (has_pair own r) t
    where
      by : (a b c d : Bool) → (not a && not b && not (c && d)) ≡ true → (not a && not b && not (c && false)) ≡ true
      by false false false d t = refl
      by false false true d t = refl
      by false true c d t = absurd (true≢false (sym t))
      by true b c d t = absurd (true≢false (sym t))

  copied_to_less : (i : Id) → is_copied ids [] i ≡ false → is_copied ids own i ≡ false
  copied_to_less i = by (is_inherited ids (first_of i)) (is_withheld ids (first_of i)) (stays_behind i) (is_held own i) (takes ids own i) (takes ids [] i) (takes_more i)
    where
      by : (a b c d t u : Bool) → (t ≡ true → u ≡ true) → (not a && not b && not c && true && u) ≡ false → (not a && not b && not c && not d && t) ≡ false
      by true b c d t u f p = refl
      by false true c d t u f p = refl
      by false false true d t u f p = refl
      by false false false true t u f p = refl
      by false false false false false u f p = refl
      by false false false false true u f p = sym (f refl) ∙ p

  none_copied : (cs : List Id) → list_any (is_copied ids []) cs ≡ false → filter (is_copied ids own) cs ≡ []
  none_copied [] h = refl
  none_copied (c ∷ cs) h =
      let parts = neither (is_copied ids [] c) (list_any (is_copied ids []) cs) h in
      ap (λ b. if b then c ∷ filter (is_copied ids own) cs else filter (is_copied ids own) cs) (copied_to_less c parts.0) ∙ none_copied cs parts.1

-- where a fact is added alone, nothing is copied if it leads to no base of which something may be
nothing_copied : (w : WorldState) (e : ℕ) (i : Id) → leads_to_copies (ids_of w) i ≡ false → keys (added w e i) ≡ (e, i) ∷ [] → (b : ℕ) → new_base w e i ≡ Some b → copied w e i b ≡ []
unfolding new_base copied
nothing_copied w e (plain c) leads single b is = absurd cc
nothing_copied w e (pair r t) leads single b is =
    let here = passed (has_key key_cmp (added w e (pair r t)) base) (not (holds w e (pair is_a t))) is in
    let same : r ≡ is_a = sym (same_parts e e is_a r t t (key_eq_same base (e, pair r t) (alone here.0))).1 in
    subst (λ x. filter (is_copied (ids_of w) (own_ids w e (pair r t))) (ids_of w x) ≡ []) here.1
    (none_copied (ids_of w) (own_ids w e (pair r t)) (ids_of w t) (sym (ap (λ b. b && list_any (is_copied (ids_of w) []) (ids_of w t)) (ap (λ x. x == is_a) same)) ∙ leads))
  where
    base : Key
    base = (e, pair is_a t)

    alone : has_key key_cmp (added w e (pair r t)) base ≡ true → key_eq base (e, pair r t) ≡ true
    alone there = sym (or-false (key_eq base (e, pair r t))) ∙ sym (is_some-find key_cmp base (added w e (pair r t)) ∙ ap (list_any (key_eq base)) single) ∙ there

    passed : (p q : Bool) → (if p && q then Some t else None) ≡ Some b → (p ≡ true) × (t ≡ b)
    passed true true s = (refl, (cc))
    passed true false s = absurd cc
    passed false q s = absurd cc

module _ (w : WorldState) (e : ℕ) where
  no_mirror : (i : Id) → is_unmirrored (ids_of w) i ≡ true → mirror (ids_of w) (e, i) ≡ []
  no_mirror (plain c) h = refl
  no_mirror (pair r t) h = ap (λ b. if b then (t, pair r e) ∷ [] else []) (refused (is_symmetric (ids_of w) r) h)

  -- a fact without mirror goes alone
  pub removed_alone : (i : Id) → is_unmirrored (ids_of w) i ≡ true → removed w e i ≡ (e, i) ∷ []
  removed_alone i h = ap (λ ks. (e, i) ∷ ks) (no_mirror i h)

  pub after_remove : (i : Id) → is_unmirrored (ids_of w) i ≡ true → facts_after_remove w e i ≡ without_one w e i
  unfolding facts_after_remove
  after_remove i h = ap (λ ks. without key_cmp w.facts (λ k. list_any (key_eq k) ks)) (removed_alone i h)

  -- a fact that brings no other
  module _ (i : Id) (brings : brought (ids_of w) (e, i) ≡ []) where
    pub added_only : keys (added w e i) ≡ (e, i) ∷ []
    unfolding added
    added_only = ap keys (alone_within key_cmp (brought (ids_of w)) (2 * length (entities w)) (e, i) brings)

    pub built_in_only : adds_built_in w e i ≡ is_of_built_in (e, i)
    built_in_only = ap (list_any (λ k. is_built_in k.0 || id_eq k.1 (plain component))) added_only ∙ or-false (is_of_built_in (e, i))

    -- and is no trait
    pub changes_only : is_trait i ≡ false → changes_trait w e i ≡ false
    changes_only no_trait =
        ap (list_any (λ k. not (holds w k.0 k.1) && is_trait k.1 && (is_used (ids_of w) (entities w) k.0 || is_pinned w k.0))) added_only
        ∙ or-false (not (holds w e i) && is_trait i && (is_used (ids_of w) (entities w) e || is_pinned w e))
        ∙ passes_not (not (holds w e i)) (is_trait i) (is_used (ids_of w) (entities w) e || is_pinned w e) no_trait

    -- and leads to no copies
    module _ (no_copies : leads_to_copies (ids_of w) i ≡ false) where
      none_from : (b : ℕ) → new_base w e i ≡ Some b → copied w e i b ≡ []
      none_from = nothing_copied w e i no_copies added_only

      -- nothing is copied, and nothing else comes with it
      pub only_comes : keys (coming w e i) ≡ (e, i) ∷ []
      only_comes = by (new_base w e i) refl ∙ added_only
        where
          by : (o : Option ℕ) → new_base w e i ≡ o → keys (coming_with w e i o) ≡ keys (added w e i)
          by None is = refl
          by (Some b) is = ap (λ cs. keys (with_each e (λ c. tt) (added w e i) cs)) (none_from b is)

      pub added_facts : facts_after_add w e i ≡ with_new w (without key_cmp w.facts (λ q. list_any (key_eq q) (replaced w e i))) (e, i)
      unfolding facts_after_add facts_with_added
      added_facts =
          by (new_base w e i) refl
          ∙ ap (λ ks. fold (with_new w) (without key_cmp w.facts (λ q. list_any (key_eq q) (replaced w e i))) ks) added_only
        where
          by : (o : Option ℕ) → new_base w e i ≡ o → with_base w e i (facts_with_added w e i) o ≡ facts_with_added w e i
          by None is = refl
          by (Some b) is = ap (with_each e (base_value w b) (facts_with_added w e i)) (none_from b is)

      comes_is : (k : Key) → IsAdded (ids_of w) (e, i) k ⊎ IsCopied w e i k → k ≡ (e, i)
      comes_is k (inl n) = alone_reached (brought (ids_of w)) (e, i) brings n
      comes_is k (inr c) = let none : Contains [] k.1 = subst (λ cs. Contains cs k.1) (none_from c.0 c.1) c.3 in absurd (omega (arith, none.1))

  module _ (i : Id) (alone : ComesAlone (ids_of w) (e, i)) where
    pub replaced_none : replaced w e i ≡ []
    unfolding replaced
    replaced_none = ap (flat_map (displaced (ids_of w))) (added_only i alone.brings) ∙ ap (λ ks. ks ++ []) alone.displaces

    -- a fact that comes alone comes alone
    pub alone_comes : keys (coming w e i) ≡ (e, i) ∷ []
    alone_comes = only_comes i alone.brings alone.no_copies

    pub after_add : facts_after_add w e i ≡ with_one w e i
    after_add =
        added_facts i alone.brings alone.no_copies
        ∙ ap (λ ks. with_new w (without key_cmp w.facts (λ q. list_any (key_eq q) ks)) (e, i)) replaced_none
        ∙ ap (λ facts. with_new w facts (e, i)) (none_without w.facts)

    pub built_in_alone : adds_built_in w e i ≡ is_of_built_in (e, i)
    built_in_alone = built_in_only i alone.brings

  -- a fact that comes in the place of another
  module _ (i old : Id) (in_place : ComesInPlace (ids_of w) (e, i) old) where
    pub replaced_one : replaced w e i ≡ (e, old) ∷ []
    unfolding replaced
    replaced_one = ap (flat_map (displaced (ids_of w))) (added_only i in_place.brings) ∙ ap (λ ks. ks ++ []) (in_place.place).displaces

    pub new_there : holds w e i ≡ false
    new_there = sym (is_held-holds w e i) ∙ (in_place.place).is_new

    pub after_replacing : facts_after_add w e i ≡ with_one_for w e old i
    after_replacing =
        added_facts i in_place.brings in_place.no_copies
        ∙ ap (λ ks. with_new w (without key_cmp w.facts (λ q. list_any (key_eq q) ks)) (e, i)) replaced_one
        ∙ ap (λ b. if b then without_one w e old else with_value key_cmp (without_one w e old) (e, i) (new_value w i)) (absent_without w e old i new_there)

    -- the other is held, and is no trait
    gives_way : GivesWay w (e, i) (e, old)
    gives_way = from_displaced w (e, i) (e, old) (subst (λ ks. Contains ks (e, old)) (sym (in_place.place).displaces) (Contains-push [] (e, old)))

    unmirrored_pair : (r t : ℕ) → ◌≡◌ {A = Key} (e, i) (e, pair r t) → is_symmetric (ids_of w) r ≡ false
    unmirrored_pair r t is = unmirrored (is_symmetric (ids_of w) r) (map (λ c. (e, pair c t)) (upward (ids_of w) with_trait r)) (t, pair r e) (subst (λ k. brought (ids_of w) k ≡ []) is in_place.brings)

    old_is : old ≡ pair gives_way.r gives_way.u
    old_is = elim gives_way.what [
      | inl q ↦ ap (λ k. k.1) q
      | inr m ↦ absurd (true≢false (sym m.0 ∙ sym (is_held-holds w gives_way.r (plain symmetric)) ∙ unmirrored_pair gives_way.r gives_way.t gives_way.is_pair))
    ]

    pub old_there : holds w e old ≡ true
    old_there = ap (holds w e) old_is ∙ gives_way.held

    pub old_no_trait : is_trait old ≡ false
    old_no_trait = ap is_trait old_is ∙ sym (ap (λ k. is_trait k.1) gives_way.is_pair) ∙ in_place.no_trait

-- a fact that comes without others closes no cycle where it leads none back
opens_none : (w : WorldState) (e : EntityId) (i : Id) → brought (ids_of w) (e.index, i) ≡ [] → leads_to_copies (ids_of w) i ≡ false → is_trait i ≡ false → ¬ (ClosesAt (ids_of w) e.index (e.index, i)) → IsWellFormed w
    → is_dead w e i ≡ false → adds_built_in w e.index i ≡ false → has_cycle (with_facts w (facts_after_add w e.index i)) ≡ false
opens_none w e i brings no_copies no_trait closes sound dead own = refuted (has_cycle (with_facts w (facts_after_add w e.index i))) (λ t.
    let k = (added_pairs_close w e i sound dead own (changes_only w e.index i brings no_trait)).0 t in
    closes (subst (ClosesAt (ids_of w) e.index) (comes_is w e.index i brings no_copies k.0 k.1) k.2))

module _ (w : WorldState) (e : EntityId) (i : Id) (alone : ComesAlone (ids_of w) (e.index, i)) (sound : IsWellFormed w) where
  -- so it closes no cycle
  pub closes_none : is_dead w e i ≡ false → adds_built_in w e.index i ≡ false → has_cycle (with_facts w (facts_after_add w e.index i)) ≡ false
  closes_none = opens_none w e i alone.brings alone.no_copies alone.no_trait alone.closes sound

  -- and the reasons against it are those of room alone
  pub growth_alone : is_dead w e i ≡ false → adds_built_in w e.index i ≡ false → first_reason (add_reasons w e.index i) ≡ first_reason ((is_crowded (with_facts w (with_one w e.index i)), TooManyIds) ∷ (is_spent w, Full) ∷ [])
  growth_alone dead own = λ k. first_reason (
      (changes_only w e.index i alone.brings alone.no_trait k, TraitFixed)
      ∷ (closes_none dead own k, Cycle)
      ∷ (is_crowded (with_facts w (after_add w e.index i alone k)), TooManyIds)
      ∷ (is_spent w, Full)
      ∷ [])

module _ (w : WorldState) (e : EntityId) (i old : Id) (in_place : ComesInPlace (ids_of w) (e.index, i) old) (sound : IsWellFormed w) where
  -- the one reason left against a fact that comes in the place of another is that no further command is counted
  pub replacing_fits : is_dead w e i ≡ false → adds_built_in w e.index i ≡ false → first_reason (add_reasons w e.index i) ≡ first_reason ((is_spent w, Full) ∷ [])
  replacing_fits dead own = λ k. first_reason (
      (changes_only w e.index i in_place.brings in_place.no_trait k, TraitFixed)
      ∷ (opens_none w e i in_place.brings in_place.no_copies in_place.no_trait in_place.closes sound dead own k, Cycle)
      ∷ ((ap (λ facts. is_crowded (with_facts w facts)) (after_replacing w e.index i old in_place) ∙ not_crowded_replaced w e.index old i sound (new_there w e.index i old in_place) (old_there w e.index i old in_place)) k, TooManyIds)
      ∷ (is_spent w, Full)
      ∷ [])
