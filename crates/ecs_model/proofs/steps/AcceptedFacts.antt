-- What an accepted `add`, `set` or `remove` leaves is well formed.
use Rattle.std.proofs.Common.{◌≡◌, ℕ, ◌≤◌, ◌==◌, Bool, true, false, not, ◌&&◌, ◌||◌, List, [], ◌∷◌, ◌++◌, length, refl, sym, ap, subst, ◌∙◌, inl, inr, arith, true≢false}
use Rattle.std.specs.Prelude.{ℤ, Option, Some, None, is_some, filter_map, nat_lt, if◌then◌else◌}
use Rattle.std.specs.List.{Contains, list_all, list_any}
use Rattle.std.specs.Ordering.{nat_cmp}
use Rattle.std.proofs.lemmas.Bool.Decides.{nat_tests, Decides-eqb}
use Rattle.std.proofs.lemmas.List.{length-map}
use Rattle.ecs_id.specs.declared.EntityId.{EntityId}
use Rattle.ecs_id.specs.Id.{Id, plain, id_eq, mentioned}
use Rattle.ecs_model.specs.declared.faults.Refusal.{Refusal}
use Rattle.ecs_model.specs.declared.faults.Refusal.TheVariants.{Dead, BuiltIn, NoData, Count, Range, TraitFixed, Cycle, TooManyIds, Full}
use Rattle.ecs_model.specs.Added.{IsAdded, is_used}
use Rattle.ecs_model.specs.BuiltIns.{acyclic}
use Rattle.ecs_model.specs.steps.Outcomes.{counted, is_crowded, is_dead, is_spent, value_reasons, with_facts}
use Rattle.ecs_model.specs.Links.{IsAcyclic}
use Rattle.ecs_model.specs.Map.{Map, has_key, keys, value_at, with_value}
use Rattle.ecs_model.specs.Reach.{itself}
use Rattle.ecs_model.specs.Refusal.{first_reason}
use Rattle.ecs_model.specs.Schema.{Schema, all_fit}
use Rattle.ecs_model.specs.World.{WorldState, Key, key_cmp, component, entities, holds, ids_of, is_alive, is_built_in, is_live, new_value, type_of_id, value_of}
use Rattle.ecs_model.specs.steps.FactChanges.{added, facts_after_add, facts_with_added, new_base}
use Rattle.ecs_model.specs.steps.Step.{Add, SetValue, Remove, add_reasons, adds_built_in, changes_trait, effect, has_cycle, is_pinned, reasons}
use Rattle.ecs_model.specs.steps.WellFormed.{IsWellFormed}
use Rattle.ecs_model.specs.steps.Rules.{is_trait}
use Rattle.ecs_model.proofs.Additions.{none_held}
use Rattle.ecs_model.proofs.Maps.{IsMap-with_value, fact_value_at, of_some, key_cmp_same, key_cmp_total, keys-with_value}
use Rattle.ecs_model.proofs.Members.{any_passes}
use Rattle.ecs_model.proofs.Reasons.{denied, neither, passed}
use Rattle.ecs_model.proofs.TypedValues.{IsTyped, zeros_typed}
use Rattle.ecs_model.proofs.steps.AddedSets.{added_are_members}
use Rattle.ecs_model.proofs.steps.CopiedIds.{IsMap-with_base, of_base, value-with_base, with_base}
use Rattle.ecs_model.proofs.steps.CycleTests.{none_closes}
use Rattle.ecs_model.proofs.steps.Facts.{key_there, live_listed}
use Rattle.ecs_model.proofs.steps.LivingIds.{refuted}
use Rattle.ecs_model.proofs.steps.Additions.{IsAddition, MayCome, addition_keeps, facts_live_after}
use Rattle.ecs_model.proofs.steps.Removals.{removal_keeps}
use Rattle.ecs_model.proofs.steps.SameKeys.{same_keys}
use Rattle.ecs_model.proofs.steps.ReplacedFacts.{IsMap-add, added_there, value-add}
use Rattle.ecs_model.proofs.MadeEntities.{there}

-- what follows for a world whose facts mention live entities: no entity holds too many ids
few_ids : (w : WorldState) (facts : Map Key (List ℤ)) → ((f : ℕ) (j : Id) → has_key key_cmp facts (f, j) ≡ true → (is_live w f ≡ true) × (list_all (is_live w) (mentioned j) ≡ true))
    → is_crowded (with_facts w facts) ≡ false → (f : ℕ) → length (ids_of (with_facts w facts) f) ≤ 64
few_ids w facts live crowd f = by (is_live w f) refl
  where
    crowded : ℕ → Bool
    crowded g = nat_lt 64 (length (ids_of (with_facts w facts) g))

    at_most : (n : ℕ) → nat_lt 64 n ≡ false → n ≤ 64
    at_most n h = grind (arith, nat_tests)

    by : (b : Bool) → is_live w f ≡ b → length (ids_of (with_facts w facts) f) ≤ 64
    by true alive =
        at_most (length (ids_of (with_facts w facts) f))
        (refuted (crowded f) (λ t. true≢false (sym (any_passes crowded (entities w) f (live_listed w f alive) t) ∙ crowd)))
    by false dead =
        let empty : ids_of (with_facts w facts) f ≡ [] =
        none_held f facts (λ j. refuted (has_key key_cmp facts (f, j)) (λ held. true≢false (sym (live f j held).0 ∙ dead))) in
        subst (λ is. length is ≤ 64) (sym empty) (omega arith)

-- what no member of a list passes
none_pass : {A : Type 0} (p : A → Bool) (xs : List A) → list_any p xs ≡ false → (x : A) → Contains xs x → p x ≡ false
none_pass p xs h x c = refuted (p x) (λ t. true≢false (sym (any_passes p xs x c t) ∙ h))

-- where none of these is dead, nothing comes to a built-in entity and no trait changes, the added set may come
pub may_come : (w : WorldState) (e : EntityId) (i : Id) → IsWellFormed w → is_dead w e i ≡ false → adds_built_in w e.index i ≡ false → changes_trait w e.index i ≡ false → MayCome w e.index i
may_come w e i h dead built fixed = record {
  live = there (value_at nat_cmp w.live e.index) e.generation (denied (is_alive w e) alive.0);
  mentions = mentions;
  own = λ k n. (neither (is_built_in k.0) (id_eq k.1 (plain component)) (none_pass on_built_in (keys (added w e.index i)) built k (member k n))).0;
  fixed = λ k n new is. unused (holds w k.0 k.1) (is_trait k.1) (is_used (ids_of w) (entities w) k.0) (is_pinned w k.0) new is (none_pass changed (keys (added w e.index i)) fixed k (member k n));
}
  where
    alive : (not (is_alive w e) ≡ false) × (not (list_all (is_live w) (mentioned i)) ≡ false)
    alive = neither (not (is_alive w e)) (not (list_all (is_live w) (mentioned i))) dead

    mentions : list_all (is_live w) (mentioned i) ≡ true
    mentions = denied (list_all (is_live w) (mentioned i)) alive.1

    on_built_in : Key → Bool
    on_built_in k = is_built_in k.0 || id_eq k.1 (plain component)

    changed : Key → Bool
    changed k = not (holds w k.0 k.1) && is_trait k.1 && (is_used (ids_of w) (entities w) k.0 || is_pinned w k.0)

    member : (k : Key) → IsAdded (ids_of w) (e.index, i) k → Contains (keys (added w e.index i)) k
    member k n = key_there key_cmp key_cmp_same (added w e.index i) k ((added_are_members w e.index i h mentions k).1 n)

    unused : (a b c d : Bool) → a ≡ false → b ≡ true → (not a && b && (c || d)) ≡ false → c ≡ false
    unused false true true d p q r = r
    unused false true false d p q r = refl
    unused true b c d p q r = absurd (true≢false p)
    unused false false c d p q r = absurd (true≢false (sym q))

-- the added set, and copies from any base, are such a change
pub base_is_addition : (w : WorldState) (e : ℕ) (i : Id) (o : Option ℕ) → IsWellFormed w → list_all (is_live w) (mentioned i) ≡ true
    → IsAddition w e i o (with_base w e i (facts_with_added w e i) o)
base_is_addition w e i o h m = record {
  in_order = IsMap-with_base w e i facts o (IsMap-add w e i (h.in_order).facts);
  there = λ q n.
      elim (value-with_base w e i facts o q) [
        | inl p ↦ ap is_some p.4 ∙ of_base w e i p.0 q.1 p.3
        | inr p ↦ elim n [ inl a ↦ ap is_some p.1 ∙ added_there w e i q ((added_are_members w e i h m q).1 a) | inr c ↦ absurd (p.0 c) ]
      ];
  each = λ q.
      elim (value-with_base w e i facts o q) [
        | inl p ↦ inl (inr (p.0, p.1, p.2, p.3), λ x found. of_some (IsTyped (type_of_id w q.1)) (value_of w p.0 q.1) (h.typed p.0 q.1) x (sym p.4 ∙ found))
        | inr p ↦ elim (value-add w e i q) [
          | inl n ↦ inl (
            inl ((added_are_members w e i h m q).0 n.0),
            λ x found. let same : Some (new_value w q.1) ≡ Some x = sym n.1 ∙ (sym p.1 ∙ found) in
                let is : new_value w q.1 ≡ x = cc in subst (IsTyped (type_of_id w q.1)) is (zeros_typed (type_of_id w q.1)),
          )
          | inr n ↦ inr (p.1 ∙ n)
        ]
      ];
}
  where
    facts : Map Key (List ℤ)
    facts = facts_with_added w e i

-- `add` is such a change
pub add_is_addition : (w : WorldState) (e : ℕ) (i : Id) → IsWellFormed w → list_all (is_live w) (mentioned i) ≡ true → IsAddition w e i (new_base w e i) (facts_after_add w e i)
unfolding facts_after_add
add_is_addition w e i h m = base_is_addition w e i (new_base w e i) h m

-- and so is `set`, with a value of the id's type
pub set_is_addition : (w : WorldState) (e : ℕ) (i : Id) (o : Option ℕ) (facts : Map Key (List ℤ)) (vs : List ℤ) → IsAddition w e i o facts → IsTyped (type_of_id w i) vs
    → IsAddition w e i o (with_value key_cmp facts (e, i) vs)
set_is_addition w e i o facts vs a fits = record {
  in_order = IsMap-with_value key_cmp key_cmp_total facts (e, i) vs a.in_order;
  there = λ q n. elim (fact_value_at facts (e, i) vs q) [ inl p ↦ ap is_some p.1 | inr p ↦ ap is_some p.1 ∙ a.there q n ];
  each = λ q.
      elim (fact_value_at facts (e, i) vs q) [
        | inl p ↦ inl (inl (rw (p.0) itself), λ x found. let same : Some vs ≡ Some x = sym p.1 ∙ found in let is : vs ≡ x = cc in rw (p.0, ← is) fits)
        | inr p ↦ elim (a.each q) [ inl n ↦ inl (n.0, λ x found. n.1 x (sym p.1 ∙ found)) | inr n ↦ inr (p.1 ∙ n) ]
      ];
}

-- an addition against which there is no reason: it may come, and what it leaves has no cycle and no entity with too many ids
pub record IsAccepted (w : WorldState) (e : EntityId) (i : Id) : Type 0 where
  pub may : MayCome w e.index i
  pub fixed : changes_trait w e.index i ≡ false
  acyclic : has_cycle (with_facts w (facts_after_add w e.index i)) ≡ false
  few : is_crowded (with_facts w (facts_after_add w e.index i)) ≡ false
  room : is_spent w ≡ false

accepted : (w : WorldState) (e : EntityId) (i : Id) → IsWellFormed w → is_dead w e i ≡ false → adds_built_in w e.index i ≡ false → first_reason (add_reasons w e.index i) ≡ None → IsAccepted w e i
accepted w e i h dead built r =
    let left : WorldState = with_facts w (facts_after_add w e.index i) in
    let fixed = passed (changes_trait w e.index i) TraitFixed ((has_cycle left, Cycle) ∷ (is_crowded left, TooManyIds) ∷ (is_spent w, Full) ∷ []) r in
    let acyclic = passed (has_cycle left) Cycle ((is_crowded left, TooManyIds) ∷ (is_spent w, Full) ∷ []) fixed.1 in
    let few = passed (is_crowded left) TooManyIds ((is_spent w, Full) ∷ []) acyclic.1 in
    record { may = may_come w e i h dead built fixed.0; fixed = fixed.0; acyclic = acyclic.0; few = few.0; room = (passed (is_spent w) Full [] few.1).0 }

pub accepted_add : (w : WorldState) (e : EntityId) (i : Id) → IsWellFormed w → first_reason (reasons w (Add e i)) ≡ None → IsAccepted w e i
unfolding reasons
accepted_add w e i h r =
    let dead = passed (is_dead w e i) Dead ((adds_built_in w e.index i, BuiltIn) ∷ add_reasons w e.index i) r in
    let own = passed (adds_built_in w e.index i) BuiltIn (add_reasons w e.index i) dead.1 in
    accepted w e i h dead.0 own.0 own.1

-- values against which there is no reason are of their id's type
values_typed : (o : Option Schema) (vs : List ℤ) (rs : List (Bool × Refusal)) → first_reason (value_reasons o vs ++ rs) ≡ None → IsTyped o vs × (first_reason rs ≡ None)
values_typed None vs rs r = absurd (true≢false (passed true NoData rs r).0)
values_typed (Some fs) vs rs r =
    let counted = passed (not (length vs == length fs)) Count ((not (all_fit fs vs), Range) ∷ rs) r in
    let ranged = passed (not (all_fit fs vs)) Range rs counted.1 in
    (((Decides-eqb (length vs) (length fs)).0 (denied (length vs == length fs) counted.0) ∙ sym (length-map fs _), denied (all_fit fs vs) ranged.0), ranged.1)

pub accepted_set : (w : WorldState) (e : EntityId) (i : Id) (vs : List ℤ) → IsWellFormed w → first_reason (reasons w (SetValue e i vs)) ≡ None
    → IsTyped (type_of_id w i) vs × IsAccepted w e i
unfolding reasons
accepted_set w e i vs h r =
    let dead = passed (is_dead w e i) Dead ((adds_built_in w e.index i, BuiltIn) ∷ (value_reasons (type_of_id w i) vs ++ add_reasons w e.index i)) r in
    let own = passed (adds_built_in w e.index i) BuiltIn (value_reasons (type_of_id w i) vs ++ add_reasons w e.index i) dead.1 in
    let typed = values_typed (type_of_id w i) vs (add_reasons w e.index i) own.1 in
    (typed.0, accepted w e i h dead.0 own.0 typed.1)

-- an accepted `add` leaves a well-formed world
pub keeps_add : (w : WorldState) (e : EntityId) (i : Id) → IsWellFormed w → first_reason (reasons w (Add e i)) ≡ None → IsWellFormed (counted (effect w (Add e i)))
unfolding effect
keeps_add w e i h r =
    let ok = accepted_add w e i h r in
    let a = add_is_addition w e.index i h (ok.may).mentions in
    let facts = facts_after_add w e.index i in
    let live = facts_live_after w e.index i (new_base w e.index i) facts h a ok.may in
    addition_keeps w e.index i (new_base w e.index i) facts h a ok.may ok.room (few_ids w facts live ok.few) (none_closes (with_facts w facts) live ok.acyclic)

-- an accepted `set` leaves a well-formed world: it holds what `add` leaves, with one more value
pub keeps_set : (w : WorldState) (e : EntityId) (i : Id) (vs : List ℤ) → IsWellFormed w → first_reason (reasons w (SetValue e i vs)) ≡ None
    → IsWellFormed (counted (effect w (SetValue e i vs)))
unfolding effect
keeps_set w e i vs h r = addition_keeps w e.index i (new_base w e.index i) set h (set_is_addition w e.index i (new_base w e.index i) facts vs a typed) ok.may ok.room few no_cycle
  where
    typed : IsTyped (type_of_id w i) vs
    typed = (accepted_set w e i vs h r).0

    ok : IsAccepted w e i
    ok = (accepted_set w e i vs h r).1

    facts : Map Key (List ℤ)
    facts = facts_after_add w e.index i

    set : Map Key (List ℤ)
    set = with_value key_cmp facts (e.index, i) vs

    a : IsAddition w e.index i (new_base w e.index i) facts
    a = add_is_addition w e.index i h (ok.may).mentions

    live : (f : ℕ) (j : Id) → has_key key_cmp facts (f, j) ≡ true → (is_live w f ≡ true) × (list_all (is_live w) (mentioned j) ≡ true)
    live = facts_live_after w e.index i (new_base w e.index i) facts h a ok.may

    held : has_key key_cmp facts (e.index, i) ≡ true
    held = a.there (e.index, i) (inl itself)

    same_keys : keys set ≡ keys facts
    same_keys = keys-with_value key_cmp key_cmp_total facts (e.index, i) vs a.in_order held

    same_ids : ids_of (with_facts w set) ≡ ids_of (with_facts w facts)
    same_ids = λ j f. filter_map (λ (k : Key). if k.0 == f then Some k.1 else None) (same_keys j)

    few : (f : ℕ) → length (ids_of (with_facts w set) f) ≤ 64
    few f = subst (λ ids. length (ids f) ≤ 64) (sym same_ids) (few_ids w facts live ok.few f)

    before : (q : Key) → has_key key_cmp set q ≡ true → has_key key_cmp facts q ≡ true
    before q there = elim (fact_value_at facts (e.index, i) vs q) [ inl p ↦ rw (p.0) held | inr p ↦ sym (ap is_some p.1) ∙ there ]

    no_cycle : (r : ℕ) → has_key key_cmp set (r, plain acyclic) ≡ true → IsAcyclic (ids_of (with_facts w set)) r
    no_cycle r there = subst (λ ids. IsAcyclic ids r) (sym same_ids) (none_closes (with_facts w facts) live ok.acyclic r (before (r, plain acyclic) there))

-- so are facts of which the same are held as after an accepted `add`, if what comes has values of its type
pub held_alike_keep : (w : WorldState) (e : EntityId) (i : Id) (facts : Map Key (List ℤ)) → IsWellFormed w → first_reason (reasons w (Add e i)) ≡ None → IsAddition w e.index i (new_base w e.index i) facts
    → ((q : Key) → has_key key_cmp facts q ≡ has_key key_cmp (facts_after_add w e.index i) q) → IsWellFormed (counted (with_facts w facts))
held_alike_keep w e i facts h r a alike = addition_keeps w e.index i (new_base w e.index i) facts h a ok.may ok.room few no_cycle
  where
    ok : IsAccepted w e i
    ok = accepted_add w e i h r

    after : Map Key (List ℤ)
    after = facts_after_add w e.index i

    added_so : IsAddition w e.index i (new_base w e.index i) after
    added_so = add_is_addition w e.index i h (ok.may).mentions

    live : (f : ℕ) (j : Id) → has_key key_cmp after (f, j) ≡ true → (is_live w f ≡ true) × (list_all (is_live w) (mentioned j) ≡ true)
    live = facts_live_after w e.index i (new_base w e.index i) after h added_so ok.may

    keys_alike : keys facts ≡ keys after
    keys_alike = same_keys key_cmp key_cmp_total key_cmp_same facts after a.in_order added_so.in_order alike

    same_ids : ids_of (with_facts w facts) ≡ ids_of (with_facts w after)
    same_ids = λ j f. filter_map (λ (k : Key). if k.0 == f then Some k.1 else None) (keys_alike j)

    few : (f : ℕ) → length (ids_of (with_facts w facts) f) ≤ 64
    few f = subst (λ ids. length (ids f) ≤ 64) (sym same_ids) (few_ids w after live ok.few f)

    no_cycle : (r : ℕ) → has_key key_cmp facts (r, plain acyclic) ≡ true → IsAcyclic (ids_of (with_facts w facts)) r
    no_cycle r there = subst (λ ids. IsAcyclic ids r) (sym same_ids) (none_closes (with_facts w after) live ok.acyclic r (sym (alike (r, plain acyclic)) ∙ there))

-- an accepted `remove` leaves a well-formed world
pub keeps_remove : (w : WorldState) (e : EntityId) (i : Id) → IsWellFormed w → first_reason (reasons w (Remove e i)) ≡ None → IsWellFormed (counted (effect w (Remove e i)))
unfolding reasons effect
keeps_remove w e i h r =
    let dead = passed (is_dead w e i) Dead ((is_built_in e.index || id_eq i (plain component), BuiltIn) ∷ (is_trait i, TraitFixed) ∷ (is_spent w, Full) ∷ []) r in
    let own = passed (is_built_in e.index || id_eq i (plain component)) BuiltIn ((is_trait i, TraitFixed) ∷ (is_spent w, Full) ∷ []) dead.1 in
    let fixed = passed (is_trait i) TraitFixed ((is_spent w, Full) ∷ []) own.1 in
    removal_keeps w e.index i h (neither (is_built_in e.index) (id_eq i (plain component)) own.0).0 fixed.0 (passed (is_spent w) Full [] fixed.1).0
