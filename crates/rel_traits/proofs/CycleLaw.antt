-- The test of the added facts says whether an acyclic relationship has a cycle afterwards.
use Rattle.std.proofs.Common.{◌≡◌, ◌↔◌, ◌⊎◌, ℕ, ◌==◌, Bool, true, false, List, Some, None, refl, sym, ap, subst, ◌∙◌, inl, inr, arith, true≢false}
use Rattle.std.specs.List.{Contains, list_any}
use Rattle.ecs_id.specs.Id.{Id, plain, pair, first_of, second_of, rank, id_eq, id_eq_itself, id_eq_same}
use Rattle.ecs_model.specs.World.{Key, key_eq}
use Rattle.ecs_model.specs.Added.{IsAdded, IsReplaced, is_used}
use Rattle.ecs_model.specs.BuiltIns.{acyclic}
use Rattle.ecs_model.specs.Cycles.{HasCycle}
use Rattle.ecs_model.specs.Links.{AreLinks, is_held, target_under, upward}
use Rattle.ecs_model.specs.Reach.{Reached, itself, onward}
use Rattle.ecs_model.proofs.LivePairs.{of_pair, pair_of}
use Rattle.ecs_model.proofs.Maps.{eq_itself, key_cmp_total}
use Rattle.ecs_model.specs.World.{key_cmp}
use Rattle.ecs_model.proofs.Members.{any_passes, from_filter_map, in_filter_map, passing}
use Rattle.ecs_model.proofs.Members.{eq_itself as number_itself}
use Rattle.rel_traits.specs.After.{AddedFactsClose, ClosesOne, FreshAreAcyclic, HasBannedCycle, IsAfter, IsAfterAdding, IsTurned, TellsCycles}
use Rattle.rel_traits.proofs.CyclePairs.{one_way_pairs_close, gone, others_stay_open, wider_cycle}
use Rattle.rel_traits.proofs.SortedFacts.{key_eq_same}
use Rattle.rel_traits.proofs.AddedSets.{is_along, is_back, joined, pair_only, plain_only}

pub held_in : (js : List Id) (i : Id) → is_held js i ≡ true → Contains js i
held_in js i h = let j = passing (λ j. id_eq j i) js h in subst (λ k. Contains js k) (id_eq_same j.0 i j.2) j.1

pub in_held : (js : List Id) (i : Id) → Contains js i → is_held js i ≡ true
in_held js i h = any_passes (λ j. id_eq j i) js i h (id_eq_itself i)

leads_in : (ids : ℕ → List Id) (r x y : ℕ) → Contains (upward ids r x) y → Contains (ids x) (pair r y)
leads_in ids r x y h = let i = from_filter_map (target_under r) (ids x) y h in subst (λ j. Contains (ids x) j) (of_pair r y i.0 i.2) i.1

in_leads : (ids : ℕ → List Id) (r x y : ℕ) → Contains (ids x) (pair r y) → Contains (upward ids r x) y
in_leads ids r x y h = in_filter_map (target_under r) (ids x) (pair r y) y h (pair_of r y (pair r y) refl)

-- whether a fact is in a list
found_or_not : (ks : List Key) (k : Key) → Contains ks k ⊎ ¬ (Contains ks k)
found_or_not ks k = by (list_any (λ j. key_eq j k) ks) refl
  where
    by : (b : Bool) → list_any (λ j. key_eq j k) ks ≡ b → Contains ks k ⊎ ¬ (Contains ks k)
    by true e = let j = passing (λ j. key_eq j k) ks e in inl (subst (λ z. Contains ks z) (key_eq_same j.0 k j.2) j.1)
    by false e = inr (λ h. true≢false (sym (any_passes (λ j. key_eq j k) ks k h (eq_itself key_cmp key_cmp_total k)) ∙ e))

module _ (ids after : ℕ → List Id) (k : Key) (left : IsAfterAdding ids k after) where
  -- the steps of each relationship
  steps_after : (c : ℕ) → IsAfter ids k c (upward after c)
  steps_after c x y = (into, out)
    where
      into : Contains (upward after c x) y → IsAdded ids k (x, pair c y) ⊎ (Contains (upward ids c x) y × ¬ (IsReplaced ids k (x, pair c y)))
      into h = elim ((left x (pair c y)).0 (leads_in after c x y h)) [ inl a ↦ inl a | inr b ↦ inr (in_leads ids c x y b.0, b.1) ]

      out : IsAdded ids k (x, pair c y) ⊎ (Contains (upward ids c x) y × ¬ (IsReplaced ids k (x, pair c y))) → Contains (upward after c x) y
      out (inl a) = in_leads after c x y ((left x (pair c y)).1 (inl a))
      out (inr b) = in_leads after c x y ((left x (pair c y)).1 (inr (leads_in ids c x y b.0, b.1)))

-- a plain fact closes none
module _ {n : ℕ} {entities : List ℕ} {ids : ℕ → List Id} (links : AreLinks n entities ids) (after : ℕ → List Id) (e d : ℕ) (left : IsAfterAdding ids (e, plain d) after) where
  no_pair : (x c y : ℕ) → ¬ (IsAdded ids (e, plain d) (x, pair c y))
  no_pair x c y a = let p = plain_only ids e d a in let q : 1 ≡ 0 = ap (λ (k : Key). rank k.1) p.2 in absurd (omega (arith, q))

  were_steps : (c x y : ℕ) → Contains (upward after c x) y → Contains (upward ids c x) y
  were_steps c x y h = elim ((steps_after ids after (e, plain d) left c x y).0 h) [ inl a ↦ absurd (no_pair x c y a) | inr b ↦ b.0 ]

  in_use : (c x y : ℕ) → Contains (upward ids c x) y → is_used ids entities c ≡ true
  in_use c x y h =
      let i = leads_in ids c x y h in
      any_passes (λ z. list_any (λ j. first_of j == c) (ids z)) entities x (links.held x (pair c y) i) (any_passes (λ j. first_of j == c) (ids x) (pair c y) i (number_itself c))

  none_by_plain : FreshAreAcyclic entities ids (e, plain d) → ¬ (HasBannedCycle ids) → ¬ (HasBannedCycle after)
  none_by_plain fresh none (c, is, cycle) = none (c, was, wider_cycle (upward after c) (upward ids c) (were_steps c) cycle)
    where
      by_fresh : (is_held (ids c) (plain acyclic) ≡ true) ⊎ (is_used ids entities c ≡ false) → is_held (ids c) (plain acyclic) ≡ true
      by_fresh (inl h) = h
      by_fresh (inr u) = absurd (true≢false (sym (in_use c cycle.0 (cycle.1).0 (were_steps c cycle.0 (cycle.1).0 (cycle.1).1)) ∙ u))

      was : is_held (ids c) (plain acyclic) ≡ true
      was = elim ((left c (plain acyclic)).0 (held_in (after c) (plain acyclic) is)) [ inl a ↦ by_fresh (fresh c a) | inr b ↦ in_held (ids c) (plain acyclic) b.0 ]

-- a pair closes one where the test says so
module _ (ids after : ℕ → List Id) (e r t : ℕ) (ks : List Key) (exact : (z : Key) → Contains ks z ↔ IsAdded ids (e, pair r t) z) (left : IsAfterAdding ids (e, pair r t) after) where
  abbrev withs : ℕ → List ℕ
  withs = upward ids 13

  no_plain : (x c : ℕ) → ¬ (IsAdded ids (e, pair r t) (x, plain c))
  no_plain x c a =
      elim (pair_only ids e r t a) [
        | inl (d, p, same) ↦ let q : 0 ≡ 1 = ap (λ (k : Key). rank k.1) same in absurd (omega (arith, q))
        | inr (d, b, p, s, w, same) ↦ let q : 0 ≡ 1 = ap (λ (k : Key). rank k.1) same in absurd (omega (arith, q))
      ]

  not_pair : (x c : ℕ) (v d u : ℕ) → ¬ (◌≡◌ {A = Key} (x, plain c) (v, pair d u))
  not_pair x c v d u same = let q : 0 ≡ 1 = ap (λ (k : Key). rank k.1) same in absurd (omega (arith, q))

  plain_stays : (x c : ℕ) → ¬ (IsReplaced ids (e, pair r t) (x, plain c))
  plain_stays x c (k, p, h) =
      elim (pair_only ids e r t p) [
        | inl (d, q, same) ↦ let g = gone ids e d t (x, plain c) (rw same at h) in elim (g.1).2 [ inl m ↦ not_pair x c e d (g.1).0 m | inr m ↦ not_pair x c (g.1).0 d e m.1 ]
        | inr (d, b, q, s, w, same) ↦ let g = gone ids t d e (x, plain c) (rw same at h) in elim (g.1).2 [ inl m ↦ not_pair x c t d (g.1).0 m | inr m ↦ not_pair x c (g.1).0 d t m.1 ]
      ]

  was_acyclic : (c : ℕ) → is_held (after c) (plain acyclic) ≡ true → is_held (ids c) (plain acyclic) ≡ true
  was_acyclic c is = elim ((left c (plain acyclic)).0 (held_in (after c) (plain acyclic) is)) [ inl a ↦ absurd (no_plain c acyclic a) | inr b ↦ in_held (ids c) (plain acyclic) b.0 ]

  is_acyclic : (c : ℕ) → is_held (ids c) (plain acyclic) ≡ true → is_held (after c) (plain acyclic) ≡ true
  is_acyclic c was = in_held (after c) (plain acyclic) ((left c (plain acyclic)).1 (inr (held_in (ids c) (plain acyclic) was, plain_stays c acyclic)))

  abbrev next : ℕ → ℕ → List ℕ
  next c = upward after c

  new_step : (c x y : ℕ) → Contains ks (x, pair c y) → Contains (next c x) y
  new_step c x y h = (steps_after ids after (e, pair r t) left c x y).1 (inl ((exact (x, pair c y)).0 h))

  -- With leads to the relationship of an added pair
  led_to : (c : ℕ) → Contains ks (e, pair c t) → Reached withs r c
  led_to c h =
      elim (pair_only ids e r t ((exact (e, pair c t)).0 h)) [
        | inl (d, p, same) ↦ let q : c ≡ d = ap (λ (k : Key). first_of k.1) same in rw q p
        | inr (d, b, p, s, w, same) ↦ let q : c ≡ d = ap (λ (k : Key). first_of k.1) same in rw q (joined p w)
      ]

  one_way : (c : ℕ) → ¬ (Contains ks (t, pair c e)) → ¬ (IsTurned ids r c)
  one_way c none s = none ((exact (t, pair c e)).1 (is_back ids e r t (c, s.0, s.1, s.2, s.3, refl)))

  there_and_back : (c : ℕ) → Contains ks (e, pair c t) → Contains ks (t, pair c e) → HasCycle (next c)
  there_and_back c h b = (e, (t, new_step c e t h, onward itself (new_step c t e b)))

  module _ (none : ¬ (HasBannedCycle ids)) where
    open_before : (c : ℕ) → is_held (ids c) (plain acyclic) ≡ true → ¬ (HasCycle (upward ids c))
    open_before c was h = none (c, was, h)

    by_pair : (c : ℕ) → is_held (ids c) (plain acyclic) ≡ true → Contains ks (e, pair c t) → Reached (upward ids c) t e → HasCycle (next c)
    by_pair c was h back =
        elim (found_or_not ks (t, pair c e)) [
          | inl b ↦ there_and_back c h b
          | inr away ↦ (one_way_pairs_close ids e r t c (next c) (steps_after ids after (e, pair r t) left c) (open_before c was) (led_to c h) (one_way c away)).1 back
        ]

    closes_then : ClosesOne ids e ks → HasBannedCycle after
    closes_then (k, h, (u, some, was, how)) =
        elim (pair_only ids e r t ((exact k).0 h)) [
          | inl (d, p, same) ↦ at_own d same
          | inr (d, b, p, s, w, same) ↦ at_mirror d b p s w same
        ]
      where
        at_own : (d : ℕ) → k ≡ (e, pair d t) → HasBannedCycle after
        at_own d same =
            let first : first_of k.1 ≡ d = ap (λ (z : Key). first_of z.1) same in
            let end : Some u ≡ Some t = some ∙ ap (λ (z : Key). second_of z.1) same in
            let target : u ≡ t = cc in
            let trait : is_held (ids d) (plain acyclic) ≡ true = rw first at was in
            (d, is_acyclic d trait, by_pair d trait (rw same at h) (elim how [ inl apart ↦ absurd (apart (ap (λ (z : Key). z.0) same)) | inr back ↦ rw (first, target) at back ]))

        at_mirror : (d b : ℕ) → Reached withs r b → is_held (ids b) (plain 7) ≡ true → Reached withs b d → k ≡ (t, pair d e) → HasBannedCycle after
        at_mirror d b p s w same =
            let first : first_of k.1 ≡ d = ap (λ (z : Key). first_of z.1) same in
            (d, is_acyclic d (rw first at was), there_and_back d ((exact (e, pair d t)).1 (is_along ids e (pair r t) (d, joined p w, refl))) (rw same at h))

    then_closes : HasBannedCycle after → ClosesOne ids e ks
    then_closes (c, is, cycle) =
        elim (found_or_not ks (e, pair c t)) [
          | inl h ↦ elim (found_or_not ks (t, pair c e)) [ inl b ↦ by_mirror b (t == e) refl | inr away ↦ by_own h away ]
          | inr away ↦ absurd (others_stay_open ids e r t c (next c) (steps_after ids after (e, pair r t) left c) (open_before c was) (λ p. away ((exact (e, pair c t)).1 (is_along ids e (pair r t) (c, p, refl)))) cycle)
        ]
      where
        was : is_held (ids c) (plain acyclic) ≡ true
        was = was_acyclic c is

        by_own : Contains ks (e, pair c t) → ¬ (Contains ks (t, pair c e)) → ClosesOne ids e ks
        by_own h away =
            let back = (one_way_pairs_close ids e r t c (next c) (steps_after ids after (e, pair r t) left c) (open_before c was) (led_to c h) (one_way c away)).0 cycle in
            ((e, pair c t), h, (t, refl, was, inr back))

        by_mirror : Contains ks (t, pair c e) → (b : Bool) → (t == e) ≡ b → ClosesOne ids e ks
        by_mirror h true q = ((t, pair c e), h, (e, refl, was, inr itself))
        by_mirror h false q = ((t, pair c e), h, (e, refl, was, inl (λ same. true≢false (sym (rw same (number_itself e)) ∙ q))))

pub added_facts_close : AddedFactsClose
added_facts_close n entities ids links e ks (plain d) after exact left fresh none = (
  λ c. absurd (closes_none c),
  λ h. absurd (none_by_plain links after e d left fresh none h),
)
  where
    closes_none : ¬ (ClosesOne ids e ks)
    closes_none (k, h, (u, some, was, how)) =
        let p = plain_only ids e d ((exact k).0 h) in
        let end : Some u ≡ None = some ∙ ap (λ (z : Key). second_of z.1) p.2 in absurd cc
added_facts_close n entities ids links e ks (pair r t) after exact left fresh none = (closes_then ids after e r t ks exact left none, then_closes ids after e r t ks exact left none)

-- an answer that says whether one of the facts closes a cycle
pub told : {n : ℕ} {entities : List ℕ} {ids : ℕ → List Id} → AreLinks n entities ids → (e : ℕ) (ks : List Key) → {Says : Type 0} → Says ↔ ClosesOne ids e ks → TellsCycles entities ids e ks Says
told links e ks says i after exact left fresh none =
    let law = added_facts_close _ _ _ links e ks i after exact left fresh none in
    (λ h. law.0 (says.0 h), λ h. says.1 (law.1 h))
