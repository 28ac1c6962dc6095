-- The ids that an entity held before a command: those that it holds now and that haven't come, and those that went, in order.
use Rattle.std.specs.Prelude.{◌≡◌, ◌↔◌, ◌⊎◌, ℕ, ◌==◌, Bool, true, false, not, ◌&&◌, IsTrue, List, ◌++◌, filter, map, Ok}
use Rattle.std.specs.Cmp.{eq_by_cmp_equiv}
use Rattle.std.specs.List.{Contains, dedup, list_any}
use Rattle.std.specs.List.Sorted.{IsPermutation, IsSorted}
use Rattle.std.proofs.Common.{refl, sym, ap, subst, ◌∙◌, inl, inr, true≢false}
use Rattle.std.proofs.lemmas.List.Elements.{Contains-append_cases, Contains-append_left, Contains-append_right}
use Rattle.std.proofs.lemmas.List.Kept.{Contains-dedup, Contains-from_dedup, IsStrictlySortedBy-dedup}
use Rattle.std.proofs.lemmas.List.Sorted.{Contains-permutation, IsPermutation-sym}
use Rattle.std.proofs.lemmas.Map.Views.{Contains-from_any, list_any-from_Contains}
use Rattle.ecs_id.specs.Id.{Id, id_cmp, id_cmp_same, id_cmp_total, id_eq, id_eq_equiv, id_eq_same}
use Rattle.ecs_model.specs.steps.Outcomes.{Changed}
use Rattle.ecs_model.specs.World.{WorldState, Key, key_cmp, key_eq, holds, ids_of}
use Rattle.ecs_model.specs.steps.Step.{Command, step}
use Rattle.ecs_model.specs.steps.WellFormed.{IsWellFormed}
use Rattle.ecs_model.proofs.Maps.{key_cmp_total}
use Rattle.ecs_model.proofs.Members.{eq_itself, eq_same, filtered}
use Rattle.ecs_model.proofs.steps.AddedSets.{from_map, in_map}
use Rattle.ecs_model.proofs.steps.Facts.{held_listed, listed_held}
use Rattle.ecs_model.proofs.steps.ReplacedFacts.{key_eq_same}
use Rattle.watch_touched.proofs.RisingIds.{ids_rise, keys_rise, one_list}
use Rattle.watch_touched.proofs.WorldBefore.{has_gone, is_new}

-- a fact among others, by the test and as a member
pub among : (ks : List Key) (k : Key) → Contains ks k → list_any (key_eq k) ks ≡ true
among ks k h = list_any-from_Contains (eq_by_cmp_equiv key_cmp_total) k ks h

pub is_among : (ks : List Key) (k : Key) → list_any (key_eq k) ks ≡ true → Contains ks k
is_among ks k h = Contains-from_any key_eq_same k ks h

-- what is there now and isn't new was there, and so was what went
lasting_was : (before now : Bool) → now ≡ true → not (not before && now) ≡ true → before ≡ true
lasting_was true now l h = refl
lasting_was false true l h = absurd (true≢false (sym h))
lasting_was false false l h = absurd (true≢false (sym l))

gone_was : (before now : Bool) → (not now && before) ≡ true → before ≡ true
gone_was true now h = refl
gone_was false true h = absurd (true≢false (sym h))
gone_was false false h = absurd (true≢false (sym h))

-- and what was there is still there, and isn't new, or went
lasts_or_went : (before now : Bool) → before ≡ true → ((now ≡ true) × (not (not before && now) ≡ true)) ⊎ ((not now && before) ≡ true)
lasts_or_went true true h = inl (refl, refl)
lasts_or_went true false h = inr refl
lasts_or_went false now h = absurd (true≢false (sym h))

module _ (w v : WorldState) (c : Command) (changed : Changed) (kept : IsWellFormed w) (done : step w c ≡ Ok (v, changed)) (x : ℕ) where
  -- whether a fact of the entity has come, and the ids of those that went
  abbrev pub came : Id → Bool
  came i = list_any (key_eq (x, i)) changed.came

  abbrev pub went : List Id
  went = map (λ k. k.1) (filter (λ k. k.0 == x) changed.went)

  from_went : (i : Id) → Contains went i → holds w x i ≡ true
  from_went i h =
      let k = from_map (λ (k : Key). k.1) (filter (λ k. k.0 == x) changed.went) i h in
      let f = (filtered (λ k. k.0 == x) changed.went k.0).0 k.1 in
      let same : k.0 ≡ (x, i) = λ j. (eq_same (k.0).0 x f.1 j, k.2 j) in
      gone_was (holds w x i) (holds v x i) (sym (has_gone w v c changed kept done (x, i)) ∙ among changed.went (x, i) (subst (Contains changed.went) same f.0))

  in_went : (i : Id) → (not (holds v x i) && holds w x i) ≡ true → Contains went i
  in_went i h =
      let there = is_among changed.went (x, i) (has_gone w v c changed kept done (x, i) ∙ h) in
      in_map (λ (k : Key). k.1) (filter (λ k. k.0 == x) changed.went) (x, i) ((filtered (λ k. k.0 == x) changed.went (x, i)).1 (there, eq_itself x))

  -- these are the ids of the world before
  module _ (now : List Id) (now_are : (i : Id) → Contains now i ↔ IsTrue (holds v x i)) where
    abbrev pub lasting : List Id
    lasting = filter (λ i. not (came i)) now

    members : (i : Id) → Contains (lasting ++ went) i ↔ IsTrue (holds w x i)
    members i = (from, into)
      where
        from : Contains (lasting ++ went) i → IsTrue (holds w x i)
        from h = elim (Contains-append_cases lasting went i h) [
          | inl l ↦
              let f = (filtered (λ i. not (came i)) now i).0 l in
              lasting_was (holds w x i) (holds v x i) ((now_are i).0 f.0) (sym (ap not (is_new w v c changed kept done (x, i))) ∙ f.1)
          | inr g ↦ from_went i g
        ]

        into : IsTrue (holds w x i) → Contains (lasting ++ went) i
        into h = elim (lasts_or_went (holds w x i) (holds v x i) h) [
          | inl l ↦ Contains-append_left lasting went i ((filtered (λ i. not (came i)) now i).1 ((now_are i).1 l.0, ap not (is_new w v c changed kept done (x, i)) ∙ l.1))
          | inr g ↦ Contains-append_right lasting went i (in_went i g)
        ]

    pub sorted_are_before : (old all mid new : List Id) → old ≡ lasting → all ≡ old ++ went → IsPermutation all mid → IsSorted id_cmp mid
        → new ≡ dedup id_eq mid → new ≡ ids_of w x
    sorted_are_before old all mid new stayed joined moved sorted once =
        let both : all ≡ lasting ++ went = joined ∙ ap (λ is. is ++ went) stayed in
        once ∙ one_list id_cmp id_cmp_total id_cmp_same (dedup id_eq mid) (ids_of w x)
        (IsStrictlySortedBy-dedup id_cmp_total (λ a b. refl) mid sorted)
        (ids_rise x _ (keys_rise key_cmp w.facts (kept.in_order).facts))
        (λ i. (
          λ h. held_listed w x i ((members i).0 (subst (λ is. Contains is i) both (Contains-permutation mid all i (IsPermutation-sym all mid moved) (Contains-from_dedup id_eq mid i h)))),
          λ h. Contains-dedup id_eq_equiv id_eq_same mid i (Contains-permutation all mid i moved (subst (λ is. Contains is i) (sym both) ((members i).1 (listed_held w x i h)))),
        ))

  -- an entity of which no fact came or went held the same ids
  pub same_held : (before now : Bool) → (not before && now) ≡ false → (not now && before) ≡ false → before ≡ now
  same_held true true a b = refl
  same_held false false a b = refl
  same_held true false a b = absurd (true≢false b)
  same_held false true a b = absurd (true≢false a)

  pub same_ids : IsWellFormed v → ((i : Id) → came i ≡ false) → ((i : Id) → list_any (key_eq (x, i)) changed.went ≡ false) → ids_of w x ≡ ids_of v x
  same_ids kept_now none_came none_went =
      one_list id_cmp id_cmp_total id_cmp_same (ids_of w x) (ids_of v x)
      (ids_rise x _ (keys_rise key_cmp w.facts (kept.in_order).facts)) (ids_rise x _ (keys_rise key_cmp v.facts (kept_now.in_order).facts))
      (λ i. (
        λ h. held_listed v x i (sym (same i) ∙ listed_held w x i h),
        λ h. held_listed w x i (same i ∙ listed_held v x i h),
      ))
    where
      same : (i : Id) → holds w x i ≡ holds v x i
      same i = same_held (holds w x i) (holds v x i) (sym (is_new w v c changed kept done (x, i)) ∙ none_came i) (sym (has_gone w v c changed kept done (x, i)) ∙ none_went i)
