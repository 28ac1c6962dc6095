-- Where too many ids are: only an entity to which facts were added can have more than it may have.
use Rattle.std.proofs.Common.{◌≡◌, ℕ, ◌<◌, ◌≤◌, ◌==◌, ◌↔◌, Bool, true, false, List, [], ◌∷◌, length, refl, sym, ap, ◌∙◌, arith, true≢false}
use Rattle.std.specs.Prelude.{ℤ, Option, Some, None, filter_map, fold, nat_lt, if◌then◌else◌}
use Rattle.std.specs.List.{Contains, list_all, list_any}
use Rattle.std.proofs.lemmas.Bool.Decides.{nat_tests}
use Rattle.std.proofs.lemmas.List.Elements.{Contains-append_right}
use Rattle.ecs_id.specs.Id.{Id, mentioned}
use Rattle.ecs_model.specs.Added.{IsAdded}
use Rattle.ecs_model.specs.steps.FactChanges.{added, copied, facts_with_added, with_new}
use Rattle.ecs_model.specs.steps.Outcomes.{is_crowded, with_facts}
use Rattle.ecs_model.specs.Map.{Map, has_key, keys, with_value, without}
use Rattle.ecs_model.specs.Reach.{itself}
use Rattle.ecs_model.specs.World.{WorldState, Key, key_cmp, entities, ids_of, is_live, most_ids, new_value}
use Rattle.ecs_model.specs.steps.WellFormed.{IsWellFormed}
use Rattle.ecs_model.proofs.Maps.{filter_map-with_value, key_cmp_same, key_cmp_total}
use Rattle.ecs_model.proofs.Members.{any_passes, eq_same, passing}
use Rattle.ecs_model.proofs.Removals.{fewer}
use Rattle.ecs_model.proofs.steps.AddedSets.{added_are_members, added_form, form_lives}
use Rattle.ecs_model.proofs.steps.CopiedIds.{base_value, with_base, with_each}
use Rattle.ecs_model.proofs.steps.Facts.{key_there, live_listed, there_key}
use Rattle.ecs_model.proofs.steps.LivingIds.{refuted}
use Rattle.ecs_model.proofs.steps.ReplacedFacts.{is_replaced}

module _ (w : WorldState) (x : ℕ) where
  abbrev own : Key → Option Id
  own k = if k.0 == x then Some k.1 else None

  new_alike : (m : Map Key (List ℤ)) (k : Key) → (k.0 == x) ≡ false → filter_map own (keys (with_new w m k)) ≡ filter_map own (keys m)
  new_alike m k apart = by (has_key key_cmp m k)
    where
      by : (b : Bool) → filter_map own (keys (if b then m else with_value key_cmp m k (new_value w k.1))) ≡ filter_map own (keys m)
      by true = refl
      by false = filter_map-with_value key_cmp key_cmp_total own m k (new_value w k.1) (ap (λ b. if b then Some k.1 else None) apart)

  -- facts of others change nothing of an entity's ids
  others_alike : (ks : List Key) (m : Map Key (List ℤ)) → ((k : Key) → Contains ks k → (k.0 == x) ≡ false) → filter_map own (keys (fold (with_new w) m ks)) ≡ filter_map own (keys m)
  others_alike [] m apart = refl
  others_alike (k ∷ ks) m apart =
      others_alike ks (with_new w m k) (λ j c. apart j (Contains-append_right (k ∷ []) ks j c)) ∙ new_alike m k (apart k (0, omega arith, refl))

  -- nor do copies
  copies_alike : (e : ℕ) (value : Id → List ℤ) (cs : List Id) (m : Map Key (List ℤ)) → (e == x) ≡ false → filter_map own (keys (with_each e value m cs)) ≡ filter_map own (keys m)
  copies_alike e value [] m apart = refl
  copies_alike e value (c ∷ cs) m apart =
      copies_alike e value cs (with_value key_cmp m (e, c) (value c)) apart
      ∙ filter_map-with_value key_cmp key_cmp_total own m (e, c) (value c) (ap (λ b. if b then Some c else None) apart)

  base_alike : (e : ℕ) (i : Id) (o : Option ℕ) (m : Map Key (List ℤ)) → (e == x) ≡ false → filter_map own (keys (with_base w e i m o)) ≡ filter_map own (keys m)
  base_alike e i None m apart = refl
  base_alike e i (Some b) m apart = copies_alike e (base_value w b) (copied w e i b) m apart

  -- so who gets none has no more than before
  no_more : (e : ℕ) (i : Id) (o : Option ℕ) → (e == x) ≡ false → ((k : Key) → Contains (keys (added w e i)) k → (k.0 == x) ≡ false)
      → length (ids_of (with_facts w (with_base w e i (facts_with_added w e i) o)) x) ≤ length (ids_of w x)
  unfolding facts_with_added
  no_more e i o other apart =
      let copies = ap length (base_alike e i o (facts_with_added w e i) other) in
      let same = ap length (others_alike (keys (added w e i)) (without key_cmp w.facts (is_replaced w e i)) apart) in
      let less = fewer own w.facts (is_replaced w e i) in
      omega (arith, copies, same, less)

many : (n : ℕ) → nat_lt most_ids n ≡ true → most_ids < n
many n h = grind (arith, nat_tests)

too_many : (n : ℕ) → most_ids < n → nat_lt most_ids n ≡ true
too_many n h = grind (arith, nat_tests)

module _ (w : WorldState) (e : ℕ) (i : Id) (o : Option ℕ) (h : IsWellFormed w) (alive : is_live w e ≡ true) (mentions : list_all (is_live w) (mentioned i) ≡ true) where
  abbrev left : WorldState
  left = with_facts w (with_base w e i (facts_with_added w e i) o)

  abbrev IsNew : Key → Type 0
  IsNew k = IsAdded (ids_of w) (e, i) k

  abbrev is_full : ℕ → Bool
  is_full x = nat_lt most_ids (length (ids_of left x))

  -- who has too many ids got one of the added facts
  got_one : (x : ℕ) → most_ids < length (ids_of left x) → (k : Key) × IsNew k × (k.0 ≡ x)
  got_one x much = by (list_any (λ k. k.0 == x) (keys (added w e i))) refl
    where
      by : (b : Bool) → list_any (λ k. k.0 == x) (keys (added w e i)) ≡ b → (k : Key) × IsNew k × (k.0 ≡ x)
      by true t =
          let k = passing (λ k. k.0 == x) (keys (added w e i)) t in
          (k.0, (added_are_members w e i h mentions k.0).0 (there_key key_cmp key_cmp_total (added w e i) k.0 k.1), eq_same (k.0).0 x k.2)
      by false t =
          let apart = λ (k : Key) (c : Contains (keys (added w e i)) k). refuted (k.0 == x) (λ s. true≢false (sym (any_passes (λ k. k.0 == x) (keys (added w e i)) k c s) ∙ t)) in
          let itself = key_there key_cmp key_cmp_same (added w e i) (e, i) ((added_are_members w e i h mentions (e, i)).1 itself) in
          absurd (omega (arith, no_more w x e i o (apart (e, i) itself) apart, h.few_ids x))

  pub crowded_is_told : (is_crowded left ≡ true) ↔ ((k : Key) × IsNew k × (most_ids < length (ids_of left k.0)))
  crowded_is_told = (
    λ c. let x = passing is_full (entities w) c in
        let k = got_one x.0 (many (length (ids_of left x.0)) x.2) in
        (k.0, k.1, rw (k.2) (many (length (ids_of left x.0)) x.2)),
    λ k. let form = added_form w h e i mentions k.1 in
        any_passes is_full (entities w) (k.0).0 (live_listed w (k.0).0 (form_lives w e i form.0 k.0 alive mentions form.1 form.2).0) (too_many (length (ids_of left (k.0).0)) k.2),
  )
