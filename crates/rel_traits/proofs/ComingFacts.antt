-- What was found to come with a fact is what it brings and takes, and why it is refused.
use Rattle.std.proofs.Common.{◌≡◌, ◌↔◌, ◌∙◌, ◌⊎◌, ℕ, ◌+◌, ◌-◌, ◌<◌, ◌≤◌, ◌==◌, Bool, true, false, cond, ◌&&◌, ◌||◌, not, IsTrue, List, [], ◌∷◌, ◌++◌, length, get_or, is_some, Option, Some, None, true≢false, refl, sym, ap, subst, inl, inr, arith}
use Rattle.std.specs.Prelude.{IfSome, filter, filter_map, flat_map, map, nat_lt, if◌then◌else◌}
use Rattle.std.specs.Cmp.{eq_by_cmp_equiv}
use Rattle.std.specs.List.Sorted.{IsStrictlySortedBy}
use Rattle.std.proofs.lemmas.List.Kept.{IsStrictlySortedBy-filter}
use Rattle.std.specs.List.{All, Contains, cons_option, count_by, list_all, list_any}
use Rattle.std.specs.Option.{option_eq, option_map_or}
use Rattle.std.specs.Ordering.{nat_cmp}
use Rattle.std.proofs.lemmas.Bool.Decides.{nat_tests}
use Rattle.std.proofs.lemmas.List.Folds.{list_any-append}
use Rattle.std.proofs.lemmas.List.Elements.{All-append, All-cons, All-contains, All-nil, Contains-append_cases, Contains-append_left, Contains-append_right}
use Rattle.ecs_id.specs.declared.EntityId.{EntityId}
use Rattle.ecs_id.specs.Id.{Id, plain, pair, first_of, id_eq, mentioned, second_of}
use Rattle.ecs_model.specs.declared.faults.Refusal.{Refusal}
use Rattle.ecs_model.specs.declared.faults.Refusal.TheVariants.{TraitFixed, Cycle, TooManyIds, Full}
use Rattle.ecs_model.specs.Added.{IsAdded, brought, is_exclusive, is_symmetric, is_used}
use Rattle.ecs_model.specs.BuiltIns.{is_a, traversable}
use Rattle.ecs_model.specs.steps.Outcomes.{is_crowded, is_dead, is_spent, with_facts}
use Rattle.ecs_model.specs.Copied.{is_copied, is_inherited, is_withheld, stays_behind, takes}
use Rattle.ecs_model.specs.Links.{AreLinks, is_held, target_under}
use Rattle.ecs_model.specs.Map.{Map, count_at, has_key, keys, value_at, without}
use Rattle.ecs_model.specs.Reach.{IsLeast}
use Rattle.ecs_model.specs.Refusal.{first_reason}
use Rattle.ecs_model.specs.World.{WorldState, Key, key_cmp, key_eq, entities, holds, ids_of, is_alive, is_live, most_ids}
use Rattle.ecs_model.specs.steps.FactChanges.{added, coming, copied, facts_after_add, new_base, replaced}
use Rattle.ecs_model.specs.steps.Step.{add_reasons, adds_built_in, changes_trait, has_cycle}
use Rattle.ecs_model.specs.steps.WellFormed.{IsWellFormed}
use Rattle.ecs_model.specs.steps.Rules.{is_trait}
use Rattle.ecs_model.proofs.Maps.{key_cmp_same, key_cmp_total, some_of}
use Rattle.ecs_model.proofs.Members.{alike, and_true, any_passes, both, eq_itself, filtered, from_or, head_or_tail, or_left, or_right, passing}
use Rattle.ecs_model.proofs.Removals.{IsMap-without, value_at-without}
use Rattle.ecs_model.proofs.steps.AddedSets.{HasForm, added_are_members, added_form, from_map, in_map}
use Rattle.ecs_model.proofs.steps.AddEffects.{IsMap-added}
use Rattle.ecs_model.proofs.steps.CopiedIds.{CopiedFrom, IsMap-coming, coming_at, no_trait, not_held}
use Rattle.ecs_model.proofs.steps.CrowdedEntities.{crowded_is_told}
use Rattle.ecs_model.proofs.steps.Cycles.{cycle_by_found}
use Rattle.ecs_model.proofs.steps.FoundLists.{base_by_found, base_found, copied_by_found}
use Rattle.ecs_model.proofs.steps.Facts.{is_held-holds, key_there, listed_live, live_listed, there_key}
use Rattle.ecs_model.proofs.steps.LivingIds.{all_pass, each_passes}
use Rattle.ecs_model.proofs.steps.ReplacedFacts.{gives_way, key_eq_same, replaced_in}
use Rattle.ecs_model.proofs.steps.SameKeys.{keys-left}
use Rattle.rel_traits.specs.After.{ClosesOne}
use Rattle.rel_traits.specs.FactLists.{GivesWay, IsListOf, IsOfLive, is_fact}
use Rattle.rel_traits.specs.Additions.{TellsAddition}
use Rattle.rel_traits.specs.Copies.{IsJoined, base_among, copies_of_base, copy_of, is_copied_own, takes_own}
use Rattle.rel_traits.specs.Sees.{HasCounts, Sees}
use Rattle.rel_traits.proofs.HeldCounts.{has_too_many, is_own}
use Rattle.rel_traits.proofs.UniqueLists.{is_keys}
use Rattle.rel_traits.proofs.SeenWorlds.{is_filter, of_world}

-- tests by two lists are tests of both together
module _ (held : List Id) (e : ℕ) where
  abbrev own_of : Key → Option Id
  own_of k = if k.0 == e then Some k.1 else None

  abbrev own_with : List Key → List Id
  own_with added = held ++ filter_map own_of added

  any_given : (p : Id → Bool) (added : List Key) → list_any p (filter_map own_of added) ≡ list_any (λ k. k.0 == e && p k.1) added
  any_given p [] = refl
  any_given p (k ∷ ks) = by (k.0 == e) (any_given p ks)
    where
      by : (b : Bool) → list_any p (filter_map own_of ks) ≡ list_any (λ k. k.0 == e && p k.1) ks
          → list_any p (cons_option (cond b (Some k.1) None) (filter_map own_of ks)) ≡ ((b && p k.1) || list_any (λ k. k.0 == e && p k.1) ks)
      by true rest = ap (λ c. p k.1 || c) rest
      by false rest = rest

  any_own : (p : Id → Bool) (added : List Key) → list_any p (own_with added) ≡ (list_any p held || list_any (λ k. k.0 == e && p k.1) added)
  any_own p added = list_any-append p held (filter_map own_of added) ∙ ap (λ b. list_any p held || b) (any_given p added)

module _ (ids : ℕ → List Id) (e : ℕ) (added : List Key) where
  takes_is : (c : Id) → takes_own (ids (first_of c)) (ids e) e added c ≡ takes ids (own_with (ids e) e added) c
  takes_is (plain c) = refl
  takes_is (pair r t) =
      ap (λ b. not (is_held (ids r) (plain traversable)) && not (is_symmetric ids r) && not (is_exclusive ids r && b)) (sym (any_own (ids e) e (λ j. is_some (target_under r j)) added))

  copied_is : (c : Id) → is_copied_own ids e added c ≡ is_copied ids (own_with (ids e) e added) c
  copied_is c = λ j.
      not (is_inherited ids (first_of c)) && not (is_withheld ids (first_of c)) && not (stays_behind c)
      && not (sym (any_own (ids e) e (λ x. id_eq x c) added) j) && takes_is c j

  one_by_one : (xs : List Id) → flat_map (copy_of ids e added) xs ≡ map (λ c. (e, c)) (filter (is_copied ids (own_with (ids e) e added)) xs)
  one_by_one [] = refl
  one_by_one (x ∷ xs) = start (one_by_one xs) ∙ by (is_copied ids (own_with (ids e) e added) x)
    where
      rest : List Id
      rest = filter (is_copied ids (own_with (ids e) e added)) xs

      one : Bool → List Key
      one b = cond b ((e, x) ∷ []) []

      start : flat_map (copy_of ids e added) xs ≡ map (λ c. (e, c)) rest → flat_map (copy_of ids e added) (x ∷ xs) ≡ one (is_copied ids (own_with (ids e) e added) x) ++ map (λ c. (e, c)) rest
      start more = ap (λ b. one b ++ flat_map (copy_of ids e added) xs) (copied_is x) ∙ ap (λ ks. one (is_copied ids (own_with (ids e) e added) x) ++ ks) more

      by : (b : Bool) → one b ++ map (λ c. (e, c)) rest ≡ map (λ c. (e, c)) (cond b (x ∷ rest) rest)
      by true = refl
      by false = refl

-- all that live, by the world's test
all_live : (w : WorldState) (i : Id) → All (Contains (entities w)) (mentioned i) → list_all (is_live w) (mentioned i) ≡ true
all_live w i a = all_pass (is_live w) (mentioned i) (λ x c. listed_live w x (All-contains (Contains (entities w)) (mentioned i) x a c))

module _ (w : WorldState) (h : IsWellFormed w) (k : Key) (live : Contains (entities w) k.0) (mentions : All (Contains (entities w)) (mentioned k.1)) where
  abbrev e : ℕ
  e = k.0

  abbrev i : Id
  i = k.1

  lives : is_live w e ≡ true
  lives = listed_live w e live

  all_mentioned : list_all (is_live w) (mentioned i) ≡ true
  all_mentioned = all_live w i mentions

  -- what was found to be added
  module _ (all : List Key) (is : IsListOf (IsAdded (ids_of w) k) all) where
    pub added_are : all ≡ keys (added w e i)
    added_are =
        is_keys key_cmp key_cmp_total key_cmp_same (added w e i) (IsMap-added w e i) all is.ascends
        (λ z. (
          λ c. key_there key_cmp key_cmp_same (added w e i) z ((added_are_members w e i h all_mentioned z).1 ((is.exact z).0 c)),
          λ c. (is.exact z).1 ((added_are_members w e i h all_mentioned z).0 (there_key key_cmp key_cmp_total (added w e i) z c)),
        ))

    found_least : IsLeast (brought (ids_of w)) (k ∷ []) all
    found_least z = (
      λ c. (k, (0, omega arith, refl), (is.exact z).0 c),
      λ r. (is.exact z).1 (elim (head_or_tail k r.0 [] r.1) [ inl q ↦ rw q r.2 | inr n ↦ absurd (omega (arith, n.1)) ]),
    )

    turned : (z : Key) → list_any (λ x. key_eq x z) all ≡ list_any (key_eq z) all
    turned z =
        alike (list_any (λ x. key_eq x z) all) (list_any (key_eq z) all)
        (λ t. let x = passing (λ x. key_eq x z) all t in any_passes (key_eq z) all x.0 x.1 (rw (key_eq_same x.0 z x.2) ((eq_by_cmp_equiv key_cmp_total).refl z)))
        (λ t. let x = passing (key_eq z) all t in any_passes (λ y. key_eq y z) all x.0 x.1 (rw (← key_eq_same z x.0 x.2) ((eq_by_cmp_equiv key_cmp_total).refl z)))

    base_by : (e : ℕ) (i : Id) → base_among (ids_of w) (e, i) all ≡ base_found w e i all
    base_by e (plain c) = refl
    base_by e (pair r t) = λ j. if turned (e, pair is_a t) j && not (is_held-holds w e (pair is_a t) j) then Some t else None

    -- the base
    pub base_are : base_among (ids_of w) k all ≡ new_base w e i
    base_are = base_by e i ∙ sym (base_by_found w e i h all_mentioned all found_least)

    -- what is copied from it
    pub copies_are : copies_of_base (ids_of w) e all (base_among (ids_of w) k all) ≡ option_map_or (λ b. map (λ c. (e, c)) (copied w e i b)) (new_base w e i) []
    copies_are = by (base_among (ids_of w) k all) ∙ ap (λ o. option_map_or (λ b. map (λ c. (e, c)) (copied w e i b)) o []) base_are
      where
        by : (o : Option ℕ) → copies_of_base (ids_of w) e all o ≡ option_map_or (λ b. map (λ c. (e, c)) (copied w e i b)) o []
        by None = refl
        by (Some b) =
            one_by_one (ids_of w) e all (ids_of w b) ∙ ap (map (λ c. (e, c))) (sym (copied_by_found w e i h all_mentioned all found_least b))

    -- those that aren't held ascend
    news_ascend : (old : List Key) → old ≡ filter (λ z. not (is_fact (ids_of w) z)) all → IsStrictlySortedBy key_cmp old
    news_ascend old those = subst (IsStrictlySortedBy key_cmp) (sym those) (IsStrictlySortedBy-filter key_cmp (λ z. not (is_fact (ids_of w) z)) all is.ascends)

    among_copies : (o : Option ℕ) (z : Key) → Contains (option_map_or (λ b. map (λ c. (e, c)) (copied w e i b)) o []) z ↔ CopiedFrom w e i o z
    among_copies None z = (λ c. absurd (omega (arith, c.1)), λ c. absurd (cc))
    among_copies (Some b) z = (
      λ c. let f = from_map (λ (c : Id). (e, c)) (copied w e i b) z c in (b, refl, sym (ap (λ (y : Key). y.0) f.2), subst (Contains (copied w e i b)) (ap (λ (y : Key). y.1) f.2) f.1),
      λ c. let same : b ≡ c.0 = cc in
          subst (Contains (map (λ c. (e, c)) (copied w e i b))) (λ j. (sym c.2 j, z.1)) (in_map (λ (c : Id). (e, c)) (copied w e i b) z.1 (rw same c.3)),
    )

    -- what comes
    pub new_are : (old copies came : List Key) → old ≡ filter (λ z. not (is_fact (ids_of w) z)) all → copies ≡ copies_of_base (ids_of w) e all (base_among (ids_of w) k all)
        → IsStrictlySortedBy key_cmp came → ((z : Key) → Contains came z ↔ (Contains old z ⊎ Contains copies z))
        → came ≡ filter (λ z. not (holds w z.0 z.1)) (keys (coming w e i))
    new_are old copies came those copies_were ascends joined =
        is_keys key_cmp key_cmp_total key_cmp_same (without key_cmp (coming w e i) (has_key key_cmp w.facts)) (IsMap-without (coming w e i) (has_key key_cmp w.facts) (IsMap-coming w e i (new_base w e i) (IsMap-added w e i))) came rises
        (λ z. (λ c. into z ((joined z).0 c), λ c. (joined z).1 (out z c)))
        ∙ keys-left key_cmp (coming w e i) (has_key key_cmp w.facts)
      where
        rises : IsStrictlySortedBy key_cmp came
        rises = ascends

        abbrev_left : (z : Key) → has_key key_cmp (without key_cmp (coming w e i) (has_key key_cmp w.facts)) z ≡ (not (holds w z.0 z.1) && has_key key_cmp (coming w e i) z)
        abbrev_left z = ap is_some (value_at-without (coming w e i) (has_key key_cmp w.facts) z) ∙ split (holds w z.0 z.1) (value_at key_cmp (coming w e i) z)
          where
            split : (b : Bool) (o : Option (Unit {0})) → is_some (cond (not b) o None) ≡ (not b && is_some o)
            split true o = refl
            split false o = refl

        from : (z : Key) → Contains copies z ↔ CopiedFrom w e i (new_base w e i) z
        from z = (λ c. (among_copies (new_base w e i) z).0 (subst (λ ks. Contains ks z) (copies_were ∙ copies_are) c), λ c. subst (λ ks. Contains ks z) (sym (copies_were ∙ copies_are)) ((among_copies (new_base w e i) z).1 c))

        into : (z : Key) → Contains old z ⊎ Contains copies z → Contains (keys (without key_cmp (coming w e i) (has_key key_cmp w.facts))) z
        into z (inl c) =
            let f = (filtered (λ z. not (is_fact (ids_of w) z)) all z).0 (subst (λ ks. Contains ks z) those c) in
            let a = (added_are_members w e i h all_mentioned z).1 ((is.exact z).0 f.0) in
            let there : has_key key_cmp (coming w e i) z ≡ true = elim (coming_at w e i (new_base w e i) z) [ inl x ↦ x.1 | inr x ↦ x.1 ∙ a ] in
            key_there key_cmp key_cmp_same (without key_cmp (coming w e i) (has_key key_cmp w.facts)) z
            (abbrev_left z ∙ and_true (not (holds w z.0 z.1)) (has_key key_cmp (coming w e i) z) (ap not (sym (is_held-holds w z.0 z.1)) ∙ f.1) there)
        into z (inr c) =
            let x = (from z).0 c in
            let absent : holds w z.0 z.1 ≡ false = ap (λ y. holds w y z.1) x.2 ∙ not_held w e i x.0 z.1 x.3 in
            let there : has_key key_cmp (coming w e i) z ≡ true = elim (coming_at w e i (new_base w e i) z) [ inl y ↦ y.1 | inr y ↦ absurd (y.0 x) ] in
            key_there key_cmp key_cmp_same (without key_cmp (coming w e i) (has_key key_cmp w.facts)) z
            (abbrev_left z ∙ and_true (not (holds w z.0 z.1)) (has_key key_cmp (coming w e i) z) (ap not absent) there)

        out : (z : Key) → Contains (keys (without key_cmp (coming w e i) (has_key key_cmp w.facts))) z → Contains old z ⊎ Contains copies z
        out z c =
            let t = both (not (holds w z.0 z.1)) (has_key key_cmp (coming w e i) z) (sym (abbrev_left z) ∙ there_key key_cmp key_cmp_total (without key_cmp (coming w e i) (has_key key_cmp w.facts)) z c) in
            elim (coming_at w e i (new_base w e i) z) [
              | inl x ↦ inr ((from z).1 x.0)
              | inr x ↦ inl (subst (λ ks. Contains ks z) (sym those)
                  ((filtered (λ z. not (is_fact (ids_of w) z)) all z).1 ((is.exact z).1 ((added_are_members w e i h all_mentioned z).0 (sym x.1 ∙ t.1)), ap not (is_held-holds w z.0 z.1) ∙ t.0)))
            ]

    pub ways_are : (went : List Key) → IsListOf (λ z. GivesWay (ids_of w) all z × IsTrue (is_fact (ids_of w) z)) went → went ≡ filter (λ z. list_any (key_eq z) (replaced w e i)) (keys w.facts)
    ways_are went those =
        is_filter w h (λ z. list_any (key_eq z) (replaced w e i)) went those.ascends
        (λ z. (
          λ c. let p = (those.exact z).0 c in
              (sym (is_held-holds w z.0 z.1) ∙ p.1, gives_way w e i (p.0).0 z ((added_are_members w e i h all_mentioned (p.0).0).1 ((is.exact (p.0).0).0 (p.0).1)) (p.0).2),
          λ p. let r = replaced_in w e i z p.1 in
              (those.exact z).1 ((r.0, (is.exact r.0).1 ((added_are_members w e i h all_mentioned r.0).0 r.1), r.2), is_held-holds w z.0 z.1 ∙ p.0),
        ))

  -- why it is refused
  module _ (base : Option ℕ) (all copies came went : List Key) (tells : TellsAddition w k base all copies came went) where
    among_added : (z : Key) → Contains all z ↔ IsAdded (ids_of w) k z
    among_added z = (
      λ c. (added_are_members w e i h all_mentioned z).0 (there_key key_cmp key_cmp_total (added w e i) z (subst (λ xs. Contains xs z) tells.all_are c)),
      λ a. subst (λ xs. Contains xs z) (sym tells.all_are) (key_there key_cmp key_cmp_same (added w e i) z ((added_are_members w e i h all_mentioned z).1 a)),
    )

    abbrev those_copied : List Key
    those_copied = option_map_or (λ b. map (λ c. (e, c)) (copied w e i b)) (new_base w e i) []

    copied_among : (o : Option ℕ) (z : Key) → Contains (option_map_or (λ b. map (λ c. (e, c)) (copied w e i b)) o []) z ↔ CopiedFrom w e i o z
    copied_among None z = (λ c. absurd (omega (arith, c.1)), λ c. absurd (cc))
    copied_among (Some b) z = (
      λ c. let f = from_map (λ (c : Id). (e, c)) (copied w e i b) z c in (b, refl, sym (ap (λ (y : Key). y.0) f.2), subst (Contains (copied w e i b)) (ap (λ (y : Key). y.1) f.2) f.1),
      λ c. let same : b ≡ c.0 = cc in
          subst (Contains (map (λ c. (e, c)) (copied w e i b))) (λ j. (sym c.2 j, z.1)) (in_map (λ (c : Id). (e, c)) (copied w e i b) z.1 (rw same c.3)),
    )

    among_all : (z : Key) → Contains (all ++ copies) z ↔ (IsAdded (ids_of w) k z ⊎ CopiedFrom w e i (new_base w e i) z)
    among_all z = (
      λ c. elim (Contains-append_cases all copies z c) [
        | inl a ↦ inl ((among_added z).0 a)
        | inr x ↦ inr ((copied_among (new_base w e i) z).0 (subst (λ ks. Contains ks z) tells.copies_are x))
      ],
      λ n. elim n [
        | inl a ↦ Contains-append_left all copies z ((among_added z).1 a)
        | inr x ↦ Contains-append_right all copies z (subst (λ ks. Contains ks z) (sym tells.copies_are) ((copied_among (new_base w e i) z).1 x))
      ],
    )

    any_kept : (p q : Key → Bool) (xs : List Key) → list_any p (filter q xs) ≡ list_any (λ z. q z && p z) xs
    any_kept p q [] = refl
    any_kept p q (x ∷ xs) = by (q x) (any_kept p q xs)
      where
        by : (b : Bool) → list_any p (filter q xs) ≡ list_any (λ z. q z && p z) xs → list_any p (cond b (x ∷ filter q xs) (filter q xs)) ≡ ((b && p x) || list_any (λ z. q z && p z) xs)
        by true rest = ap (λ c. p x || c) rest
        by false rest = rest

    grouped : (a b c : Bool) → (a && (b && c)) ≡ ((a && b) && c)
    grouped true b c = refl
    grouped false b c = refl

    -- a trait that comes to what is used or pinned
    abbrev is_change : Key → Bool
    is_change z = is_trait z.1 && (is_used (ids_of w) (entities w) z.0 || nat_lt 0 (count_at w.pins z.0))

    -- no copy is a trait
    copy_no_trait : (z : Key) → CopiedFrom w e i (new_base w e i) z → is_change z ≡ false
    copy_no_trait z c = ap (λ b. b && (is_used (ids_of w) (entities w) z.0 || nat_lt 0 (count_at w.pins z.0))) (no_trait w e i c.0 z.1 c.3)

    coming_changes : list_any (λ z. not (holds w z.0 z.1) && is_change z) (keys (coming w e i)) ≡ list_any (λ z. not (holds w z.0 z.1) && is_change z) (keys (added w e i))
    coming_changes =
        alike _ _
        (λ t. let z = passing (λ z. not (holds w z.0 z.1) && is_change z) (keys (coming w e i)) t in
        elim (coming_at w e i (new_base w e i) z.0) [
          | inl x ↦ absurd (true≢false (sym (both (not (holds w z.0.0 z.0.1)) (is_change z.0) z.2).1 ∙ copy_no_trait z.0 x.0))
          | inr x ↦ any_passes (λ z. not (holds w z.0 z.1) && is_change z) (keys (added w e i)) z.0
              (key_there key_cmp key_cmp_same (added w e i) z.0 (sym x.1 ∙ there_key key_cmp key_cmp_total (coming w e i) z.0 z.1)) z.2
        ])
        (λ t. let z = passing (λ z. not (holds w z.0 z.1) && is_change z) (keys (added w e i)) t in
        let a = there_key key_cmp key_cmp_total (added w e i) z.0 z.1 in
        any_passes (λ z. not (holds w z.0 z.1) && is_change z) (keys (coming w e i)) z.0
        (key_there key_cmp key_cmp_same (coming w e i) z.0 (elim (coming_at w e i (new_base w e i) z.0) [ inl x ↦ x.1 | inr x ↦ x.1 ∙ a ])) z.2)

    fixed_is : list_any is_change came ≡ changes_trait w e i
    fixed_is =
        ap (list_any is_change) tells.came_are
        ∙ any_kept is_change (λ z. not (holds w z.0 z.1)) (keys (coming w e i))
        ∙ coming_changes
        ∙ (λ j. list_any (λ z. grouped (not (holds w z.0 z.1)) (is_trait z.1) (is_used (ids_of w) (entities w) z.0 || nat_lt 0 (count_at w.pins z.0)) j) (keys (added w e i)))

    -- a cycle
    closes_is : adds_built_in w e i ≡ false → changes_trait w e i ≡ false → (answer : Bool) → IsTrue answer ↔ (ClosesOne (ids_of w) e all ⊎ ClosesOne (ids_of w) e copies) → answer ≡ has_cycle (with_facts w (facts_after_add w e i))
    closes_is built fixed answer told =
        let g = some_of (value_at nat_cmp w.live e) lives in
        let one : EntityId = record { index = e; generation = g.0 } in
        let alive : is_alive w one ≡ true = ap (λ o. option_eq ◌==◌ o (Some g.0)) g.1 ∙ eq_itself g.0 in
        let dead : is_dead w one i ≡ false = λ j. not (alive j) || not (all_mentioned j) in
        sym (cycle_by_found w one i h dead built fixed (all ++ copies) among_all answer (
          λ t. elim (told.0 t) [ inl c ↦ (c.0, Contains-append_left all copies c.0 c.1, c.2) | inr c ↦ (c.0, Contains-append_right all copies c.0 c.1, c.2) ],
          λ c. told.1 (elim (Contains-append_cases all copies c.0 c.1) [ inl a ↦ inl (c.0, a, c.2) | inr a ↦ inr (c.0, a, c.2) ]),
        ))

    -- too many ids
    abbrev is_full : ℕ → Bool
    is_full x = nat_lt most_ids (length (ids_of (with_facts w (facts_after_add w e i)) x))

    is_one_of : (i : Id) (c : ℕ) (z : Key) → HasForm e i c z → (z.0 ≡ e) ⊎ Contains (cons_option (second_of i) []) z.0
    is_one_of (plain d) c z f = inl (ap (λ (y : Key). y.0) f)
    is_one_of (pair r t) c z (inl f) = inl (ap (λ (y : Key). y.0) f)
    is_one_of (pair r t) c z (inr f) = inr (0, omega arith, sym (ap (λ (y : Key). y.0) f))

    is_mentioned : (i : Id) (x : ℕ) → Contains (cons_option (second_of i) []) x → Contains (mentioned i) x
    is_mentioned (plain d) x c = absurd (omega (arith, c.1))
    is_mentioned (pair r t) x c = Contains-append_right (r ∷ []) (t ∷ []) x c

    too_many : (n : ℕ) → most_ids < n → nat_lt most_ids n ≡ true
    too_many n l = grind (arith, nat_tests)

    told_crowded : (is_crowded (with_facts w (facts_after_add w e i)) ≡ true) ↔ ((z : Key) × IsAdded (ids_of w) k z × (most_ids < length (ids_of (with_facts w (facts_after_add w e i)) z.0)))
    unfolding facts_after_add
    told_crowded = crowded_is_told w e i (new_base w e i) h lives all_mentioned

    two_are_full : (is_full e || list_any is_full (cons_option (second_of i) [])) ≡ is_crowded (with_facts w (facts_after_add w e i))
    two_are_full = alike (is_full e || list_any is_full (cons_option (second_of i) [])) (is_crowded (with_facts w (facts_after_add w e i))) into out
      where
        into : IsTrue (is_full e || list_any is_full (cons_option (second_of i) [])) → IsTrue (is_crowded (with_facts w (facts_after_add w e i)))
        into t =
            elim (from_or (is_full e) (list_any is_full (cons_option (second_of i) [])) t) [
              | inl f ↦ any_passes is_full (entities w) e live f
              | inr f ↦ let x = passing is_full (cons_option (second_of i) []) f in
                  any_passes is_full (entities w) x.0 (live_listed w x.0 (each_passes (is_live w) (mentioned i) all_mentioned x.0 (is_mentioned i x.0 x.1))) x.2
            ]

        out : IsTrue (is_crowded (with_facts w (facts_after_add w e i))) → IsTrue (is_full e || list_any is_full (cons_option (second_of i) []))
        out t =
            let z = told_crowded.0 t in
            let form = added_form w h e i all_mentioned z.1 in
            let full = too_many (length (ids_of (with_facts w (facts_after_add w e i)) (z.0).0)) z.2 in
            elim (is_one_of i form.0 z.0 form.2) [
              | inl q ↦ or_left (is_full e) (list_any is_full (cons_option (second_of i) [])) (rw q at full)
              | inr c ↦ or_right (is_full e) (list_any is_full (cons_option (second_of i) [])) (any_passes is_full (cons_option (second_of i) []) (z.0).0 c full)
            ]

    abbrev is_full_by : ℕ → Bool
    is_full_by x = nat_lt most_ids (length (ids_of w x) + count_by (is_own x) came - count_by (is_own x) went)

    crowds_is : (is_full_by e || list_any is_full_by (cons_option (second_of i) [])) ≡ is_crowded (with_facts w (facts_after_add w e i))
    crowds_is =
        (λ j. sym (has_too_many w e i h all_mentioned came went tells.came_are tells.went_are e) j
        || list_any (λ x. sym (has_too_many w e i h all_mentioned came went tells.came_are tells.went_are x) j) (cons_option (second_of i) []))
        ∙ two_are_full

    first_alike : (a b c d a' b' c' d' : Bool) → a ≡ a' → (a' ≡ false → b ≡ b') → c ≡ c' → d ≡ d'
        → first_reason ((a, TraitFixed) ∷ (b, Cycle) ∷ (c, TooManyIds) ∷ (d, Full) ∷ []) ≡ first_reason ((a', TraitFixed) ∷ (b', Cycle) ∷ (c', TooManyIds) ∷ (d', Full) ∷ [])
    first_alike a b c d true b' c' d' p q r s = ap (λ x. first_reason ((x, TraitFixed) ∷ (b, Cycle) ∷ (c, TooManyIds) ∷ (d, Full) ∷ [])) p
    first_alike a b c d false b' c' d' p q r s = λ j. first_reason ((p j, TraitFixed) ∷ (q refl j, Cycle) ∷ (r j, TooManyIds) ∷ (s j, Full) ∷ [])

    pub reason_is : adds_built_in w e i ≡ false → (closes spent : Bool) → IsTrue closes ↔ (ClosesOne (ids_of w) e all ⊎ ClosesOne (ids_of w) e copies) → is_spent w ≡ spent
        → first_reason ((list_any is_change came, TraitFixed) ∷ (closes, Cycle) ∷ (is_full_by e || list_any is_full_by (cons_option (second_of i) []), TooManyIds) ∷ (spent, Full) ∷ [])
        ≡ first_reason (add_reasons w e i)
    reason_is built closes spent told is =
        first_alike (list_any is_change came) closes (is_full_by e || list_any is_full_by (cons_option (second_of i) [])) spent (changes_trait w e i) (has_cycle (with_facts w (facts_after_add w e i)))
        (is_crowded (with_facts w (facts_after_add w e i))) (is_spent w) fixed_is (λ fixed. closes_is built fixed closes told) crowds_is (sym is)

-- the same, by what the searches saw
module _ (live : List ℕ) (ids : ℕ → List Id) (k : Key) (lives : Contains live k.0) (mentions : All (Contains live) (mentioned k.1)) where
  pub tells_addition : (all once twice thrice old copies came went : List Key) (base : Option ℕ) → once ≡ all → twice ≡ all → thrice ≡ all → IsListOf (IsAdded ids k) all → old ≡ filter (λ z. not (is_fact ids z)) once
      → IsListOf (λ z. GivesWay ids twice z × IsTrue (is_fact ids z)) went
      → base ≡ base_among ids k thrice → copies ≡ copies_of_base ids k.0 thrice base
      → IsJoined base old copies came
      → (w : WorldState) → Sees w live ids → TellsAddition w k base all copies came went
  tells_addition all once twice thrice old copies came went base p q r a c g b d joined w sees =
      let new : old ≡ filter (λ z. not (is_fact ids z)) all = subst (λ xs. old ≡ filter (λ z. not (is_fact ids z)) xs) p c in
      let ways : IsListOf (λ z. GivesWay ids all z × IsTrue (is_fact ids z)) went = subst (λ xs. IsListOf (λ z. GivesWay ids xs z × IsTrue (is_fact ids z)) went) q g in
      let based : base ≡ base_among ids k all = subst (λ xs. base ≡ base_among ids k xs) r b in
      let copy : copies ≡ copies_of_base ids k.0 all (base_among ids k all) = subst (λ xs. copies ≡ copies_of_base ids k.0 xs base) r d ∙ ap (copies_of_base ids k.0 all) based in
      let seen = of_world sees
      (λ live ids. Contains live k.0 × All (Contains live) (mentioned k.1) × IsListOf (IsAdded ids k) all × (old ≡ filter (λ z. not (is_fact ids z)) all) × IsListOf (λ z. GivesWay ids all z × IsTrue (is_fact ids z)) went
      × (base ≡ base_among ids k all) × (copies ≡ copies_of_base ids k.0 all (base_among ids k all)))
      (lives, mentions, a, new, ways, based, copy) in
      record {
        base_is = seen.5 ∙ base_are w sees.sound k seen.0 seen.1 all seen.2;
        all_are = added_are w sees.sound k seen.0 seen.1 all seen.2;
        copies_are = seen.6 ∙ copies_are w sees.sound k seen.0 seen.1 all seen.2;
        came_are = new_are w sees.sound k seen.0 seen.1 all seen.2 old copies came seen.3 seen.6 (rises base (news_ascend w sees.sound k seen.0 seen.1 all seen.2 old seen.3) joined) (all_there base d joined);
        went_are = ways_are w sees.sound k seen.0 seen.1 all seen.2 went seen.4;
      }
    where
      rises : (o : Option ℕ) → IsStrictlySortedBy key_cmp old → IsJoined o old copies came → IsStrictlySortedBy key_cmp came
      rises None sorted j = subst (IsStrictlySortedBy key_cmp) (sym j) sorted
      rises (Some b) sorted j = j.0

      all_there : (o : Option ℕ) → copies ≡ copies_of_base ids k.0 thrice o → IsJoined o old copies came → (z : Key) → Contains came z ↔ (Contains old z ⊎ Contains copies z)
      all_there None d j z = (
        λ h. inl (subst (λ xs. Contains xs z) j h),
        λ h. elim h [ inl o ↦ subst (λ xs. Contains xs z) (sym j) o | inr n ↦ absurd (let none : Contains [] z = subst (λ xs. Contains xs z) d n in omega (arith, none.1)) ],
      )
      all_there (Some b) d j z = j.1 z

  -- whether the entity, or the target, would hold too many ids
  abbrev crowds_by : (ℕ → List Id) → List Key → List Key → Bool
  crowds_by ids came went = list_any (λ x. nat_lt most_ids (length (ids x) + count_by (is_own x) came - count_by (is_own x) went)) (k.0 ∷ cons_option (second_of k.1) [])

  abbrev changes_by : List ℕ → (ℕ → List Id) → Map ℕ ℕ → List Key → Bool
  changes_by live ids pins came = list_any (λ z. is_trait z.1 && (is_used ids live z.0 || nat_lt 0 (count_at pins z.0))) came

  pub tells_refusal : (base : Option ℕ) (all copies came went all' copies' came' went' : List Key) (e : ℕ) (pins : Map ℕ ℕ) (changes closes crowds spent : Bool) (answer : Option Refusal)
      → all' ≡ all → copies' ≡ copies → came' ≡ came → went' ≡ went → e ≡ k.0
      → changes ≡ changes_by live ids pins came' → IsTrue closes ↔ (ClosesOne ids e all' ⊎ ClosesOne ids e copies') → crowds ≡ crowds_by ids came' went'
      → answer ≡ first_reason ((changes, TraitFixed) ∷ (closes, Cycle) ∷ (crowds, TooManyIds) ∷ (spent, Full) ∷ [])
      → (w : WorldState) → Sees w live ids → HasCounts w pins spent → TellsAddition w k base all copies came went → adds_built_in w k.0 k.1 ≡ false → answer ≡ first_reason (add_reasons w k.0 k.1)
  tells_refusal base all copies came went all' copies' came' went' e pins changes closes crowds spent answer same_all same_copies same_came same_went same_entity change close crowd is w sees counts tells built =
      let seen = of_world sees
      (λ live ids. Contains live k.0 × All (Contains live) (mentioned k.1) × (IsTrue closes ↔ (ClosesOne ids k.0 all ⊎ ClosesOne ids k.0 copies)) × (changes ≡ changes_by live ids pins came) × (crowds ≡ crowds_by ids came went)) (
        lives,
        mentions,
        subst (λ xs. IsTrue closes ↔ (ClosesOne ids k.0 all ⊎ ClosesOne ids k.0 xs)) same_copies
            (subst (λ xs. IsTrue closes ↔ (ClosesOne ids k.0 xs ⊎ ClosesOne ids k.0 copies')) same_all (subst (λ x. IsTrue closes ↔ (ClosesOne ids x all' ⊎ ClosesOne ids x copies')) same_entity close)),
        change ∙ ap (changes_by live ids pins) same_came,
        crowd ∙ (λ j. crowds_by ids (same_came j) (same_went j)),
      ) in
      let change_here = seen.3 ∙ (λ j. changes_by (entities w) (ids_of w) (sym counts.pins_are j) came) in
      is
      ∙ (λ j. first_reason ((change_here j, TraitFixed) ∷ (closes, Cycle) ∷ (seen.4 j, TooManyIds) ∷ (spent, Full) ∷ []))
      ∙ reason_is w sees.sound k seen.0 seen.1 base all copies came went tells built closes spent seen.2 counts.spent_is

-- the target of an added fact is below a size above all who live
pub targets_below : {n : ℕ} {live : List ℕ} {ids : ℕ → List Id} → AreLinks n live ids → (m : ℕ) → n ≤ m → (all : List Key) → All (IsOfLive live) all → All (λ k. IfSome (second_of k.1) (λ t. t < m)) all
targets_below {live = live} links m l all a j d inside = by (get_or all j d) (a j d inside)
  where
    by : (k : Key) → IsOfLive live k → IfSome (second_of k.1) (λ t. t < m)
    by (x, plain c) f = tt
    by (x, pair r t) f = let below = links.below t (f.1 1 t (omega arith)) in omega (arith, below)

-- copies are of live entities
pub copies_live : {n : ℕ} {live : List ℕ} {ids : ℕ → List Id} → AreLinks n live ids → (e : ℕ) (added : List Key) (o : Option ℕ) → Contains live e → All (IsOfLive live) (copies_of_base ids e added o)
copies_live {live = live} {ids = ids} links e added None lives = All-nil (IsOfLive live)
copies_live {live = live} {ids = ids} links e added (Some b) lives = all_of_them (ids b) (λ i c. links.live b i c)
  where
    one : (x : Id) → All (Contains live) (mentioned x) → (t : Bool) → All (IsOfLive live) (cond t ((e, x) ∷ []) [])
    one x m true = All-cons (IsOfLive live) (e, x) [] (lives, m) (All-nil (IsOfLive live))
    one x m false = All-nil (IsOfLive live)

    all_of_them : (xs : List Id) → ((i : Id) → Contains xs i → All (Contains live) (mentioned i)) → All (IsOfLive live) (flat_map (copy_of ids e added) xs)
    all_of_them [] f = All-nil (IsOfLive live)
    all_of_them (x ∷ xs) f =
        All-append (IsOfLive live) (copy_of ids e added x) (flat_map (copy_of ids e added) xs) (one x (f x (0, omega arith, refl)) (is_copied_own ids e added x))
        (all_of_them xs (λ i c. f i (Contains-append_right (x ∷ []) xs i c)))
