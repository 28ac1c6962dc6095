-- Lists that were found, in the place of the added and of the deleted set: what counts is who is on them.
use Rattle.std.specs.Cmp.{nat_cmp_total}
use Rattle.std.specs.FinMap.{nat_cmp-IsAntisymmetric}
use Rattle.std.specs.FinMap.Entries.{below_all, is_some-find, is_sorted, same_entries}
use Rattle.std.specs.List.{AllByRecursion, Contains, IsDistinct, list_all, list_any}
use Rattle.std.specs.Ordering.{nat_cmp}
use Rattle.std.specs.Prelude.{◌≡◌, ◌≢◌, ◌↔◌, ◌⊎◌, ℕ, ◌+◌, ◌==◌, ◌||◌, ◌&&◌, Bool, true, false, not, List, [], ◌∷◌, ◌++◌, filter, filter_map, flat_map, fold, length, ℤ, Option, Some, None, is_some, unwrap_or, cond, if◌then◌else◌}
use Rattle.std.proofs.Common.{refl, sym, ap, ◌∙◌, inl, inr, arith, true≢false}
use Rattle.std.proofs.lemmas.Bool.Decides.{nat_tests}
use Rattle.std.proofs.lemmas.List.Elements.{Contains-append_cases, Contains-append_left, Contains-append_right}
use Rattle.ecs_id.specs.Id.{Id, plain, pair, first_of, id_eq, mentioned}
use Rattle.ecs_model.specs.declared.faults.Refusal.TheVariants.{InUse, Panic, Full}
use Rattle.ecs_model.specs.Added.{brought, displaced, is_exclusive, is_symmetric}
use Rattle.ecs_model.specs.BuiltIns.{is_a, traversable}
use Rattle.ecs_model.specs.steps.FactChanges.{added, copied, deleted, facts_after_delete, facts_with_added, mentions_gone, new_base, own_ids, replaced, with_new}
use Rattle.ecs_model.specs.steps.Outcomes.{is_spent}
use Rattle.ecs_model.specs.Copied.{is_copied, is_inherited, is_withheld, stays_behind, takes}
use Rattle.ecs_model.specs.Cleanup.{falling}
use Rattle.ecs_model.specs.Links.{is_held, target_under}
use Rattle.ecs_model.specs.Map.{Map, IsMap, count_at, has_key, keys, value_at, with_value, without}
use Rattle.ecs_model.specs.Reach.{IsLeast, Reached}
use Rattle.ecs_model.specs.Sets.{Set}
use Rattle.ecs_model.specs.World.{WorldState, Key, key_cmp, key_eq, holds, is_live, entities, ids_of, new_value}
use Rattle.ecs_model.specs.steps.Step.{delete_reasons, is_pinned, without_entities}
use Rattle.ecs_model.specs.steps.WellFormed.{IsWellFormed}
use Rattle.ecs_model.specs.steps.Rules.{forbids}
use Rattle.ecs_model.proofs.Maps.{absent_below, both_true, nat_value_at, key_cmp_same, key_cmp_total, to_T}
use Rattle.ecs_model.proofs.Members.{alike, any_passes, eq_itself, eq_same, from_filter_map, from_flat_map, head_or_tail, in_filter_map, in_flat_map, passing}
use Rattle.ecs_model.proofs.Removals.{IsMap-without}
use Rattle.ecs_model.proofs.steps.AddedSets.{added_are_members}
use Rattle.ecs_model.proofs.steps.AddEffects.{all_at, value_with_added}
use Rattle.ecs_model.proofs.steps.DeletedSets.{deleted_is_least}
use Rattle.ecs_model.proofs.steps.Deletions.{counted_up, IsMap-counted_up}
use Rattle.ecs_model.proofs.steps.Differences.{without_alike}
use Rattle.ecs_model.proofs.steps.Facts.{key_there, there_key}
use Rattle.ecs_model.proofs.steps.LivingIds.{refuted}
use Rattle.ecs_model.proofs.steps.ReplacedFacts.{IsMap-add, IsMap-with_all, is_replaced}
use Rattle.ecs_model.proofs.steps.SameKeys.{IsMap-within}

-- lists with the same members pass alike
pub any_alike : {A : Type 0} (p : A → Bool) (xs ys : List A) → ((x : A) → Contains xs x ↔ Contains ys x) → list_any p xs ≡ list_any p ys
any_alike p xs ys same =
    alike (list_any p xs) (list_any p ys)
    (λ h. let x = passing p xs h in any_passes p ys x.0 ((same x.0).0 x.1) x.2)
    (λ h. let x = passing p ys h in any_passes p xs x.0 ((same x.0).1 x.1) x.2)

-- lists whose items stand there once
abbrev Apart : List ℕ → Type 0
Apart [] = Unit {0}
Apart (i ∷ is) = (list_any (λ x. x == i) is ≡ false) × Apart is

distinct_apart : (is : List ℕ) → IsDistinct ◌==◌ is → Apart is
unfolding IsDistinct
distinct_apart [] d = tt
distinct_apart (i ∷ is) d = (none i is d.0, distinct_apart is d.1)
  where
    turned : (i x : ℕ) → (i == x) ≡ false → (x == i) ≡ false
    turned i x h = grind (arith, nat_tests)

    none : (i : ℕ) (is : List ℕ) → AllByRecursion (λ y. (i == y) ≡ false) is → list_any (λ x. x == i) is ≡ false
    none i [] a = refl
    none i (x ∷ xs) a = let rest = none i xs a.1 in let first : (x == i) ≡ false = turned i x a.0 in λ j. first j || rest j

set_apart : (s : Set ℕ) → IsMap nat_cmp s → Apart (keys s)
set_apart [] h = tt
set_apart (e ∷ es) h =
    let parts = both_true (below_all nat_cmp e.0 es) (is_sorted nat_cmp es) h in
    let none : list_any (λ x. x == e.0) (keys es) ≡ false =
    refuted (list_any (λ x. x == e.0) (keys es))
    (λ t. let x = passing (λ x. x == e.0) (keys es) t in
    true≢false (sym (there_key nat_cmp nat_cmp_total es e.0 (rw (eq_same x.0 e.0 x.2) at x.1)) ∙ ap is_some (absent_below nat_cmp nat_cmp_total e.0 es parts.0)))
    in (none, set_apart es parts.1)

-- a count after one deletion of each
value-counted_up : (is : List ℕ) → Apart is → (m : Map ℕ ℕ) (j : ℕ)
    → value_at nat_cmp (counted_up m is) j ≡ cond (list_any (λ x. x == j) is) (Some (count_at m j + 1)) (value_at nat_cmp m j)
value-counted_up [] a m j = refl
value-counted_up (i ∷ is) a m j =
    value-counted_up is a.1 (with_value nat_cmp m i (count_at m i + 1)) j ∙ by (i == j) refl (nat_value_at m i (count_at m i + 1) j)
  where
    next : Map ℕ ℕ
    next = with_value nat_cmp m i (count_at m i + 1)

    by : (b : Bool) → (i == j) ≡ b
        → ((j ≡ i) × (value_at nat_cmp next j ≡ Some (count_at m i + 1))) ⊎ ((j ≢ i) × (value_at nat_cmp next j ≡ value_at nat_cmp m j))
        → cond (list_any (λ x. x == j) is) (Some (count_at next j + 1)) (value_at nat_cmp next j) ≡ cond (b || list_any (λ x. x == j) is) (Some (count_at m j + 1)) (value_at nat_cmp m j)
    by true q (inl p) =
        let none : list_any (λ x. x == j) is ≡ false = rw (p.0) a.0 in
        (λ n. cond (none n) (Some (count_at next j + 1)) (value_at nat_cmp next j)) ∙ p.1 ∙ ap (λ x. Some (count_at m x + 1)) (sym p.0)
    by true q (inr p) = absurd (p.0 (sym (eq_same i j q)))
    by false q (inl p) = absurd (true≢false (sym (rw (p.0) (eq_itself i)) ∙ q))
    by false q (inr p) = λ n. cond (list_any (λ x. x == j) is) (Some (unwrap_or (p.1 n) 0 + 1)) (p.1 n)

-- the order of deletions makes no difference
counts_alike : (is js : List ℕ) (m : Map ℕ ℕ) → IsMap nat_cmp m → Apart is → Apart js → ((x : ℕ) → Contains is x ↔ Contains js x) → counted_up m is ≡ counted_up m js
counts_alike is js m h a b same =
    same_entries nat_cmp nat_cmp_total nat_cmp-IsAntisymmetric (counted_up m is) (counted_up m js) (to_T _ (IsMap-counted_up is m h)) (to_T _ (IsMap-counted_up js m h))
    (λ j. value-counted_up is a m j
    ∙ ap (λ c. cond c (Some (count_at m j + 1)) (value_at nat_cmp m j)) (any_alike (λ x. x == j) is js same)
    ∙ sym (value-counted_up js b m j))

-- who was found to fall with an entity
module _ (w : WorldState) (e : ℕ) (live : is_live w e ≡ true) (found : List ℕ) (all : (y : ℕ) → Contains found y ↔ Reached (falling (ids_of w) (entities w)) e y) where
  among : (y : ℕ) → Contains (keys (deleted w e)) y ↔ Contains found y
  among y = (
    λ c. (all y).1 ((deleted_is_least w e live y).0 (there_key nat_cmp nat_cmp_total (deleted w e) y c)),
    λ c. key_there nat_cmp nat_cmp-IsAntisymmetric (deleted w e) y ((deleted_is_least w e live y).1 ((all y).0 c)),
  )

  pub any_deleted : (p : ℕ → Bool) → list_any p (keys (deleted w e)) ≡ list_any p found
  any_deleted p = any_alike p (keys (deleted w e)) found among

  pub is_deleted : (y : ℕ) → has_key nat_cmp (deleted w e) y ≡ list_any (λ x. x == y) found
  is_deleted y =
      alike (has_key nat_cmp (deleted w e) y) (list_any (λ x. x == y) found)
      (λ h. any_passes (λ x. x == y) found y ((among y).0 (key_there nat_cmp nat_cmp-IsAntisymmetric (deleted w e) y h)) (eq_itself y))
      (λ h. let x = passing (λ x. x == y) found h in there_key nat_cmp nat_cmp_total (deleted w e) y ((among y).1 (rw (eq_same x.0 y x.2) at x.1)))

  -- the reasons against the deletion
  pub reasons_by_found : delete_reasons w (deleted w e)
      ≡ (list_any (is_pinned w) found, InUse)
      ∷ (list_any (λ y. not (list_any (λ x. x == y) found) && list_any (λ i. list_any (λ x. forbids (ids_of w) x i) found) (ids_of w y)) (entities w), Panic)
      ∷ (is_spent w, Full) ∷ []
  reasons_by_found = λ j.
      (any_deleted (is_pinned w) j, InUse)
      ∷ (list_any (λ y. not (is_deleted y j) && list_any (λ i. any_deleted (λ x. forbids (ids_of w) x i) j) (ids_of w y)) (entities w), Panic)
      ∷ (is_spent w, Full) ∷ []

  module _ (sound : IsWellFormed w) (once : IsDistinct ◌==◌ found) where
    -- in whatever order they go, their deletions are counted
    pub deletions_by_found : counted_up w.deletions (keys (deleted w e)) ≡ counted_up w.deletions found
    unfolding deleted
    deletions_by_found = counts_alike (keys (deleted w e)) found w.deletions (sound.in_order).deletions (set_apart (deleted w e) IsMap-deleted) (distinct_apart found once) among
      where
        IsMap-deleted : IsMap nat_cmp (deleted w e)
        IsMap-deleted = IsMap-within nat_cmp nat_cmp_total (falling (ids_of w) (entities w)) (length (entities w)) e

    abbrev among_found : ℕ → Bool
    among_found y = list_any (λ x. x == y) found

    -- the world without them
    pub left_by_found : without_entities w (deleted w e)
        ≡ record w {
          live = without nat_cmp w.live among_found;
          facts = without key_cmp w.facts (λ k. among_found k.0 || list_any among_found (mentioned k.1));
          names = without nat_cmp w.names among_found;
          schemas = without nat_cmp w.schemas among_found;
          deletions = counted_up w.deletions found;
        }
    unfolding without_entities facts_after_delete
    left_by_found = λ j. record w {
      live = without_alike nat_cmp w.live (has_key nat_cmp (deleted w e)) among_found (λ k c. is_deleted k) j;
      facts = without_alike key_cmp w.facts (mentions_gone w (deleted w e)) (λ k. among_found k.0 || list_any among_found (mentioned k.1))
          (λ k c. λ n. is_deleted k.0 n || any_same (mentioned k.1) n) j;
      names = without_alike nat_cmp w.names (has_key nat_cmp (deleted w e)) among_found (λ k c. is_deleted k) j;
      schemas = without_alike nat_cmp w.schemas (has_key nat_cmp (deleted w e)) among_found (λ k c. is_deleted k) j;
      deletions = deletions_by_found j;
    }
      where
        any_same : (is : List ℕ) → list_any (has_key nat_cmp (deleted w e)) is ≡ list_any among_found is
        any_same [] = refl
        any_same (x ∷ xs) = let rest = any_same xs in λ n. is_deleted x n || rest n

-- what was found to come with a fact
module _ (w : WorldState) (e : ℕ) (i : Id) (h : IsWellFormed w) (mentions : list_all (is_live w) (mentioned i) ≡ true) (items : List Key) (least : IsLeast (brought (ids_of w)) ((e, i) ∷ []) items) where
  -- it is the added set
  pub members : (k : Key) → Contains (keys (added w e i)) k ↔ Contains items k
  members k = (
    λ c. (least k).1 ((e, i), (0, omega arith, refl), (added_are_members w e i h mentions k).0 (there_key key_cmp key_cmp_total (added w e i) k c)),
    λ c. key_there key_cmp key_cmp_same (added w e i) k ((added_are_members w e i h mentions k).1 (reached ((least k).0 c))),
  )
    where
      reached : (x : Key) × Contains ((e, i) ∷ []) x × Reached (brought (ids_of w)) x k → Reached (brought (ids_of w)) (e, i) k
      reached r = elim (head_or_tail (e, i) r.0 [] r.1) [ inl q ↦ rw q r.2 | inr n ↦ absurd (omega (arith, n.1)) ]

  pub any_added : (p : Key → Bool) → list_any p (keys (added w e i)) ≡ list_any p items
  any_added p = any_alike p (keys (added w e i)) items members

  pub is_added : (k : Key) → has_key key_cmp (added w e i) k ≡ list_any (key_eq k) items
  is_added k = is_some-find key_cmp k (added w e i) ∙ any_added (key_eq k)

  -- what gives way to it
  pub gives_way_to : (k : Key) → is_replaced w e i k ≡ list_any (key_eq k) (flat_map (displaced (ids_of w)) items)
  unfolding replaced
  gives_way_to k =
      any_alike (key_eq k) (flat_map (displaced (ids_of w)) (keys (added w e i))) (flat_map (displaced (ids_of w)) items)
      (λ x. (
        λ c. let f = from_flat_map (displaced (ids_of w)) (keys (added w e i)) x c in in_flat_map (displaced (ids_of w)) items f.0 x ((members f.0).0 f.1) f.2,
        λ c. let f = from_flat_map (displaced (ids_of w)) items x c in in_flat_map (displaced (ids_of w)) (keys (added w e i)) f.0 x ((members f.0).1 f.1) f.2,
      ))

  -- the facts with the added set, whatever the order in which they come
  pub facts_by_found : facts_with_added w e i ≡ fold (with_new w) (without key_cmp w.facts (λ k. list_any (key_eq k) (flat_map (displaced (ids_of w)) items))) items
  facts_by_found =
      same_entries key_cmp key_cmp_total key_cmp_same (facts_with_added w e i) (fold (with_new w) left items) (to_T _ (IsMap-add w e i (h.in_order).facts))
      (to_T _ (IsMap-with_all w left items (IsMap-without w.facts gone (h.in_order).facts)))
      (λ q. value_with_added w e i q
      ∙ (λ j. cond (has_key key_cmp (without_alike key_cmp w.facts (is_replaced w e i) gone (λ k c. gives_way_to k) j) q)
      (value_at key_cmp (without_alike key_cmp w.facts (is_replaced w e i) gone (λ k c. gives_way_to k) j) q) (cond (is_added q j) (Some (new_value w q.1)) None))
      ∙ sym (all_at w items left q))
    where
      gone : Key → Bool
      gone k = list_any (key_eq k) (flat_map (displaced (ids_of w)) items)

      left : Map Key (List ℤ)
      left = without key_cmp w.facts gone

  -- the ids that the entity holds or gets
  abbrev pub own_found : List Id
  own_found = ids_of w e ++ filter_map (λ k. if k.0 == e then Some k.1 else None) items

  own_alike : (c : Id) → Contains (own_ids w e i) c ↔ Contains own_found c
  own_alike c = (
    λ h. elim (Contains-append_cases (ids_of w e) (filter_map own (keys (added w e i))) c h) [
      | inl n ↦ Contains-append_left (ids_of w e) (filter_map own items) c n
      | inr n ↦ let f = from_filter_map own (keys (added w e i)) c n in Contains-append_right (ids_of w e) (filter_map own items) c (in_filter_map own items f.0 c ((members f.0).0 f.1) f.2)
    ],
    λ h. elim (Contains-append_cases (ids_of w e) (filter_map own items) c h) [
      | inl n ↦ Contains-append_left (ids_of w e) (filter_map own (keys (added w e i))) c n
      | inr n ↦ let f = from_filter_map own items c n in Contains-append_right (ids_of w e) (filter_map own (keys (added w e i))) c (in_filter_map own (keys (added w e i)) f.0 c ((members f.0).1 f.1) f.2)
    ],
  )
    where
      own : Key → Option Id
      own k = if k.0 == e then Some k.1 else None

  -- so the same are copied
  takes_alike : (c : Id) → takes (ids_of w) (own_ids w e i) c ≡ takes (ids_of w) own_found c
  takes_alike (plain c) = refl
  takes_alike (pair r t) =
      ap (λ b. not (is_held (ids_of w r) (plain traversable)) && not (is_symmetric (ids_of w) r) && not (is_exclusive (ids_of w) r && b))
      (any_alike (λ j. is_some (target_under r j)) (own_ids w e i) own_found own_alike)

  copied_alike : (c : Id) → is_copied (ids_of w) (own_ids w e i) c ≡ is_copied (ids_of w) own_found c
  copied_alike c = λ j.
      not (is_inherited (ids_of w) (first_of c)) && not (is_withheld (ids_of w) (first_of c)) && not (stays_behind c)
      && not (any_alike (λ j. id_eq j c) (own_ids w e i) own_found own_alike j) && takes_alike c j

  filter_alike : (p q : Id → Bool) → ((c : Id) → p c ≡ q c) → (xs : List Id) → filter p xs ≡ filter q xs
  filter_alike p q same [] = refl
  filter_alike p q same (x ∷ xs) = λ j. cond (same x j) (x ∷ filter_alike p q same xs j) (filter_alike p q same xs j)

  pub copied_by_found : (b : ℕ) → copied w e i b ≡ filter (is_copied (ids_of w) own_found) (ids_of w b)
  unfolding copied
  copied_by_found b = filter_alike (is_copied (ids_of w) (own_ids w e i)) (is_copied (ids_of w) own_found) copied_alike (ids_of w b)

-- the base that an added fact gives, by what was found to come with it
abbrev pub base_found : WorldState → ℕ → Id → List Key → Option ℕ
base_found w e (plain c) items = None
base_found w e (pair r t) items = if list_any (key_eq (e, pair is_a t)) items && not (holds w e (pair is_a t)) then Some t else None

pub base_by_found : (w : WorldState) (e : ℕ) (i : Id) → IsWellFormed w → list_all (is_live w) (mentioned i) ≡ true → (items : List Key) → IsLeast (brought (ids_of w)) ((e, i) ∷ []) items
    → new_base w e i ≡ base_found w e i items
unfolding new_base
base_by_found w e (plain c) h m items least = refl
base_by_found w e (pair r t) h m items least = ap (λ b. if b && not (holds w e (pair is_a t)) then Some t else None) (is_added w e (pair r t) h m items least (e, pair is_a t))
