-- The facts after `add` and `set`, one by one, and what has changed.
use Rattle.std.specs.Cmp.{Equal-is, eq_by_cmp_equiv, nat_cmp_total}
use Rattle.std.specs.FinMap.Entries.{is_some-find}
use Rattle.std.specs.List.{list_all, list_any}
use Rattle.std.specs.Ordering.{nat_cmp}
use Rattle.std.specs.Prelude.{◌≡◌, ℕ, ◌*◌, ◌==◌, ◌&&◌, ◌||◌, Bool, true, false, not, List, [], ◌∷◌, map, filter, fold, length, ℤ, Option, Some, None, is_some, cond, if◌then◌else◌}
use Rattle.std.specs.declared.cmp.Ordering.TheVariants.{Equal}
use Rattle.std.proofs.Common.{refl, sym, ap, subst, ◌∙◌, inl, inr, true≢false}
use Rattle.ecs_id.specs.Id.{Id, plain, pair, mentioned}
use Rattle.ecs_id.specs.declared.EntityId.{EntityId}
use Rattle.ecs_model.specs.Added.{brought}
use Rattle.ecs_model.specs.steps.FactChanges.{added, coming, facts_after_add, facts_with_added, new_base, with_new}
use Rattle.ecs_model.specs.steps.Outcomes.{counted, differences, with_facts}
use Rattle.ecs_model.specs.Map.{Map, IsMap, has_key, keys, value_at, with_value, without}
use Rattle.ecs_model.specs.Reach.{itself}
use Rattle.ecs_model.specs.World.{WorldState, Key, key_cmp, key_eq, holds, ids_of, is_live, entities, new_value}
use Rattle.ecs_model.specs.steps.Step.{Add, SetValue, effect, written_by}
use Rattle.ecs_model.specs.steps.WellFormed.{IsWellFormed}
use Rattle.ecs_model.proofs.NewEntity.{none_born}
use Rattle.ecs_model.proofs.Maps.{fact_value_at, key_cmp_same, key_cmp_total, IsMap-with_value}
use Rattle.ecs_model.proofs.Members.{eq_itself, or_left}
use Rattle.ecs_model.proofs.Removals.{IsMap-without, value_at-without}
use Rattle.ecs_model.proofs.steps.AddedSets.{HasForm, added_are_members, added_form}
use Rattle.ecs_model.proofs.steps.CopiedIds.{CopiedFrom, IsMap-coming, IsMap-with_base, coming_at, coming_with, not_held, of_base, value-with_base, with_base}
use Rattle.ecs_model.proofs.steps.Differences.{with_name, without_alike, without_each, keys-without}
use Rattle.ecs_model.proofs.steps.Facts.{there_key}
use Rattle.ecs_model.proofs.steps.LivingIds.{refuted}
use Rattle.ecs_model.proofs.steps.Additions.{same_parts, no_pair}
use Rattle.ecs_model.proofs.steps.ReplacedFacts.{is_replaced, replaced_by, IsMap-add}
use Rattle.ecs_model.proofs.steps.SameKeys.{same_keys, IsMap-within, keys-left}

-- a test of numbers that are one
not_apart : (t u : ℕ) → (u == t) ≡ false → u ≡ t → ⊥
not_apart t u d e = true≢false (sym (eq_itself t) ∙ (ap (λ x. x == t) (sym e) ∙ d))

-- of an added set none gives way to another
apart : (e : ℕ) (i : Id) (c d f r t u : ℕ) → (u == t) ≡ false → HasForm e i c (f, pair r t) → HasForm e i d (f, pair r u) → ⊥
apart e (plain a) c d f r t u n p q = no_pair e f c r t (sym p)
apart e (pair a b) c d f r t u n (inl p) (inl q) = not_apart t u n ((same_parts f e r d u b q).2 ∙ sym (same_parts f e r c t b p).2)
apart e (pair a b) c d f r t u n (inl p) (inr q) =
    let x = same_parts f e r c t b p in let y = same_parts f b r d u e q in not_apart t u n (y.2 ∙ (sym x.0 ∙ (y.0 ∙ sym x.2)))
apart e (pair a b) c d f r t u n (inr p) (inl q) =
    let x = same_parts f b r c t e p in let y = same_parts f e r d u b q in not_apart t u n (y.2 ∙ (sym x.0 ∙ (y.0 ∙ sym x.2)))
apart e (pair a b) c d f r t u n (inr p) (inr q) = not_apart t u n ((same_parts f b r d u e q).2 ∙ sym (same_parts f b r c t e p).2)

-- nor is it the mirror of what gives way
mirror_apart : (e : ℕ) (i : Id) (c d f r t u : ℕ) → (u == t) ≡ false → HasForm e i c (f, pair r t) → HasForm e i d (u, pair r f) → ⊥
mirror_apart e (plain a) c d f r t u n p q = no_pair e f c r t (sym p)
mirror_apart e (pair a b) c d f r t u n (inl p) (inl q) =
    let x = same_parts f e r c t b p in let y = same_parts u e r d f b q in not_apart t u n (y.0 ∙ (sym x.0 ∙ (y.2 ∙ sym x.2)))
mirror_apart e (pair a b) c d f r t u n (inl p) (inr q) = not_apart t u n ((same_parts u b r d f e q).0 ∙ sym (same_parts f e r c t b p).2)
mirror_apart e (pair a b) c d f r t u n (inr p) (inl q) = not_apart t u n ((same_parts u e r d f b q).0 ∙ sym (same_parts f b r c t e p).2)
mirror_apart e (pair a b) c d f r t u n (inr p) (inr q) =
    let x = same_parts f b r c t e p in let y = same_parts u b r d f e q in not_apart t u n (y.0 ∙ (sym x.0 ∙ (y.2 ∙ sym x.2)))

module _ (w : WorldState) where
  abbrev with_all : Map Key (List ℤ) → List Key → Map Key (List ℤ)
  with_all m ks = fold (with_new w) m ks

  -- a fact that is there keeps its value
  new_at : (m : Map Key (List ℤ)) (k q : Key) → value_at key_cmp (with_new w m k) q ≡ cond (has_key key_cmp m q) (value_at key_cmp m q) (cond (key_eq q k) (Some (new_value w q.1)) None)
  new_at m k q = by (has_key key_cmp m k) refl
    where
      absent : (o : Option (List ℤ)) → is_some o ≡ false → o ≡ None
      absent None h = refl
      absent (Some x) h = absurd (true≢false h)

      kept : (o : Option (List ℤ)) (b : Bool) → (is_some o ≡ false → b ≡ false) → o ≡ cond (is_some o) o (cond b (Some (new_value w q.1)) None)
      kept (Some x) b h = refl
      kept None b h = λ j. cond (sym (h refl) j) (Some (new_value w q.1)) None

      by : (b : Bool) → has_key key_cmp m k ≡ b
          → value_at key_cmp (if b then m else with_value key_cmp m k (new_value w k.1)) q ≡ cond (has_key key_cmp m q) (value_at key_cmp m q) (cond (key_eq q k) (Some (new_value w q.1)) None)
      by true there = kept (value_at key_cmp m q) (key_eq q k) (λ n. refuted (key_eq q k) (λ e. true≢false (sym there ∙ (ap (has_key key_cmp m) (sym (key_cmp_same q k (tied q k e))) ∙ n))))
        where
          tied : (x y : Key) → key_eq x y ≡ true → key_cmp x y ≡ Equal
          tied x y e = (Equal-is (key_cmp x y)).0 e
      by false none =
          elim (fact_value_at m k (new_value w k.1) q) [
            | inl p ↦ p.1
                ∙ (λ j. Some (new_value w (sym p.0 j).1))
                ∙ sym (λ j. cond ((ap (has_key key_cmp m) p.0 ∙ none) j) (value_at key_cmp m q) (cond ((ap (λ x. key_eq x k) p.0 ∙ itself k) j) (Some (new_value w q.1)) None))
            | inr p ↦ p.1 ∙ kept (value_at key_cmp m q) (key_eq q k) (λ n. refuted (key_eq q k) (λ e. p.0 (key_cmp_same q k ((Equal-is (key_cmp q k)).0 e))))
          ]
        where
          itself : (x : Key) → key_eq x x ≡ true
          itself x = (eq_by_cmp_equiv key_cmp_total).refl x

  again : (a b c : Bool) (o : Option (List ℤ)) (x : List ℤ) → a ≡ is_some o
      → cond (is_some (cond a o (cond b (Some x) None))) (cond a o (cond b (Some x) None)) (cond c (Some x) None) ≡ cond a o (cond (b || c) (Some x) None)
  again true b c (Some y) x e = refl
  again true b c None x e = absurd (true≢false e)
  again false true c o x e = refl
  again false false c o x e = refl

  pub all_at : (ks : List Key) (m : Map Key (List ℤ)) (q : Key)
      → value_at key_cmp (with_all m ks) q ≡ cond (has_key key_cmp m q) (value_at key_cmp m q) (cond (list_any (key_eq q) ks) (Some (new_value w q.1)) None)
  all_at [] m q = by (value_at key_cmp m q)
    where
      by : (o : Option (List ℤ)) → o ≡ cond (is_some o) o None
      by None = refl
      by (Some x) = refl
  all_at (k ∷ ks) m q =
      all_at ks (with_new w m k) q
      ∙ (λ j. cond (is_some (new_at m k q j)) (new_at m k q j) (cond (list_any (key_eq q) ks) (Some (new_value w q.1)) None))
      ∙ again (has_key key_cmp m q) (key_eq q k) (list_any (key_eq q) ks) (value_at key_cmp m q) (new_value w q.1) refl

  module _ (e : ℕ) (i : Id) where
    abbrev stays : Map Key (List ℤ)
    stays = without key_cmp w.facts (is_replaced w e i)

    -- each fact with the added set: what gives way has gone, what was added and isn't there is new, all else is as it was
    pub value_with_added : (q : Key)
        → value_at key_cmp (facts_with_added w e i) q
        ≡ cond (has_key key_cmp stays q) (value_at key_cmp stays q) (cond (has_key key_cmp (added w e i) q) (Some (new_value w q.1)) None)
    unfolding facts_with_added
    value_with_added q =
        all_at (keys (added w e i)) stays q
        ∙ ap (λ b. cond (has_key key_cmp stays q) (value_at key_cmp stays q) (cond b (Some (new_value w q.1)) None)) (sym (is_some-find key_cmp q (added w e i)))

    joined : (a b : Bool) (o : Option (List ℤ)) (x : List ℤ) → a ≡ is_some o → is_some (cond a o (cond b (Some x) None)) ≡ (b || a)
    joined true true (Some y) x e = refl
    joined true false (Some y) x e = refl
    joined true b None x e = absurd (true≢false e)
    joined false true o x e = refl
    joined false false o x e = refl

    left_at : (q : Key) → has_key key_cmp stays q ≡ (not (is_replaced w e i q) && holds w q.0 q.1)
    left_at q = ap is_some (value_at-without w.facts (is_replaced w e i) q) ∙ by (is_replaced w e i q) (value_at key_cmp w.facts q)
      where
        by : (b : Bool) (o : Option (List ℤ)) → is_some (cond (not b) o None) ≡ (not b && is_some o)
        by true o = refl
        by false o = refl

    pub held_with_added : (q : Key) → has_key key_cmp (facts_with_added w e i) q ≡ (has_key key_cmp (added w e i) q || (not (is_replaced w e i q) && holds w q.0 q.1))
    held_with_added q =
        ap is_some (value_with_added q)
        ∙ joined (has_key key_cmp stays q) (has_key key_cmp (added w e i) q) (value_at key_cmp stays q) (new_value w q.1) refl
        ∙ ap (λ b. has_key key_cmp (added w e i) q || b) (left_at q)

    pub IsMap-added : IsMap key_cmp (added w e i)
    unfolding added
    IsMap-added = IsMap-within key_cmp key_cmp_total (brought (ids_of w)) (2 * length (entities w)) (e, i)

    -- each fact after `add`, with copies from a base, if there is one: what comes is there, what gives way has gone
    pub held_after_add : (o : Option ℕ) (q : Key)
        → has_key key_cmp (with_base w e i (facts_with_added w e i) o) q ≡ (has_key key_cmp (coming_with w e i o) q || (not (is_replaced w e i q) && holds w q.0 q.1))
    held_after_add o q = elim (value-with_base w e i (facts_with_added w e i) o q) [
      | inl p ↦ elim (coming_at w e i o q) [
        | inl c ↦ ap is_some p.4 ∙ of_base w e i p.0 q.1 p.3 ∙ sym (or_left (has_key key_cmp (coming_with w e i o) q) (not (is_replaced w e i q) && holds w q.0 q.1) c.1)
        | inr c ↦ absurd (c.0 (p.0, p.1, p.2, p.3))
      ]
      | inr p ↦ elim (coming_at w e i o q) [
        | inl c ↦ absurd (p.0 c.0)
        | inr c ↦ ap is_some p.1 ∙ held_with_added q ∙ ap (λ b. b || (not (is_replaced w e i q) && holds w q.0 q.1)) (sym c.1)
      ]
    ]

    module _ (h : IsWellFormed w) (mentions : list_all (is_live w) (mentioned i) ≡ true) where
      -- no added fact gives way
      added_stays : (q : Key) → has_key key_cmp (added w e i) q ≡ true → is_replaced w e i q ≡ false
      added_stays q a = refuted (is_replaced w e i q) clash
        where
          clash : is_replaced w e i q ≡ true → ⊥
          clash g =
              let by = replaced_by w e i q g in
              let way = by.2 in
              let b = added_form w h e i mentions ((added_are_members w e i h mentions by.0).0 by.1) in
              let own = added_form w h e i mentions ((added_are_members w e i h mentions q).0 a) in
              elim way.what [
                | inl z ↦ apart e i b.0 own.0 by.0.0 way.r way.t way.u way.other (subst (HasForm e i b.0) way.is_pair b.2) (subst (HasForm e i own.0) z own.2)
                | inr z ↦ mirror_apart e i b.0 own.0 by.0.0 way.r way.t way.u way.other (subst (HasForm e i b.0) way.is_pair b.2) (subst (HasForm e i own.0) z.1 own.2)
              ]

      -- nor does a copy, since what gives way is held
      copy_stays : (o : Option ℕ) (q : Key) → CopiedFrom w e i o q → is_replaced w e i q ≡ false
      copy_stays o q c = refuted (is_replaced w e i q) clash
        where
          absent : holds w q.0 q.1 ≡ false
          absent = ap (λ x. holds w x q.1) c.2 ∙ not_held w e i c.0 q.1 c.3

          clash : is_replaced w e i q ≡ true → ⊥
          clash g =
              let by = replaced_by w e i q g in
              let way = by.2 in
              elim way.what [
                | inl z ↦ true≢false (sym way.held ∙ (ap (λ (k : Key). holds w k.0 k.1) (sym z) ∙ absent))
                | inr z ↦ true≢false (sym ((h.traits).mirrored by.0.0 way.r way.u z.0 way.held) ∙ (ap (λ (k : Key). holds w k.0 k.1) (sym z.1) ∙ absent))
              ]

      pub none_replaced : (o : Option ℕ) (q : Key) → has_key key_cmp (coming_with w e i o) q ≡ true → is_replaced w e i q ≡ false
      none_replaced o q t = elim (coming_at w e i o q) [ inl p ↦ copy_stays o q p.0 | inr p ↦ added_stays q (sym p.1 ∙ t) ]

      -- facts that are held as after `add` came where they come and were not held, and went where they gave way
      module _ (o : Option ℕ) (facts : Map Key (List ℤ)) (in_order : IsMap key_cmp facts) (held : (q : Key) → has_key key_cmp facts q ≡ has_key key_cmp (with_base w e i (facts_with_added w e i) o) q) where
        IsMap-all : IsMap key_cmp (coming_with w e i o)
        IsMap-all = IsMap-coming w e i o IsMap-added

        came_at : (q : Key) → has_key key_cmp (without key_cmp facts (has_key key_cmp w.facts)) q ≡ has_key key_cmp (without key_cmp (coming_with w e i o) (has_key key_cmp w.facts)) q
        came_at q =
            ap is_some (value_at-without facts (has_key key_cmp w.facts) q)
            ∙ by (holds w q.0 q.1) (value_at key_cmp facts q) (value_at key_cmp (coming_with w e i o) q) (is_replaced w e i q) (held q ∙ held_after_add o q)
            ∙ sym (ap is_some (value_at-without (coming_with w e i o) (has_key key_cmp w.facts) q))
          where
            by : (b : Bool) (o : Option (List ℤ)) (p : Option (Unit {0})) (g : Bool) → is_some o ≡ (is_some p || (not g && b)) → is_some (cond (not b) o None) ≡ is_some (cond (not b) p None)
            by true o p g k = refl
            by false o (Some y) g k = k
            by false o None true k = k
            by false o None false k = k

        pub those_come : keys (without key_cmp facts (has_key key_cmp w.facts)) ≡ filter (λ k. not (holds w k.0 k.1)) (keys (coming_with w e i o))
        those_come =
            same_keys key_cmp key_cmp_total key_cmp_same (without key_cmp facts (has_key key_cmp w.facts)) (without key_cmp (coming_with w e i o) (has_key key_cmp w.facts))
            (IsMap-without facts (has_key key_cmp w.facts) in_order) (IsMap-without (coming_with w e i o) (has_key key_cmp w.facts) IsMap-all) came_at
            ∙ keys-left key_cmp (coming_with w e i o) (has_key key_cmp w.facts)

        pub those_give_way : keys (without key_cmp w.facts (has_key key_cmp facts)) ≡ filter (is_replaced w e i) (keys w.facts)
        those_give_way =
            ap keys (without_alike key_cmp w.facts (has_key key_cmp facts) (λ k. not (is_replaced w e i k))
            (λ k c. held k ∙ held_after_add o k ∙ by (has_key key_cmp (coming_with w e i o) k) (is_replaced w e i k) (holds w k.0 k.1) (none_replaced o k) (there_key key_cmp key_cmp_total w.facts k c)))
            ∙ keys-without key_cmp w.facts (is_replaced w e i)
          where
            by : (a g b : Bool) → (a ≡ true → g ≡ false) → b ≡ true → (a || (not g && b)) ≡ not g
            by true g b f k = sym (ap not (f refl))
            by false true b f k = refl
            by false false b f k = k

        pub differences_of_facts : (written : List Key) → differences w (counted (with_facts w facts)) written
            ≡ record { born = None; died = []; came = filter (λ k. not (holds w k.0 k.1)) (keys (coming_with w e i o)); went = filter (is_replaced w e i) (keys w.facts); written = written }
        unfolding differences
        differences_of_facts written = λ j. record {
          born = none_born w (counted (with_facts w facts)) refl j;
          died = map (with_name w) (without_each nat_cmp w.live (is_live w) (λ k c. there_key nat_cmp nat_cmp_total w.live k c) j);
          came = those_come j;
          went = those_give_way j;
          written = written;
        }

-- after `add`, what comes and was not held has come, and what gave way has gone
pub differences_of_add : (w : WorldState) (e : EntityId) (i : Id) → IsWellFormed w → list_all (is_live w) (mentioned i) ≡ true
    → differences w (counted (effect w (Add e i))) (written_by (Add e i))
    ≡ record { born = None; died = []; came = filter (λ k. not (holds w k.0 k.1)) (keys (coming w e.index i)); went = filter (is_replaced w e.index i) (keys w.facts); written = [] }
unfolding effect facts_after_add
differences_of_add w e i h m =
    differences_of_facts w e.index i h m (new_base w e.index i) (facts_after_add w e.index i)
    (IsMap-with_base w e.index i (facts_with_added w e.index i) (new_base w e.index i) (IsMap-add w e.index i (h.in_order).facts)) (λ q. refl) []

-- after `set` too, and the fact is written
pub differences_of_set : (w : WorldState) (e : EntityId) (i : Id) (vs : List ℤ) → IsWellFormed w → list_all (is_live w) (mentioned i) ≡ true
    → differences w (counted (effect w (SetValue e i vs))) (written_by (SetValue e i vs))
    ≡ record {
      born = None;
      died = [];
      came = filter (λ k. not (holds w k.0 k.1)) (keys (coming w e.index i));
      went = filter (is_replaced w e.index i) (keys w.facts);
      written = (e.index, i) ∷ [];
    }
unfolding effect facts_after_add
differences_of_set w e i vs h m = differences_of_facts w e.index i h m base facts (IsMap-with_value key_cmp key_cmp_total after k vs in_order) held (k ∷ [])
  where
    base : Option ℕ
    base = new_base w e.index i

    k : Key
    k = (e.index, i)

    after : Map Key (List ℤ)
    after = with_base w e.index i (facts_with_added w e.index i) base

    in_order : IsMap key_cmp after
    in_order = IsMap-with_base w e.index i (facts_with_added w e.index i) base (IsMap-add w e.index i (h.in_order).facts)

    facts : Map Key (List ℤ)
    facts = with_value key_cmp after k vs

    there : has_key key_cmp after k ≡ true
    there =
        held_after_add w e.index i base k
        ∙ or_left (has_key key_cmp (coming_with w e.index i base) k) (not (is_replaced w e.index i k) && holds w k.0 k.1)
        (elim (coming_at w e.index i base k) [ inl c ↦ c.1 | inr c ↦ c.1 ∙ (added_are_members w e.index i h m k).1 itself ])

    held : (q : Key) → has_key key_cmp facts q ≡ has_key key_cmp after q
    held q = elim (fact_value_at after k vs q) [ inl p ↦ ap is_some p.1 ∙ sym (ap (has_key key_cmp after) p.0 ∙ there) | inr p ↦ ap is_some p.1 ]
