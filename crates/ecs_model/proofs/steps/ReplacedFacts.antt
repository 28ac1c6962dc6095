-- What gives way to the added set, and the facts after `add`.
use Rattle.std.proofs.Common.{◌≡◌, ℕ, ◌==◌, ◌⊎◌, Bool, true, false, cond, not, IsTrue, List, [], ◌∷◌, refl, sym, ap, subst, ◌∙◌, inl, inr, arith, true≢false}
use Rattle.std.specs.Prelude.{ℤ, Some, None, fold, filter, is_some, if◌then◌else◌}
use Rattle.std.specs.List.{Contains, list_any}
use Rattle.std.specs.Cmp.{Equal-is, eq_by_cmp_equiv}
use Rattle.std.proofs.lemmas.List.Elements.{Contains-append_right}
use Rattle.ecs_id.specs.Id.{Id, plain, pair}
use Rattle.ecs_model.specs.Added.{displaced, is_exclusive, is_symmetric, others_of}
use Rattle.ecs_model.specs.BuiltIns.{exclusive, symmetric}
use Rattle.ecs_model.specs.steps.FactChanges.{added, facts_with_added, replaced, with_new}
use Rattle.ecs_model.specs.Links.{targets_in}
use Rattle.ecs_model.specs.Map.{Map, IsMap, has_key, keys, value_at, with_value, without}
use Rattle.ecs_model.specs.World.{WorldState, Key, key_cmp, key_eq, holds, ids_of, new_value}
use Rattle.ecs_model.proofs.Maps.{IsMap-with_value, fact_value_at, key_cmp_same, key_cmp_total}
use Rattle.ecs_model.proofs.Members.{any_passes, filtered, from_flat_map, head_or_tail, in_flat_map, passing}
use Rattle.ecs_model.proofs.Reasons.{refused}
use Rattle.ecs_model.proofs.Removals.{IsMap-without, value_at-without}
use Rattle.ecs_model.proofs.steps.AddedSets.{from_one, in_one}
use Rattle.ecs_model.proofs.steps.Facts.{holds_leads, is_held-holds, key_there, leads_holds, there_key}

pub key_eq_same : (q k : Key) → key_eq q k ≡ true → q ≡ k
key_eq_same q k e = key_cmp_same q k ((Equal-is (key_cmp q k)).0 e)

module _ (w : WorldState) where
  abbrev ids : ℕ → List Id
  ids = ids_of w

  -- z gives way to a: a is a pair of an exclusive relationship, and z the pair with another target, or its mirror
  pub record GivesWay (a z : Key) : Type 0 where
    pub r : ℕ
    pub t : ℕ
    pub u : ℕ
    pub is_pair : a ≡ (a.0, pair r t)
    pub only : holds w r (plain exclusive) ≡ true
    pub held : holds w a.0 (pair r u) ≡ true
    pub other : (u == t) ≡ false
    pub what : (z ≡ (a.0, pair r u)) ⊎ ((holds w r (plain symmetric) ≡ true) × (z ≡ (u, pair r a.0)))

  abbrev other_targets : ℕ → ℕ → ℕ → List ℕ
  other_targets e r t = filter (λ u. not (u == t)) (targets_in (ids e) r)

  abbrev with_mirror : ℕ → ℕ → ℕ → List Key
  with_mirror e r u = (e, pair r u) ∷ (if is_symmetric ids r then (u, pair r e) ∷ [] else [])

  if_exclusive : (b : Bool) (xs : List Key) (z : Key) → Contains (cond b xs []) z → (b ≡ true) × Contains xs z
  if_exclusive true xs z h = (refl, h)
  if_exclusive false xs z h = absurd (omega (arith, h.1))

  then_exclusive : (b : Bool) (xs : List Key) (z : Key) → b ≡ true → Contains xs z → Contains (cond b xs []) z
  then_exclusive true xs z e h = h
  then_exclusive false xs z e h = absurd (true≢false (sym e))

  pub from_displaced : (a z : Key) → Contains (displaced ids a) z → GivesWay a z
  from_displaced (e, plain c) z h = absurd (omega (arith, h.1))
  from_displaced (e, pair r t) z h =
      let inside = if_exclusive (is_exclusive ids r) (others_of (is_symmetric ids r) e r t (ids e)) z h in
      let found = from_flat_map (λ u. with_mirror e r u) (other_targets e r t) z inside.1 in
      let target = (filtered (λ u. not (u == t)) (targets_in (ids e) r) found.0).0 found.1 in
      record {
        r = r;
        t = t;
        u = found.0;
        is_pair = refl;
        only = sym (is_held-holds w r (plain exclusive)) ∙ inside.0;
        held = leads_holds w r e found.0 target.0;
        other = refused (found.0 == t) target.1;
        what = elim (head_or_tail {A = Key} (e, pair r found.0) z (if is_symmetric ids r then (found.0, pair r e) ∷ [] else []) found.2) [
          | inl q ↦ inl (sym q)
          | inr m ↦ let n = from_one {A = Key} (is_symmetric ids r) (found.0, pair r e) z m in inr (sym (is_held-holds w r (plain symmetric)) ∙ n.0, sym n.1)
        ];
      }

  in_displaced : (e r t u : ℕ) (z : Key) → holds w r (plain exclusive) ≡ true → holds w e (pair r u) ≡ true → (u == t) ≡ false → Contains (with_mirror e r u) z
      → Contains (displaced ids (e, pair r t)) z
  in_displaced e r t u z x h d m =
      then_exclusive (is_exclusive ids r) (others_of (is_symmetric ids r) e r t (ids e)) z (is_held-holds w r (plain exclusive) ∙ x)
      (in_flat_map (λ u. with_mirror e r u) (other_targets e r t) u z
      ((filtered (λ u. not (u == t)) (targets_in (ids e) r) u).1 (holds_leads w r e u h, λ j. not (d j))) m)

  -- the pair with another target gives way
  pub other_displaced : (e r t u : ℕ) → holds w r (plain exclusive) ≡ true → holds w e (pair r u) ≡ true → (u == t) ≡ false → Contains (displaced ids (e, pair r t)) (e, pair r u)
  other_displaced e r t u x h d = in_displaced e r t u (e, pair r u) x h d (0, omega arith, refl)

  -- and so does its mirror
  pub mirror_displaced : (e r t u : ℕ) → holds w r (plain exclusive) ≡ true → holds w r (plain symmetric) ≡ true → holds w e (pair r u) ≡ true → (u == t) ≡ false
      → Contains (displaced ids (e, pair r t)) (u, pair r e)
  mirror_displaced e r t u x s h d =
      in_displaced e r t u (u, pair r e) x h d
      (Contains-append_right ((e, pair r u) ∷ []) (if is_symmetric ids r then (u, pair r e) ∷ [] else []) (u, pair r e) (in_one {A = Key} (is_symmetric ids r) (u, pair r e) (is_held-holds w r (plain symmetric) ∙ s)))

  -- facts with some more, of which those that are new have new values
  abbrev with_all : Map Key (List ℤ) → List Key → Map Key (List ℤ)
  with_all m ks = fold (with_new w) m ks

  IsMap-with_new : (m : Map Key (List ℤ)) (k : Key) → IsMap key_cmp m → IsMap key_cmp (with_new w m k)
  IsMap-with_new m k h = by (has_key key_cmp m k)
    where
      by : (b : Bool) → IsMap key_cmp (if b then m else with_value key_cmp m k (new_value w k.1))
      by true = h
      by false = IsMap-with_value key_cmp key_cmp_total m k (new_value w k.1) h

  pub IsMap-with_all : (m : Map Key (List ℤ)) (ks : List Key) → IsMap key_cmp m → IsMap key_cmp (with_all m ks)
  IsMap-with_all m [] h = h
  IsMap-with_all m (k ∷ ks) h = IsMap-with_all (with_new w m k) ks (IsMap-with_new m k h)

  value-with_new : (m : Map Key (List ℤ)) (k q : Key)
      → ((q ≡ k) × (value_at key_cmp (with_new w m k) q ≡ Some (new_value w q.1))) ⊎ (value_at key_cmp (with_new w m k) q ≡ value_at key_cmp m q)
  value-with_new m k q = by (has_key key_cmp m k)
    where
      by : (b : Bool) → let n = if b then m else with_value key_cmp m k (new_value w k.1) in ((q ≡ k) × (value_at key_cmp n q ≡ Some (new_value w q.1))) ⊎ (value_at key_cmp n q ≡ value_at key_cmp m q)
      by true = inr refl
      by false = elim (fact_value_at m k (new_value w k.1) q) [ inl p ↦ inl (p.0, p.1 ∙ ap (λ (x : Key). Some (new_value w x.1)) (sym p.0)) | inr p ↦ inr p.1 ]

  -- each value is new, of one of these, or as it was
  value-with_all : (ks : List Key) (m : Map Key (List ℤ)) (q : Key)
      → (Contains ks q × (value_at key_cmp (with_all m ks) q ≡ Some (new_value w q.1))) ⊎ (value_at key_cmp (with_all m ks) q ≡ value_at key_cmp m q)
  value-with_all [] m q = inr refl
  value-with_all (k ∷ ks) m q =
      elim (value-with_all ks (with_new w m k) q) [
        | inl p ↦ inl (Contains-append_right (k ∷ []) ks q p.0, p.1)
        | inr p ↦ elim (value-with_new m k q) [ inl n ↦ inl ((0, omega arith, sym n.0), p ∙ n.1) | inr n ↦ inr (p ∙ n) ]
      ]

  new_there : (m : Map Key (List ℤ)) (k : Key) → has_key key_cmp (with_new w m k) k ≡ true
  new_there m k = by (has_key key_cmp m k) refl
    where
      by : (b : Bool) → has_key key_cmp m k ≡ b → has_key key_cmp (if b then m else with_value key_cmp m k (new_value w k.1)) k ≡ true
      by true e = e
      by false e = elim (fact_value_at m k (new_value w k.1) k) [ inl p ↦ ap is_some p.1 | inr p ↦ absurd (p.0 refl) ]

  still_there : (m : Map Key (List ℤ)) (ks : List Key) (q : Key) → has_key key_cmp m q ≡ true → has_key key_cmp (with_all m ks) q ≡ true
  still_there m ks q h = elim (value-with_all ks m q) [ inl p ↦ ap is_some p.1 | inr p ↦ ap is_some p ∙ h ]

  all_there : (m : Map Key (List ℤ)) (ks : List Key) (q : Key) → Contains ks q → has_key key_cmp (with_all m ks) q ≡ true
  all_there m [] q h = absurd (omega (arith, h.1))
  all_there m (k ∷ ks) q h =
      elim (head_or_tail k q ks h) [
        | inl e ↦ still_there (with_new w m k) ks q (rw (← e) (new_there m k))
        | inr t ↦ all_there (with_new w m k) ks q t
      ]

  module _ (e : ℕ) (i : Id) where
    -- whether a fact gives way to the added set
    abbrev pub is_replaced : Key → Bool
    is_replaced k = list_any (key_eq k) (replaced w e i)

    abbrev left : Map Key (List ℤ)
    left = without key_cmp w.facts is_replaced

    pub replaced_in : (q : Key) → is_replaced q ≡ true → (a : Key) × IsTrue (has_key key_cmp (added w e i) a) × Contains (displaced ids a) q
    unfolding replaced
    replaced_in q h =
        let k = passing (key_eq q) (replaced w e i) h in
        let found = from_flat_map (displaced ids) (keys (added w e i)) q (subst (Contains (replaced w e i)) (sym (key_eq_same q k.0 k.2)) k.1) in
        (found.0, there_key key_cmp key_cmp_total (added w e i) found.0 found.1, found.2)

    pub replaced_by : (q : Key) → is_replaced q ≡ true → (a : Key) × IsTrue (has_key key_cmp (added w e i) a) × GivesWay a q
    replaced_by q h = let r = replaced_in q h in (r.0, r.1, from_displaced r.0 q r.2)

    pub gives_way : (a q : Key) → has_key key_cmp (added w e i) a ≡ true → Contains (displaced ids a) q → is_replaced q ≡ true
    unfolding replaced
    gives_way a q h d =
        any_passes (key_eq q) (replaced w e i) q (in_flat_map (displaced ids) (keys (added w e i)) a q (key_there key_cmp key_cmp_same (added w e i) a h) d) ((eq_by_cmp_equiv key_cmp_total).refl q)

    pub IsMap-add : IsMap key_cmp w.facts → IsMap key_cmp (facts_with_added w e i)
    unfolding facts_with_added
    IsMap-add h = IsMap-with_all left (keys (added w e i)) (IsMap-without w.facts is_replaced h)

    pub added_there : (q : Key) → has_key key_cmp (added w e i) q ≡ true → has_key key_cmp (facts_with_added w e i) q ≡ true
    unfolding facts_with_added
    added_there q h = all_there left (keys (added w e i)) q (key_there key_cmp key_cmp_same (added w e i) q h)

    -- after `add` each fact is added and new, or gone, or as it was
    pub value-add : (q : Key)
        → (IsTrue (has_key key_cmp (added w e i) q) × (value_at key_cmp (facts_with_added w e i) q ≡ Some (new_value w q.1)))
        ⊎ (value_at key_cmp (facts_with_added w e i) q ≡ cond (not (is_replaced q)) (value_at key_cmp w.facts q) None)
    unfolding facts_with_added
    value-add q =
        elim (value-with_all (keys (added w e i)) left q) [
          | inl p ↦ inl (there_key key_cmp key_cmp_total (added w e i) q p.0, p.1)
          | inr p ↦ inr (p ∙ value_at-without w.facts is_replaced q)
        ]
