-- What comes, put there with new values, and the copies written afterwards: the base's facts are still there to be read.
use Rattle.std.proofs.Common.{◌≡◌, ℕ, ◌==◌, ◌⊎◌, Bool, true, false, cond, not, ◌&&◌, ◌||◌, IsTrue, List, [], ◌∷◌, refl, sym, ap, subst, ◌∙◌, inl, inr, arith, true≢false}
use Rattle.std.specs.Prelude.{ℤ, Option, Some, None, fold, is_some, if◌then◌else◌}
use Rattle.std.specs.List.{Contains, list_all, list_any}
use Rattle.std.specs.FinMap.Entries.{is_some-find, same_entries}
use Rattle.std.proofs.lemmas.List.Elements.{Contains-append_right}
use Rattle.ecs_id.specs.declared.EntityId.{EntityId}
use Rattle.ecs_id.specs.Id.{Id, plain, pair, mentioned}
use Rattle.ecs_model.specs.Added.{IsAdded}
use Rattle.ecs_model.specs.BuiltIns.{exclusive, is_a, symmetric}
use Rattle.ecs_model.specs.steps.FactChanges.{added, copied, facts_after_add, facts_with_added, new_base, with_new}
use Rattle.ecs_model.specs.steps.Outcomes.{counted, with_facts}
use Rattle.ecs_model.specs.Map.{Map, IsMap, has_key, keys, value_at, without}
use Rattle.ecs_model.specs.Refusal.{first_reason}
use Rattle.ecs_model.specs.World.{WorldState, Key, key_cmp, holds, ids_of, is_live, new_value, type_of_id, value_of}
use Rattle.ecs_model.specs.steps.Step.{Add, reasons}
use Rattle.ecs_model.specs.steps.WellFormed.{IsWellFormed}
use Rattle.ecs_model.proofs.Maps.{key_cmp_same, key_cmp_total, of_some, to_T}
use Rattle.ecs_model.proofs.Members.{any_passes, both, eq_itself, eq_same, head_or_tail, or_left}
use Rattle.ecs_model.proofs.Removals.{IsMap-without, value_at-without}
use Rattle.ecs_model.proofs.TypedValues.{IsTyped, zeros_typed}
use Rattle.ecs_model.proofs.steps.AcceptedFacts.{accepted_add, held_alike_keep}
use Rattle.ecs_model.proofs.steps.AddedSets.{HasForm, added_are_members, added_form}
use Rattle.ecs_model.proofs.steps.AddEffects.{all_at, held_after_add, value_with_added}
use Rattle.ecs_model.proofs.steps.CopiedIds.{CopiedFrom, IsMap-coming, IsMap-with_base, IsMap-with_each, base_value, coming_at, coming_with, no_other, not_held, not_symmetric, of_base, some_value, value-with_base, value-with_each, with_base, with_each}
use Rattle.ecs_model.proofs.steps.Cycles.{both_ways}
use Rattle.ecs_model.proofs.steps.Facts.{key_there}
use Rattle.ecs_model.proofs.steps.LivingIds.{refuted}
use Rattle.ecs_model.proofs.steps.Additions.{IsAddition, no_pair, same_parts}
use Rattle.ecs_model.proofs.steps.ReplacedFacts.{IsMap-add, IsMap-with_all, is_replaced, replaced_by}

-- the facts where all that comes has come with new values, copies too
abbrev pub facts_brought : WorldState → ℕ → Id → Option ℕ → Map Key (List ℤ)
facts_brought w e i o = fold (with_new w) (without key_cmp w.facts (is_replaced w e i)) (keys (coming_with w e i o))

module _ (w : WorldState) (e : ℕ) (i : Id) (o : Option ℕ) where
  abbrev stays : Map Key (List ℤ)
  stays = without key_cmp w.facts (is_replaced w e i)

  pub value_brought : (q : Key)
      → value_at key_cmp (facts_brought w e i o) q
      ≡ cond (has_key key_cmp stays q) (value_at key_cmp stays q) (cond (has_key key_cmp (coming_with w e i o) q) (Some (new_value w q.1)) None)
  value_brought q =
      all_at w (keys (coming_with w e i o)) stays q
      ∙ ap (λ b. cond (has_key key_cmp stays q) (value_at key_cmp stays q) (cond b (Some (new_value w q.1)) None)) (sym (is_some-find key_cmp q (coming_with w e i o)))

  joined : (a b : Bool) (o : Option (List ℤ)) (x : List ℤ) → a ≡ is_some o → is_some (cond a o (cond b (Some x) None)) ≡ (b || a)
  joined true true (Some y) x e = refl
  joined true false (Some y) x e = refl
  joined true b None x e = absurd (true≢false e)
  joined false true o x e = refl
  joined false false o x e = refl

  left_at : (q : Key) → has_key key_cmp stays q ≡ (not (is_replaced w e i q) && holds w q.0 q.1)
  left_at q = ap is_some (value_at-without w.facts (is_replaced w e i) q) ∙ by (is_replaced w e i q) (value_at key_cmp w.facts q)
    where
      by : (b : Bool) (o : Option (List ℤ)) → is_some (cond (not b) o None) ≡ (not b && is_some o)
      by true o = refl
      by false o = refl

  pub held_brought : (q : Key) → has_key key_cmp (facts_brought w e i o) q ≡ (has_key key_cmp (coming_with w e i o) q || (not (is_replaced w e i q) && holds w q.0 q.1))
  held_brought q =
      ap is_some (value_brought q)
      ∙ joined (has_key key_cmp stays q) (has_key key_cmp (coming_with w e i o) q) (value_at key_cmp stays q) (new_value w q.1) refl
      ∙ ap (λ b. has_key key_cmp (coming_with w e i o) q || b) (left_at q)

  pub IsMap-brought : IsMap key_cmp w.facts → IsMap key_cmp (facts_brought w e i o)
  IsMap-brought h = IsMap-with_all w stays (keys (coming_with w e i o)) (IsMap-without w.facts (is_replaced w e i) h)

-- without a base these are the facts with the added set
pub none_brought : (w : WorldState) (e : ℕ) (i : Id) → facts_brought w e i None ≡ facts_with_added w e i
unfolding facts_with_added
none_brought w e i = refl

-- the copies written, the facts are those with copies
module _ (w : WorldState) (e : ℕ) (i : Id) (b : ℕ) (h : IsWellFormed w) where
  pub copies_written : with_each e (base_value w b) (facts_brought w e i (Some b)) (copied w e i b) ≡ with_base w e i (facts_with_added w e i) (Some b)
  copies_written =
      same_entries key_cmp key_cmp_total key_cmp_same _ _
      (to_T _ (IsMap-with_each e (base_value w b) (facts_brought w e i (Some b)) (copied w e i b) (IsMap-brought w e i (Some b) (h.in_order).facts)))
      (to_T _ (IsMap-with_base w e i (facts_with_added w e i) (Some b) (IsMap-add w e i (h.in_order).facts)))
      each
    where
      each : (q : Key) → value_at key_cmp (with_each e (base_value w b) (facts_brought w e i (Some b)) (copied w e i b)) q ≡ value_at key_cmp (with_base w e i (facts_with_added w e i) (Some b)) q
      each q =
          elim (value-with_each e (base_value w b) (copied w e i b) (facts_brought w e i (Some b)) q) [
            | inl p ↦ elim (value-with_each e (base_value w b) (copied w e i b) (facts_with_added w e i) q) [ inl n ↦ p.1 ∙ sym n.1 | inr n ↦ absurd (n.0 p.0) ]
            | inr p ↦ elim (value-with_each e (base_value w b) (copied w e i b) (facts_with_added w e i) q) [
              | inl n ↦ absurd (p.0 n.0)
              | inr n ↦ p.1 ∙ value_brought w e i (Some b) q ∙ alike p.0 ∙ sym (value_with_added w e i q) ∙ sym n.1
            ]
          ]
        where
          alike : ¬ ((q.0 ≡ e) × Contains (copied w e i b) q.1)
              → cond (has_key key_cmp (stays w e i (Some b)) q) (value_at key_cmp (stays w e i (Some b)) q) (cond (has_key key_cmp (coming_with w e i (Some b)) q) (Some (new_value w q.1)) None)
              ≡ cond (has_key key_cmp (stays w e i (Some b)) q) (value_at key_cmp (stays w e i (Some b)) q) (cond (has_key key_cmp (added w e i) q) (Some (new_value w q.1)) None)
          alike other =
              elim (coming_at w e i (Some b) q) [
                | inl c ↦ absurd (other ((c.0).2, (let same : b ≡ (c.0).0 = cc in rw same (c.0).3)))
                | inr c ↦ ap (λ t. cond (has_key key_cmp (stays w e i (Some b)) q) (value_at key_cmp (stays w e i (Some b)) q) (cond t (Some (new_value w q.1)) None)) c.1
              ]

-- while some copies are written, the facts are those of an addition
module _ (w : WorldState) (e : ℕ) (i : Id) (b : ℕ) (h : IsWellFormed w) (m : list_all (is_live w) (mentioned i) ≡ true) where
  pub partly_written : (cs : List Id) → ((c : Id) → Contains cs c → Contains (copied w e i b) c) → IsAddition w e i (Some b) (with_each e (base_value w b) (facts_brought w e i (Some b)) cs)
  partly_written cs those = record {
    in_order = IsMap-with_each e (base_value w b) facts cs (IsMap-brought w e i (Some b) (h.in_order).facts);
    there = λ q n.
        elim (value-with_each e (base_value w b) cs facts q) [
          | inl p ↦ ap is_some p.1
          | inr p ↦ ap is_some p.1 ∙ held_brought w e i (Some b) q ∙ or_left (has_key key_cmp (coming_with w e i (Some b)) q) (not (is_replaced w e i q) && holds w q.0 q.1) (comes q n)
        ];
    each = λ q.
        elim (value-with_each e (base_value w b) cs facts q) [
          | inl p ↦ inl (inr (b, refl, (p.0).0, those q.1 (p.0).1), λ x found. typed q.1 (those q.1 (p.0).1) x (sym p.1 ∙ found))
          | inr p ↦ elim (coming_at w e i (Some b) q) [
            | inl c ↦ inl (inr c.0, λ x found. new q x (c.1) (sym p.1 ∙ found))
            | inr c ↦ by q (has_key key_cmp (added w e i) q) refl c.1 p.1
          ]
        ];
  }
    where
      facts : Map Key (List ℤ)
      facts = facts_brought w e i (Some b)

      comes : (q : Key) → IsAdded (ids_of w) (e, i) q ⊎ CopiedFrom w e i (Some b) q → has_key key_cmp (coming_with w e i (Some b)) q ≡ true
      comes q n = elim (coming_at w e i (Some b) q) [
        | inl c ↦ c.1
        | inr c ↦ elim n [ inl a ↦ c.1 ∙ (added_are_members w e i h m q).1 a | inr x ↦ absurd (c.0 x) ]
      ]

      typed : (c : Id) → Contains (copied w e i b) c → (x : List ℤ) → Some (base_value w b c) ≡ Some x → IsTyped (type_of_id w c) x
      typed c is x found = of_some (IsTyped (type_of_id w c)) (value_of w b c) (h.typed b c) x (sym (some_value (value_of w b c) (of_base w e i b c is)) ∙ found)

      new : (q : Key) (x : List ℤ) → has_key key_cmp (coming_with w e i (Some b)) q ≡ true → value_at key_cmp facts q ≡ Some x → IsTyped (type_of_id w q.1) x
      new q x t found = cases (has_key key_cmp (stays w e i (Some b)) q) (value_at key_cmp (stays w e i (Some b)) q) (has_key key_cmp (coming_with w e i (Some b)) q) t refl (value_at-without w.facts (is_replaced w e i) q) (sym (value_brought w e i (Some b) q) ∙ found)
        where
          cases : (s : Bool) (o : Option (List ℤ)) (a : Bool) → a ≡ true → s ≡ is_some o → o ≡ cond (not (is_replaced w e i q)) (value_at key_cmp w.facts q) None → cond s o (cond a (Some (new_value w q.1)) None) ≡ Some x → IsTyped (type_of_id w q.1) x
          cases false o true u v r f = let is : new_value w q.1 ≡ x = cc in subst (IsTyped (type_of_id w q.1)) is (zeros_typed (type_of_id w q.1))
          cases true o a u v r f = was (is_replaced w e i q) (sym r ∙ f)
            where
              was : (g : Bool) → cond (not g) (value_at key_cmp w.facts q) None ≡ Some x → IsTyped (type_of_id w q.1) x
              was true p = absurd cc
              was false p = of_some (IsTyped (type_of_id w q.1)) (value_at key_cmp w.facts q) (h.typed q.0 q.1) x p
          cases false o false u v r f = absurd (true≢false (sym u))

      by : (q : Key) (a : Bool) → has_key key_cmp (added w e i) q ≡ a → has_key key_cmp (coming_with w e i (Some b)) q ≡ has_key key_cmp (added w e i) q
          → value_at key_cmp (with_each e (base_value w b) facts cs) q ≡ value_at key_cmp facts q
          → ((IsAdded (ids_of w) (e, i) q ⊎ CopiedFrom w e i (Some b) q) × ((x : List ℤ) → value_at key_cmp (with_each e (base_value w b) facts cs) q ≡ Some x → IsTyped (type_of_id w q.1) x))
          ⊎ (value_at key_cmp (with_each e (base_value w b) facts cs) q ≡ cond (not (is_replaced w e i q)) (value_at key_cmp w.facts q) None)
      by q true a same p = inl (inl ((added_are_members w e i h m q).0 a), λ x found. new q x (same ∙ a) (sym p ∙ found))
      by q false a same p = inr (p ∙ value_brought w e i (Some b) q ∙ left (has_key key_cmp (stays w e i (Some b)) q) (value_at key_cmp (stays w e i (Some b)) q) (has_key key_cmp (coming_with w e i (Some b)) q) refl (same ∙ a) ∙ value_at-without w.facts (is_replaced w e i) q)
        where
          left : (s : Bool) (o : Option (List ℤ)) (t : Bool) → s ≡ is_some o → t ≡ false → cond s o (cond t (Some (new_value w q.1)) None) ≡ o
          left true o t u v = refl
          left false None false u v = refl
          left false None true u v = absurd (true≢false v)
          left false (Some y) t u v = absurd (true≢false (sym u))

-- the same are held as when all are written
module _ (w : WorldState) (e : ℕ) (i : Id) where
  pub brought_held : (o : Option ℕ) (q : Key) → has_key key_cmp (facts_brought w e i o) q ≡ has_key key_cmp (with_base w e i (facts_with_added w e i) o) q
  brought_held o q = held_brought w e i o q ∙ sym (held_after_add w e i o q)

  pub partly_held : (b : ℕ) (cs : List Id) → ((c : Id) → Contains cs c → Contains (copied w e i b) c) → (q : Key)
      → has_key key_cmp (with_each e (base_value w b) (facts_brought w e i (Some b)) cs) q ≡ has_key key_cmp (with_base w e i (facts_with_added w e i) (Some b)) q
  partly_held b cs those q =
      elim (value-with_each e (base_value w b) cs (facts_brought w e i (Some b)) q) [
        | inl p ↦ ap is_some p.1
            ∙ sym (held_after_add w e i (Some b) q
            ∙ or_left (has_key key_cmp (coming_with w e i (Some b)) q) (not (is_replaced w e i q) && holds w q.0 q.1)
            (elim (coming_at w e i (Some b) q) [ inl c ↦ c.1 | inr c ↦ absurd (c.0 (b, refl, (p.0).0, those q.1 (p.0).1)) ]))
        | inr p ↦ ap is_some p.1 ∙ brought_held (Some b) q
      ]

-- so the world is well formed at each write
pub writing_keeps : (w : WorldState) (e : EntityId) (i : Id) (b : ℕ) (cs : List Id) → IsWellFormed w → first_reason (reasons w (Add e i)) ≡ None → new_base w e.index i ≡ Some b
    → ((c : Id) → Contains cs c → Contains (copied w e.index i b) c) → IsWellFormed (counted (with_facts w (with_each e.index (base_value w b) (facts_brought w e.index i (Some b)) cs)))
unfolding facts_after_add
writing_keeps w e i b cs h r base those =
    held_alike_keep w e i facts h r
    (subst (λ o. IsAddition w e.index i o facts) (sym base) (partly_written w e.index i b h ((accepted_add w e i h r).may).mentions cs those))
    (λ q. partly_held w e.index i b cs those q ∙ ap (λ o. has_key key_cmp (with_base w e.index i (facts_with_added w e.index i) o) q) (sym base))
  where
    facts : Map Key (List ℤ)
    facts = with_each e.index (base_value w b) (facts_brought w e.index i (Some b)) cs

-- and when the last is written, it is that of the command
pub written_is_added : (w : WorldState) (e : ℕ) (i : Id) (b : ℕ) → IsWellFormed w → new_base w e i ≡ Some b
    → with_each e (base_value w b) (facts_brought w e i (Some b)) (copied w e i b) ≡ facts_after_add w e i
unfolding facts_after_add
written_is_added w e i b h base = copies_written w e i b h ∙ ap (with_base w e i (facts_with_added w e i)) (sym base)

-- what is copied stays with the base, which is another entity
module _ (w : WorldState) (e r t : ℕ) (h : IsWellFormed w) (m : list_all (is_live w) (mentioned (pair r t)) ≡ true) where
  pub base_is_other : (c : Id) → Contains (copied w e (pair r t) t) c → (t == e) ≡ false
  base_is_other c is = refuted (t == e) (λ s. true≢false (sym (of_base w e (pair r t) t c is) ∙ (ap (λ x. holds w x c) (eq_same t e s) ∙ not_held w e (pair r t) t c is)))

  one_way : (q s : ℕ) → IsAdded (ids_of w) (e, pair r t) (t, pair q s) → (t == e) ≡ false → IsAdded (ids_of w) (e, pair r t) (e, pair q t)
  one_way q s n other =
      let f = added_form w h e (pair r t) m n in
      elim f.2 [
        | inl p ↦ absurd (true≢false (sym (eq_itself e) ∙ (ap (λ x. x == e) (sym (same_parts t e q f.0 s t p).0) ∙ other)))
        | inr p ↦ let same = same_parts t t q f.0 s e p in
            both_ways w h e r t m other (subst (λ x. IsAdded (ids_of w) (e, pair r t) (t, pair q x)) same.2 n) q refl
      ]

  pub base_stays : (c : Id) → Contains (copied w e (pair r t) t) c → is_replaced w e (pair r t) (t, c) ≡ false
  base_stays c is = refuted (is_replaced w e (pair r t) (t, c)) clash
    where
      other : (t == e) ≡ false
      other = base_is_other c is

      own : (q u : ℕ) → c ≡ pair q u → holds w q (plain exclusive) ≡ true → (s : ℕ) → IsAdded (ids_of w) (e, pair r t) (t, pair q s) → ⊥
      own q u same only s n =
          no_other w e (pair r t) t q u t (subst (Contains (copied w e (pair r t) t)) same is) only
          (inr ((added_are_members w e (pair r t) h m (e, pair q t)).1 (one_way q s n other)))

      clash : is_replaced w e (pair r t) (t, c) ≡ true → ⊥
      clash g =
          let by = replaced_by w e (pair r t) (t, c) g in
          let way = by.2 in
          let new = (added_are_members w e (pair r t) h m by.0).0 by.1 in
          elim way.what [
            | inl z ↦ let here : t ≡ by.0.0 = ap (λ (k : Key). k.0) z in
                own way.r way.u (ap (λ (k : Key). k.1) z) way.only way.t (subst (IsAdded (ids_of w) (e, pair r t)) (way.is_pair ∙ (λ j. (sym here j, pair way.r way.t))) new)
            | inr z ↦ true≢false (sym z.0 ∙ not_symmetric w e (pair r t) t way.r by.0.0 (subst (Contains (copied w e (pair r t) t)) (ap (λ (k : Key). k.1) z.1) is))
          ]

  -- so it can be read after all has come, and while copies are written
  pub base_read : (c : Id) → Contains (copied w e (pair r t) t) c → (cs : List Id) → value_at key_cmp (with_each e (base_value w t) (facts_brought w e (pair r t) (Some t)) cs) (t, c) ≡ value_of w t c
  base_read c is cs =
      elim (value-with_each e (base_value w t) cs (facts_brought w e (pair r t) (Some t)) (t, c)) [
        | inl p ↦ absurd (true≢false (sym (eq_itself e) ∙ (ap (λ x. x == e) (sym (p.0).0) ∙ base_is_other c is)))
        | inr p ↦ p.1 ∙ value_brought w e (pair r t) (Some t) (t, c) ∙ kept (has_key key_cmp (stays w e (pair r t) (Some t)) (t, c)) (value_at key_cmp (stays w e (pair r t) (Some t)) (t, c)) refl there ∙ left
      ]
    where
      left : value_at key_cmp (stays w e (pair r t) (Some t)) (t, c) ≡ value_of w t c
      left = value_at-without w.facts (is_replaced w e (pair r t)) (t, c) ∙ ap (λ g. cond (not g) (value_of w t c) None) (base_stays c is)

      there : is_some (value_at key_cmp (stays w e (pair r t) (Some t)) (t, c)) ≡ true
      there = ap is_some left ∙ of_base w e (pair r t) t c is

      kept : (s : Bool) (o : Option (List ℤ)) → s ≡ is_some o → is_some o ≡ true → cond s o (cond (has_key key_cmp (coming_with w e (pair r t) (Some t)) (t, c)) (Some (new_value w c)) None) ≡ o
      kept true o u v = refl
      kept false o u v = absurd (true≢false (sym v ∙ sym u))
