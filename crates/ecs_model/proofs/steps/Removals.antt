-- A world stays well formed when a fact goes that is no trait and not of a built-in entity, with its mirror.
use Rattle.std.proofs.Common.{◌≡◌, ℕ, ◌≤◌, ◌==◌, ◌⊎◌, Bool, true, false, cond, not, List, [], ◌∷◌, length, refl, sym, ap, subst, ◌∙◌, inl, inr, arith, true≢false}
use Rattle.std.specs.Prelude.{ℤ, Option, Some, None, is_some, if◌then◌else◌}
use Rattle.std.specs.List.{Contains, list_any}
use Rattle.std.specs.Option.{option_or}
use Rattle.std.specs.Ordering.{nat_cmp}
use Rattle.std.specs.Cmp.{eq_by_cmp_equiv}
use Rattle.std.proofs.lemmas.List.Elements.{Contains-append_right}
use Rattle.ecs_id.specs.Id.{Id, plain, pair, mentioned}
use Rattle.ecs_model.specs.Added.{mirror}
use Rattle.ecs_model.specs.BuiltIns.{acyclic, symmetric, on_instantiate}
use Rattle.ecs_model.specs.steps.Outcomes.{counted, is_spent, with_facts}
use Rattle.ecs_model.specs.Map.{Map, has_key, value_at, without}
use Rattle.ecs_model.specs.World.{WorldState, Key, key_cmp, key_eq, holds, ids_of, is_built_in, pair_is_tag, type_of_id, value_of}
use Rattle.ecs_model.specs.steps.FactChanges.{facts_after_remove, removed}
use Rattle.ecs_model.specs.steps.WellFormed.{IsWellFormed}
use Rattle.ecs_model.specs.steps.Rules.{is_trait}
use Rattle.ecs_model.proofs.Additions.{not_spent}
use Rattle.ecs_model.proofs.Maps.{if_some, key_cmp_total, of_some}
use Rattle.ecs_model.proofs.Members.{any_passes, head_or_tail, passing}
use Rattle.ecs_model.proofs.Removals.{IsMap-without, fewer, value_at-without}
use Rattle.ecs_model.proofs.TypedValues.{IsTyped}
use Rattle.ecs_model.proofs.steps.AddedSets.{from_mirror, in_mirror}
use Rattle.ecs_model.proofs.steps.FewerPairs.{IsFewer, fewer_keep}
use Rattle.ecs_model.proofs.steps.LivingIds.{built_in_mentions, refuted}
use Rattle.ecs_model.proofs.steps.Additions.{no_pair, no_value, same_parts}
use Rattle.ecs_model.proofs.steps.ReplacedFacts.{key_eq_same}

-- q is the mirror of the fact
record IsMirror (w : WorldState) (e : ℕ) (i : Id) (q : Key) : Type 0 where
  r : ℕ
  t : ℕ
  is_pair : i ≡ pair r t
  both : holds w r (plain symmetric) ≡ true
  is : q ≡ (t, pair r e)

module _ (w : WorldState) (e : ℕ) (i : Id) where
  -- whether a fact goes
  abbrev goes : Key → Bool
  goes k = list_any (key_eq k) (removed w e i)

  mirror_of : (j : Id) (q : Key) → i ≡ j → Contains (mirror (ids_of w) (e, j)) q → IsMirror w e i q
  mirror_of (plain c) q is m = absurd (omega (arith, m.1))
  mirror_of (pair r t) q is m = let found = from_mirror w e r t q m in record { r = r; t = t; is_pair = is; both = found.0; is = sym found.1 }

  -- what goes is the fact or its mirror
  gone_is : (q : Key) → goes q ≡ true → (q ≡ (e, i)) ⊎ IsMirror w e i q
  gone_is q g =
      let k = passing (key_eq q) (removed w e i) g in
      let there : Contains (removed w e i) q = subst (Contains (removed w e i)) (sym (key_eq_same q k.0 k.2)) k.1 in
      elim (head_or_tail {A = Key} (e, i) q (mirror (ids_of w) (e, i)) there) [ inl s ↦ inl (sym s) | inr m ↦ inr (mirror_of i q refl m) ]

  it_goes : (q : Key) → Contains (removed w e i) q → goes q ≡ true
  it_goes q c = any_passes (key_eq q) (removed w e i) q c ((eq_by_cmp_equiv key_cmp_total).refl q)

  itself_goes : goes (e, i) ≡ true
  itself_goes = it_goes (e, i) (0, omega arith, refl)

  mirror_goes : (r t : ℕ) → i ≡ pair r t → holds w r (plain symmetric) ≡ true → goes (t, pair r e) ≡ true
  mirror_goes r t is s =
      it_goes (t, pair r e) (Contains-append_right ((e, i) ∷ []) (mirror (ids_of w) (e, i)) (t, pair r e) (subst (λ j. Contains (mirror (ids_of w) (e, j)) (t, pair r e)) (sym is) (in_mirror w e r t s)))

  module _ (h : IsWellFormed w) (own : is_built_in e ≡ false) (fixed : is_trait i ≡ false) where
    abbrev facts : Map Key (List ℤ)
    facts = without key_cmp w.facts goes

    abbrev after : WorldState
    after = counted (with_facts w facts)

    at : (q : Key) → value_at key_cmp facts q ≡ cond (not (goes q)) (value_at key_cmp w.facts q) None
    at q = value_at-without w.facts goes q

    was : {X : Type 0} (gone : Bool) (new old : Option X) → new ≡ cond (not gone) old None → (x : X) → new ≡ Some x → (gone ≡ false) × (old ≡ Some x)
    was true new old p x f = absurd (true≢false (sym (ap is_some f) ∙ ap is_some p))
    was false new old p x f = (refl, sym p ∙ f)

    was_held : (gone : Bool) (new old : Option (List ℤ)) → new ≡ cond (not gone) old None → is_some new ≡ true → (gone ≡ false) × (is_some old ≡ true)
    was_held true new old p f = absurd (true≢false (sym f ∙ ap is_some p))
    was_held false new old p f = (refl, sym (ap is_some p) ∙ f)

    held_before : (q : Key) → has_key key_cmp facts q ≡ true → (goes q ≡ false) × (has_key key_cmp w.facts q ≡ true)
    held_before q f = was_held (goes q) (value_at key_cmp facts q) (value_at key_cmp w.facts q) (at q) f

    stays : (q : Key) → goes q ≡ false → value_at key_cmp facts q ≡ value_at key_cmp w.facts q
    stays q g = at q ∙ ap (λ b. cond (not b) (value_at key_cmp w.facts q) None) g

    -- no trait goes
    trait_stays : (r c : ℕ) → is_trait (plain c) ≡ true → goes (r, plain c) ≡ false
    trait_stays r c is = refuted (goes (r, plain c)) none
      where
        none : goes (r, plain c) ≡ true → ⊥
        none g =
            elim (gone_is (r, plain c) g) [
              | inl q ↦ true≢false (sym is ∙ (ap (λ (k : Key). is_trait k.1) q ∙ fixed))
              | inr m ↦ no_pair r m.t c m.r e m.is
            ]

    -- if the mirror of a pair went, so did the pair
    mirror_stays : (f r t : ℕ) → holds w r (plain symmetric) ≡ true → goes (f, pair r t) ≡ false → goes (t, pair r f) ≡ false
    mirror_stays f r t s left = refuted (goes (t, pair r f)) none
      where
        none : goes (t, pair r f) ≡ true → ⊥
        none g =
            elim (gone_is (t, pair r f) g) [
              | inl q ↦ let first : t ≡ e = ap (λ (k : Key). k.0) q in
                  true≢false (sym (mirror_goes r f (sym (ap (λ (k : Key). k.1) q)) s) ∙ (ap (λ n. goes (f, pair r n)) (sym first) ∙ left))
              | inr m ↦ let same = same_parts t m.t r m.r f e m.is in
                  true≢false (sym itself_goes ∙ (ap goes (λ j. (sym same.2 j, (m.is_pair ∙ (λ k. pair (sym same.1 k) (sym same.0 k))) j)) ∙ left))
            ]

    fewer_pairs : IsFewer w after
    fewer_pairs = record {
      pairs = λ f r t p. (held_before (f, pair r t) p).1;
      traits = λ r c is p. (held_before (r, plain c) p).1;
      mirrors = λ f r t s p m. ap is_some (stays (t, pair r f) (mirror_stays f r t (held_before (r, plain symmetric) s).1 (held_before (f, pair r t) p).0)) ∙ m;
      acyclics = λ r p m. ap is_some (stays (r, plain acyclic) (trait_stays r acyclic refl)) ∙ m;
    }

    built_in_facts : (f : ℕ) (j : Id) → is_built_in f ≡ true → value_at key_cmp facts (f, j) ≡ value_of w f j
    built_in_facts f j b = at (f, j) ∙ by (goes (f, j)) refl
      where
        none : goes (f, j) ≡ true → holds w f j ≡ true → ⊥
        none g held =
            elim (gone_is (f, j) g) [
              | inl q ↦ true≢false (sym b ∙ (ap (λ (k : Key). is_built_in k.0) q ∙ own))
              | inr m ↦ true≢false (sym (built_in_mentions w h f j b held e (subst (λ (k : Key). Contains (mentioned k.1) e) (sym m.is) (1, omega arith, refl))) ∙ own)
            ]

        by : (c : Bool) → goes (f, j) ≡ c → cond (not c) (value_of w f j) None ≡ value_of w f j
        by true g = no_value (value_of w f j) (refuted (holds w f j) (none g))
        by false g = refl

    types_kept : (j : Id) → type_of_id after j ≡ type_of_id w j
    types_kept (plain c) = refl
    types_kept (pair r t) =
        ap (λ b. if b then None else option_or (value_at nat_cmp w.schemas r) (value_at nat_cmp w.schemas t)) (ap is_some (stays (r, plain pair_is_tag) (trait_stays r pair_is_tag refl)))

    pub removal_types : (j : Id) → type_of_id (counted (with_facts w (facts_after_remove w e i))) j ≡ type_of_id w j
    unfolding facts_after_remove
    removal_types j = types_kept j

    pub removal_traits : (r c : ℕ) → is_trait (plain c) ≡ true → holds (counted (with_facts w (facts_after_remove w e i))) r (plain c) ≡ holds w r (plain c)
    unfolding facts_after_remove
    removal_traits r c is = ap is_some (stays (r, plain c) (trait_stays r c is))

    -- nor does a mode
    pub removal_modes : (r m : ℕ) → holds (counted (with_facts w (facts_after_remove w e i))) r (pair on_instantiate m) ≡ holds w r (pair on_instantiate m)
    unfolding facts_after_remove
    removal_modes r m = ap is_some (stays (r, pair on_instantiate m) (refuted (goes (r, pair on_instantiate m)) none))
      where
        none : goes (r, pair on_instantiate m) ≡ true → ⊥
        none g =
            elim (gone_is (r, pair on_instantiate m) g) [
              | inl q ↦ true≢false (ap (λ (k : Key). is_trait k.1) q ∙ fixed)
              | inr n ↦ let same = same_parts r n.t on_instantiate n.r m e n.is in
                  true≢false (ap (λ x. is_trait (pair x n.t)) same.1 ∙ (sym (ap is_trait n.is_pair) ∙ fixed))
            ]

    still_typed : (f : ℕ) (j : Id) (x : List ℤ) → value_at key_cmp facts (f, j) ≡ Some x → IsTyped (type_of_id w j) x
    still_typed f j x found = of_some (IsTyped (type_of_id w j)) (value_of w f j) (h.typed f j) x (was (goes (f, j)) (value_at key_cmp facts (f, j)) (value_of w f j) (at (f, j)) x found).1

    few : (f : ℕ) → length (ids_of after f) ≤ 64
    few f = let less = fewer (λ (k : Key). if k.0 == f then Some k.1 else None) w.facts goes in omega (arith, less, h.few_ids f)

    pub removal_keeps : is_spent w ≡ false → IsWellFormed (counted (with_facts w (facts_after_remove w e i)))
    unfolding facts_after_remove
    removal_keeps spent = record {
      in_order = record {
        live = (h.in_order).live;
        facts = IsMap-without w.facts goes (h.in_order).facts;
        names = (h.in_order).names;
        schemas = (h.in_order).schemas;
        deletions = (h.in_order).deletions;
        pins = (h.in_order).pins;
      };
      indexes = record { given_out = (h.indexes).given_out; generation = (h.indexes).generation };
      built_in = record {
        live = (h.built_in).live;
        names = (h.built_in).names;
        facts = λ f j b. built_in_facts f j b ∙ (h.built_in).facts f j b;
        schemas = (h.built_in).schemas;
      };
      live = record {
        names = (h.live).names;
        names_differ = (h.live).names_differ;
        schemas = (h.live).schemas;
        pins = (h.live).pins;
        facts = λ f j held. (h.live).facts f j (held_before (f, j) held).1;
      };
      typed = λ f j. if_some (IsTyped (type_of_id after j)) (value_of after f j) (λ x found. subst (λ o. IsTyped o x) (sym (types_kept j)) (still_typed f j x found));
      few_ids = few;
      counted = not_spent w.accepted spent;
      traits = fewer_keep w after h.traits fewer_pairs;
    }
