-- A fact that is held, of an id with fields, comes alone where its component or relationship brings none.
use Rattle.std.specs.Prelude.{◌==◌, ◌⊎◌, Option, Some, None, filter, flat_map, map, nat_le}
use Rattle.std.specs.List.{Contains, list_any, cons_option}
use Rattle.std.proofs.Common.{◌≡◌, ℕ, Bool, true, false, not, ◌&&◌, ◌||◌, List, [], ◌∷◌, ◌++◌, is_some, length, if◌then◌else◌, refl, sym, ap, subst, ◌∙◌, inl, inr, arith, true≢false}
use Rattle.std.proofs.lemmas.Bool.Decides.{nat_tests, Decides-eqb}
use Rattle.std.proofs.lemmas.List.Elements.{Contains-append_right}
use Rattle.ecs_id.specs.Id.{Id, plain, pair, first_of, id_cmp, mentioned}
use Rattle.ecs_model.specs.Added.{brought, displaced, is_exclusive, is_symmetric, mirror, with_first}
use Rattle.ecs_model.specs.BuiltIns.{acyclic, exclusive, is_a, on_delete, on_delete_target, on_instantiate, with_trait}
use Rattle.ecs_model.specs.Copied.{is_copied}
use Rattle.ecs_model.specs.Links.{target_under, targets_in, upward}
use Rattle.ecs_model.specs.Map.{value_at}
use Rattle.ecs_model.specs.Reach.{Reached}
use Rattle.std.specs.Ordering.{nat_cmp}
use Rattle.std.specs.Option.{option_or}
use Rattle.ecs_model.specs.Schema.{Schema}
use Rattle.ecs_model.specs.World.{WorldState, Key, key_cmp, first_world, holds, ids_of, is_built_in, pair_is_tag, type_of_id}
use Rattle.ecs_model.specs.steps.WellFormed.{IsWellFormed}
use Rattle.ecs_model.specs.steps.StepLaws.{ClosesAt}
use Rattle.ecs_model.specs.steps.Rules.{is_trait}
use Rattle.ecs_model.proofs.Reasons.{denied, neither, refused}
use Rattle.ecs_model.proofs.steps.Facts.{holds_leads, is_held-holds, leads_holds}
use Rattle.ecs_model.proofs.steps.LivingIds.{built_in_mentions, refuted}
use Rattle.rel_traits.specs.Simple.{ComesAlone, is_unmirrored, leads_to_copies}
use Rattle.ecs_world.specs.Columns.{may_bring}

-- no pair of the relationship, so no target
no_targets : (r : ℕ) (is : List Id) → list_any (λ j. is_some (target_under r j)) is ≡ false → targets_in is r ≡ []
no_targets r [] h = refl
no_targets r (i ∷ is) h =
    let parts = neither (is_some (target_under r i)) (list_any (λ j. is_some (target_under r j)) is) h in by (target_under r i) parts.0 (no_targets r is parts.1)
  where
    by : (o : Option ℕ) → is_some o ≡ false → targets_in is r ≡ [] → cons_option o (targets_in is r) ≡ []
    by None none rest = rest
    by (Some t) none rest = absurd (true≢false none)

none_left : {A : Type 0} (p : A → Bool) (xs : List A) → ((x : A) → Contains xs x → p x ≡ false) → filter p xs ≡ []
none_left p [] h = refl
none_left p (x ∷ xs) h = ap (λ b. if b then x ∷ filter p xs else filter p xs) (h x (0, omega arith, refl)) ∙ none_left p xs (λ y c. h y (Contains-append_right (x ∷ []) xs y c))

-- relationships that keep their pairs without data from the first world on
tagged : (m : ℕ) → Bool
tagged m = holds first_world m (plain pair_is_tag)

tagged_is_a : tagged is_a ≡ true
unfolding tagged first_world key_cmp id_cmp
tagged_is_a = refl

tagged_with : tagged with_trait ≡ true
unfolding tagged first_world key_cmp id_cmp
tagged_with = refl

tagged_on_delete : tagged on_delete ≡ true
unfolding tagged first_world key_cmp id_cmp
tagged_on_delete = refl

tagged_on_delete_target : tagged on_delete_target ≡ true
unfolding tagged first_world key_cmp id_cmp
tagged_on_delete_target = refl

tagged_on_instantiate : tagged on_instantiate ≡ true
unfolding tagged first_world key_cmp id_cmp
tagged_on_instantiate = refl

module _ (w : WorldState) (h : IsWellFormed w) (fs : Schema) where
  -- an id with fields is of no relationship without data
  untagged : (r t : ℕ) → type_of_id w (pair r t) ≡ Some fs → holds w r (plain pair_is_tag) ≡ true → ⊥
  untagged r t typed held =
      let none : None ≡ Some fs = sym (ap (λ b. if b then None else option_or (value_at nat_cmp w.schemas r) (value_at nat_cmp w.schemas t)) held) ∙ typed in absurd cc

  other_than : (r t m : ℕ) → type_of_id w (pair r t) ≡ Some fs → is_built_in m ≡ true → tagged m ≡ true → (r == m) ≡ false
  unfolding tagged
  other_than r t m typed own there = refuted (r == m) (λ same.
      untagged r t typed (ap (λ x. holds w x (plain pair_is_tag)) ((Decides-eqb r m).0 same) ∙ ap is_some ((h.built_in).facts m (plain pair_is_tag) own) ∙ there))

  -- it is no trait
  no_trait : (i : Id) → type_of_id w i ≡ Some fs → is_trait i ≡ false
  no_trait (plain c) typed = refuted (nat_le exclusive c && nat_le c pair_is_tag) (λ trait.
      let own : is_built_in c ≡ true = grind (arith, nat_tests) in
      let none : None ≡ Some fs = sym ((h.built_in).schemas c own) ∙ typed in absurd cc)
  no_trait (pair r t) typed =
      (λ k. other_than r t with_trait typed refl tagged_with k || other_than r t on_delete typed refl tagged_on_delete k
      || other_than r t on_delete_target typed refl tagged_on_delete_target k || other_than r t on_instantiate typed refl tagged_on_instantiate k)

  no_copies : (i : Id) → type_of_id w i ≡ Some fs → leads_to_copies (ids_of w) i ≡ false
  no_copies (plain c) typed = refl
  no_copies (pair r t) typed = ap (λ b. b && list_any (is_copied (ids_of w) []) (ids_of w t)) (other_than r t is_a typed refl tagged_is_a)

  no_mirror : (e : ℕ) (i : Id) → not (is_unmirrored (ids_of w) i) ≡ false → mirror (ids_of w) (e, i) ≡ []
  no_mirror e (plain c) none = refl
  no_mirror e (pair r t) none = ap (λ b. if b then (t, pair r e) ∷ [] else []) (refused (is_symmetric (ids_of w) r) (denied (not (is_symmetric (ids_of w) r)) none))

  brings : (e : ℕ) (i : Id) → targets_in (ids_of w (first_of i)) with_trait ≡ [] → mirror (ids_of w) (e, i) ≡ [] → brought (ids_of w) (e, i) ≡ []
  brings e i leads alone = λ k. map (λ c. (e, with_first c i)) (leads k) ++ alone k

  -- no other target is there that could give way
  displaces : (e : ℕ) (i : Id) → holds w e i ≡ true → displaced (ids_of w) (e, i) ≡ []
  displaces e (plain c) held = refl
  displaces e (pair r t) held = by (is_exclusive (ids_of w) r) refl
    where
      by : (b : Bool) → is_exclusive (ids_of w) r ≡ b → ◌≡◌ {A = List Key}
          (if b then flat_map (λ u. (e, pair r u) ∷ (if is_symmetric (ids_of w) r then (u, pair r e) ∷ [] else [])) (filter (λ u. not (u == t)) (targets_in (ids_of w e) r)) else []) []
      by true one =
          ap (λ us. flat_map (λ u. (e, pair r u) ∷ (if is_symmetric (ids_of w) r then (u, pair r e) ∷ [] else [])) us)
          (none_left (λ u. not (u == t)) (targets_in (ids_of w e) r) (λ u there.
          let same : t ≡ u = (h.traits).one_target e r t u (sym (is_held-holds w r (plain exclusive)) ∙ one) held (leads_holds w r e u there) in
          ap not ((Decides-eqb u t).1 (sym same))))
      by false several = refl

  -- it closes no cycle, as it is there
  closes : (e : ℕ) (i : Id) → holds w e i ≡ true → ClosesAt (ids_of w) e (e, i) → ⊥
  closes e (plain c) held (t, target, banned, led) = let none : Some t ≡ None = target in absurd cc
  closes e (pair r t) held (u, target, banned, led) = elim led [
    | inl other ↦ other refl
    | inr back ↦
        let two : Some u ≡ Some t = target in let same : u ≡ t = cc in
        (h.traits).no_cycle r (sym (is_held-holds w r (plain acyclic)) ∙ banned) e (t, holds_leads w r e t held, subst (λ x. Reached (upward (ids_of w) r) x e) same back)
  ]

  pub alone_held : (e : ℕ) (i : Id) → holds w e i ≡ true → type_of_id w i ≡ Some fs → may_bring (ids_of w) i ≡ false → ComesAlone (ids_of w) (e, i)
  alone_held e i held typed quiet =
      let parts = neither (list_any (λ j. is_some (target_under with_trait j)) (ids_of w (first_of i))) (not (is_unmirrored (ids_of w) i)) quiet in
      record {
        no_trait = no_trait i typed;
        no_copies = no_copies i typed;
        brings = brings e i (no_targets with_trait (ids_of w (first_of i)) parts.0) (no_mirror e i parts.1);
        displaces = displaces e i held;
        closes = closes e i held;
      }

  -- what a built-in entity holds has no fields
  pair_untyped : (r t : ℕ) → value_at nat_cmp w.schemas r ≡ None → value_at nat_cmp w.schemas t ≡ None → type_of_id w (pair r t) ≡ Some fs → ⊥
  pair_untyped r t first second typed = by (holds w r (plain pair_is_tag)) typed
    where
      by : (b : Bool) → (if b then None else option_or (value_at nat_cmp w.schemas r) (value_at nat_cmp w.schemas t)) ≡ Some fs → ⊥
      by true is = absurd cc
      by false is =
          let both : option_or (value_at nat_cmp w.schemas r) (value_at nat_cmp w.schemas t) ≡ None = λ k. option_or (first k) (second k) in
          let none : None ≡ Some fs = sym both ∙ is in absurd cc

  pub built_in_untyped : (e : ℕ) (i : Id) → holds w e i ≡ true → type_of_id w i ≡ Some fs → is_built_in e ≡ false
  built_in_untyped e i held typed = refuted (is_built_in e) (λ own. by i (built_in_mentions w h e i own held) typed)
    where
      by : (j : Id) → ((x : ℕ) → Contains (mentioned j) x → is_built_in x ≡ true) → type_of_id w j ≡ Some fs → ⊥
      by (plain c) mentions is = let none : None ≡ Some fs = sym ((h.built_in).schemas c (mentions c (0, omega arith, refl))) ∙ is in absurd cc
      by (pair r t) mentions is = pair_untyped r t ((h.built_in).schemas r (mentions r (0, omega arith, refl))) ((h.built_in).schemas t (mentions t (1, omega arith, refl))) is
