-- The next new entity by its properties: its index is the smallest free one.
use Rattle.std.proofs.Common.{◌≡◌, ◌↔◌, ℕ, zero, suc, ◌+◌, ◌-◌, ◌≤◌, ◌<◌, Bool, true, false, cond, Option, Some, None, option_map, refl, sym, ap, subst, ◌∙◌, arith, inl, inr, true≢false, not, ◌&&◌, ltb}
use Rattle.std.proofs.lemmas.Bool.{cases_eq}
use Rattle.std.proofs.lemmas.Option.{MatchOption-at_some, MatchOption-at_none}
use Rattle.std.specs.Option.{MatchOption, IfSome}
use Rattle.std.specs.Ordering.{nat_cmp}
use Rattle.std.specs.FinMap.{find}
use Rattle.ecs_id.specs.declared.EntityId.{EntityId}
use Rattle.ecs_id.specs.declared.Place.{Place}
use Rattle.ecs_model.specs.Map.{count_at}
use Rattle.ecs_model.specs.World.{first_index, first_passing, is_free, next_among}
use Rattle.entity_index.specs.Entities.{Entities, is_live, is_alive, place_of, with_entity, next_entity, IsNext, IsFull, IsWellFormed}
use Rattle.entity_index.proofs.NextEntity.{step}

abbrev NonePasses : (ℕ → Bool) → ℕ → ℕ → Type 0
NonePasses test i n = (q : ℕ) → i ≤ q → q < i + n → test q ≡ false

abbrev PassesFirst : (ℕ → Bool) → ℕ → ℕ → ℕ → Type 0
PassesFirst test i n j = (i ≤ j) × (j < i + n) × (test j ≡ true) × ((q : ℕ) → i ≤ q → q < j → test q ≡ false)

one_more : (test : ℕ → Bool) (i n : ℕ) (o : Option ℕ) → test i ≡ false → MatchOption o (NonePasses test (i + 1) n) (PassesFirst test (i + 1) n) → MatchOption o (NonePasses test i (suc n)) (PassesFirst test i (suc n))
one_more test i n None fails rest = λ q l r. elim (cases_eq q i) [ inl e ↦ ap test e ∙ fails | inr ne ↦ rest q (omega arith) (omega arith) ]
one_more test i n (Some j) fails rest = (omega (arith, rest.0), omega (arith, rest.1), rest.2, λ q l r. elim (cases_eq q i) [ inl e ↦ ap test e ∙ fails | inr ne ↦ rest.3 q (omega arith) r ])

first_passing-tells : (test : ℕ → Bool) (n i : ℕ) → MatchOption (first_passing test n i) (NonePasses test i n) (PassesFirst test i n)
first_passing-tells test zero i = λ q l r. absurd (omega arith)
first_passing-tells test (suc n) i = by (test i) refl (first_passing-tells test n (i + 1))
  where
    by : (b : Bool) → test i ≡ b → MatchOption (first_passing test n (i + 1)) (NonePasses test (i + 1) n) (PassesFirst test (i + 1) n) → MatchOption (first_passing test (suc n) i) (NonePasses test i (suc n)) (PassesFirst test i (suc n))
    by true e rest = subst (λ o. MatchOption o (NonePasses test i (suc n)) (PassesFirst test i (suc n))) (sym (step test i n true e)) (omega arith, omega arith, e, λ q l r. absurd (omega arith))
    by false e rest = subst (λ o. MatchOption o (NonePasses test i (suc n)) (PassesFirst test i (suc n))) (sym (step test i n false e)) (one_more test i n _ e rest)

module _ (w : Entities) (least : first_index ≤ w.last) where
  abbrev entity_of : Option ℕ → Option EntityId
  entity_of = option_map (λ i. record { index = i; generation = count_at w.deletions i })

  of_index : (o : Option ℕ) → MatchOption o (NonePasses (is_free w.live w.deletions) first_index (w.last - first_index + 1)) (PassesFirst (is_free w.live w.deletions) first_index (w.last - first_index + 1)) → MatchOption (entity_of o) (IsFull w) (IsNext w)
  of_index None none = λ i l r. none i l (omega arith)
  of_index (Some i) is = record { given_out = (is.0, omega (arith, is.1)); free = is.2; smallest = λ q l r. is.3 q l r; generation = refl }

  -- the next entity has the smallest free index, and where there is none no index is free
  pub next_entity-tells : MatchOption (next_entity w) (IsFull w) (IsNext w)
  unfolding next_among
  next_entity-tells = of_index (first_passing (is_free w.live w.deletions) (w.last - first_index + 1) first_index) (first_passing-tells (is_free w.live w.deletions) (w.last - first_index + 1) first_index)

  pub IsNext-from_next : (e : EntityId) → next_entity w ≡ Some e → IsNext w e
  IsNext-from_next e is = MatchOption-at_some (IsFull w) (IsNext w) e is next_entity-tells

  none_when_full : (o : Option EntityId) → MatchOption o (IsFull w) (IsNext w) → IsFull w → o ≡ None
  none_when_full None h full = refl
  none_when_full (Some e) h full = absurd (true≢false (sym h.free ∙ full e.index h.given_out.0 h.given_out.1))

  pub full_where_none : {F : Type 0} → F ↔ (next_entity w ≡ None) → F ↔ IsFull w
  full_where_none iff = (λ f. MatchOption-at_none (IsFull w) (IsNext w) (iff.0 f) next_entity-tells, λ full. iff.1 (none_when_full (next_entity w) next_entity-tells full))

-- a new entity has no place yet
pub place_of-born : (w : Entities) (e : EntityId) → IsWellFormed w → IsNext w e → place_of (with_entity w e) e ≡ None
place_of-born w e well next = unplaced (is_alive (with_entity w e) e) (find nat_cmp e.index w.places) (well.placed e.index)
  where
    dead : is_live w e.index ≡ true → ⊥
    dead live = true≢false (sym next.free ∙ ap (λ b. not b && ltb (count_at w.deletions e.index) 65536) live)

    unplaced : (b : Bool) (o : Option Place) → IfSome o (λ _. is_live w e.index ≡ true) → cond b o None ≡ None
    unplaced true None h = refl
    unplaced true (Some p) h = absurd (dead h)
    unplaced false o h = refl
