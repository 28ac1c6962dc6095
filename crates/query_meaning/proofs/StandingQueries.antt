-- A query stays current through commands that leave whom stored queries mention, and whatever is counted of them.
use Rattle.std.specs.Prelude.{◌≡◌, ◌≢◌, ℕ, ◌<◌, ◌==◌, Bool, true, false, not, List, [], ◌∷◌, nat_lt, Option, Some, None, Ok, if◌then◌else◌}
use Rattle.std.specs.List.{All, list_all, list_any}
use Rattle.std.specs.Option.{option_eq}
use Rattle.std.specs.Ordering.{nat_cmp}
use Rattle.std.proofs.Common.{inl, inr, ap, sym, ◌∙◌, refl, arith, true≢false}
use Rattle.std.proofs.lemmas.Bool.{and_from, and_parts}
use Rattle.std.proofs.lemmas.Bool.Decides.{nat_tests}
use Rattle.std.proofs.lemmas.List.Elements.{All-head, All-tail}
use Rattle.ecs_id.specs.declared.EntityId.{EntityId}
use Rattle.ecs_id.specs.Id.{plain}
use Rattle.ecs_model.specs.declared.faults.Refusal.TheVariants.{Dead, BuiltIn, InUse, Panic, Full}
use Rattle.ecs_model.specs.BuiltIns.{inherit_mode, transitive, reflexive, traversable}
use Rattle.ecs_model.specs.steps.Outcomes.{Changed, counted, is_spent, next_entity, with_born, with_component, with_named}
use Rattle.ecs_model.specs.Map.{count_at, has_key, keys, value_at, with_value}
use Rattle.ecs_model.specs.Query.{known_of}
use Rattle.ecs_model.specs.Refusal.{first_reason}
use Rattle.ecs_model.specs.Schema.{Schema}
use Rattle.ecs_model.specs.Sets.{Set}
use Rattle.ecs_model.specs.World.{WorldState, holds, is_alive, is_built_in, is_live}
use Rattle.ecs_model.specs.rows.View.{view_of}
use Rattle.ecs_model.specs.steps.FactChanges.{deleted, is_forbidden}
use Rattle.ecs_model.specs.steps.Step.{Command, Fresh, Entity, Component, Add, SetValue, Remove, Delete, delete_reasons, effect, is_pinned, reasons, step, without_entities}
use Rattle.ecs_model.specs.steps.WellFormed.{IsWellFormed}
use Rattle.ecs_model.specs.steps.Pins.{one_less, unpin, with_pins}
use Rattle.ecs_model.specs.steps.Rules.{is_trait}
use Rattle.ecs_model.proofs.Additions.{none_passes}
use Rattle.ecs_model.proofs.Maps.{nat_value_at}
use Rattle.ecs_model.proofs.Reasons.{next_is_free, passed}
use Rattle.ecs_model.proofs.MadeEntities.{there}
use Rattle.ecs_model.proofs.steps.Deletions.{nat_value_at-without, stays}
use Rattle.ecs_model.proofs.steps.LivingIds.{refuted}
use Rattle.ecs_model.proofs.steps.RefusalNumbers.{accepted_step}
use Rattle.ecs_model.proofs.steps.LastingTraits.{component_traits, modes_stay, plain_traits_stay}
use Rattle.query_model.specs.declared.query.Mention.{Mention}
use Rattle.query_model.specs.Query.{Query, is_as_checked}
use Rattle.query_meaning.specs.Standing.{IsCurrentIn, PinsKeepQueriesCurrent, PinsKeepViews, StepsKeepPins, StepsKeepQueriesCurrent}
use Rattle.query_meaning.proofs.MentionedEntities.{from_checked, to_checked}

-- ---- counts of stored queries

with_pins_current : (w : WorldState) (q : Query) → IsCurrentIn w q → (change : ℕ → ℕ) (i : ℕ) → IsCurrentIn (with_pins w change i) q
with_pins_current w q h change i = record { asked = h.asked; current = h.current }

-- what holds of a world with other counts, holds of one without a stored query that mentions an entity
unpinned : (P : WorldState → Type 0) (w : WorldState) (e : EntityId) → P w → P (with_pins w one_less e.index) → P (unpin w e)
unfolding unpin
unpinned P w e same less = by (is_alive w e)
  where
    by : (b : Bool) → P (if b then with_pins w one_less e.index else w)
    by true = less
    by false = same

pub pins_keep_queries_current : PinsKeepQueriesCurrent
pins_keep_queries_current w q h = (with_pins_current w q h, λ e. unpinned (λ v. IsCurrentIn v q) w e h (with_pins_current w q h one_less e.index))

pub pins_keep_views : PinsKeepViews
pins_keep_views w = (λ change i. refl, λ e. unpinned (λ v. view_of v ≡ view_of w) w e refl refl)

-- ---- commands

born_pins : (w : WorldState) (o : Option EntityId) → (with_born w o).pins ≡ w.pins
unfolding with_born
born_pins w None = refl
born_pins w (Some e) = refl

named_pins : (w : WorldState) (n : List ℕ) (o : Option EntityId) → (with_named w n o).pins ≡ w.pins
unfolding with_named
named_pins w n None = refl
named_pins w n (Some e) = refl

component_pins : (w : WorldState) (n : List ℕ) (s : Schema) (o : Option EntityId) → (with_component w n s o).pins ≡ w.pins
unfolding with_component
component_pins w n s None = refl
component_pins w n s (Some e) = refl

deleted_pins : (w : WorldState) (gone : Set ℕ) → (without_entities w gone).pins ≡ w.pins
unfolding without_entities
deleted_pins w gone = refl

effect_pins : (w : WorldState) (c : Command) → (effect w c).pins ≡ w.pins
unfolding effect
effect_pins w Fresh = born_pins w (next_entity w)
effect_pins w (Entity n) = named_pins w n (next_entity w)
effect_pins w (Component n s) = component_pins w n s (next_entity w)
effect_pins w (Add e i) = refl
effect_pins w (SetValue e i vs) = refl
effect_pins w (Remove e i) = refl
effect_pins w (Delete e) = deleted_pins w (deleted w e.index)

pub steps_keep_pins : StepsKeepPins
steps_keep_pins w v c changed e = ap (λ (u : WorldState). u.pins) (accepted_step w v c changed e).1 ∙ effect_pins w c

-- the index of a live entity is given to no other, and is kept through a command by one that a stored query mentions
module _ (w : WorldState) (i : ℕ) (lives : is_live w i ≡ true) where
  apart : (e : EntityId) → next_entity w ≡ Some e → i ≢ e.index
  apart e next same = true≢false (sym lives ∙ (ap (is_live w) same ∙ (next_is_free w e next).fresh))

  one_more_lives : (e : EntityId) → next_entity w ≡ Some e → value_at nat_cmp (with_value nat_cmp w.live e.index e.generation) i ≡ value_at nat_cmp w.live i
  one_more_lives e next = elim (nat_value_at w.live e.index e.generation i) [ inl p ↦ absurd (apart e next p.0) | inr p ↦ p.1 ]

  born_lives : (o : Option EntityId) → next_entity w ≡ o → value_at nat_cmp (with_born w o).live i ≡ value_at nat_cmp w.live i
  unfolding with_born
  born_lives None next = refl
  born_lives (Some e) next = one_more_lives e next

  named_lives : (n : List ℕ) (o : Option EntityId) → next_entity w ≡ o → value_at nat_cmp (with_named w n o).live i ≡ value_at nat_cmp w.live i
  unfolding with_named
  named_lives n None next = refl
  named_lives n (Some e) next = one_more_lives e next

  component_lives : (n : List ℕ) (s : Schema) (o : Option EntityId) → next_entity w ≡ o → value_at nat_cmp (with_component w n s o).live i ≡ value_at nat_cmp w.live i
  unfolding with_component
  component_lives n s None next = refl
  component_lives n s (Some e) next = one_more_lives e next

  deleted_lives : (gone : Set ℕ) → has_key nat_cmp gone i ≡ false → value_at nat_cmp (without_entities w gone).live i ≡ value_at nat_cmp w.live i
  unfolding without_entities
  deleted_lives gone left = stays (has_key nat_cmp gone i) _ (value_at nat_cmp w.live i) (nat_value_at-without w.live (has_key nat_cmp gone) i) left

  -- who is mentioned by a stored query is not deleted
  not_deleted : (e : EntityId) → is_pinned w i ≡ true → first_reason (reasons w (Delete e)) ≡ None → has_key nat_cmp (deleted w e.index) i ≡ false
  unfolding reasons
  not_deleted e pinned none =
      let gone = deleted w e.index in
      let live = passed (not (is_alive w e)) Dead ((is_built_in e.index, BuiltIn) ∷ delete_reasons w gone) none in
      let own = passed (is_built_in e.index) BuiltIn (delete_reasons w gone) live.1 in
      let free = passed (list_any (is_pinned w) (keys gone)) InUse ((is_forbidden w gone, Panic) ∷ (is_spent w, Full) ∷ []) own.1 in
      refuted (has_key nat_cmp gone i) (λ g. true≢false (sym pinned ∙ none_passes (is_pinned w) gone i g free.0))

  effect_lives : (c : Command) → is_pinned w i ≡ true → first_reason (reasons w c) ≡ None → value_at nat_cmp (effect w c).live i ≡ value_at nat_cmp w.live i
  unfolding effect
  effect_lives Fresh pinned none = born_lives (next_entity w) refl
  effect_lives (Entity n) pinned none = named_lives n (next_entity w) refl
  effect_lives (Component n s) pinned none = component_lives n s (next_entity w) refl
  effect_lives (Add e x) pinned none = refl
  effect_lives (SetValue e x vs) pinned none = refl
  effect_lives (Remove e x) pinned none = refl
  effect_lives (Delete e) pinned none = deleted_lives (deleted w e.index) (not_deleted e pinned none)

is_counted : (n : ℕ) → 0 < n → nat_lt 0 n ≡ true
is_counted n h = grind (arith, nat_tests)

module _ (w v : WorldState) (c : Command) (changed : Changed) (h : IsWellFormed w) (done : step w c ≡ Ok (v, changed)) where
  new_component : (name : List ℕ) (s : Schema) (r n : ℕ) → is_trait (plain n) ≡ true → v ≡ counted (effect w (Component name s)) → holds v r (plain n) ≡ holds w r (plain n)
  unfolding effect
  new_component name s r n is same = ap (λ (u : WorldState). holds u r (plain n)) same ∙ component_traits w name s (next_entity w) r n is

  -- whom a stored query mentions keeps the plain traits, also where the fields of a new component make no schema
  traits_stay : (c : Command) → step w c ≡ Ok (v, changed) → (r n : ℕ) → is_trait (plain n) ≡ true → is_pinned w r ≡ true → holds v r (plain n) ≡ holds w r (plain n)
  traits_stay Fresh e r n is pinned = plain_traits_stay w v Fresh changed h tt e r n is (inl pinned)
  traits_stay (Entity name) e r n is pinned = plain_traits_stay w v (Entity name) changed h tt e r n is (inl pinned)
  traits_stay (Component name s) e r n is pinned = new_component name s r n is (accepted_step w v (Component name s) changed e).1
  traits_stay (Add x i) e r n is pinned = plain_traits_stay w v (Add x i) changed h tt e r n is (inl pinned)
  traits_stay (SetValue x i vs) e r n is pinned = plain_traits_stay w v (SetValue x i vs) changed h tt e r n is (inl pinned)
  traits_stay (Remove x i) e r n is pinned = plain_traits_stay w v (Remove x i) changed h tt e r n is (inl pinned)
  traits_stay (Delete x) e r n is pinned = plain_traits_stay w v (Delete x) changed h tt e r n is (inl pinned)

  alive_stays : (e : EntityId) → is_pinned w e.index ≡ true → is_alive w e ≡ true → is_alive v e ≡ true
  alive_stays e pinned alive =
      let last = accepted_step w v c changed done in
      let lives = there (value_at nat_cmp w.live e.index) e.generation alive in
      let same : value_at nat_cmp v.live e.index ≡ value_at nat_cmp w.live e.index =
      ap (λ (u : WorldState). value_at nat_cmp u.live e.index) last.1 ∙ effect_lives w e.index lives c pinned last.0 in
      ap (λ o. option_eq ◌==◌ o (Some e.generation)) same ∙ alive

  as_checked : (m : Mention) → is_pinned w (m.entity).index ≡ true → is_as_checked (known_of w) m ≡ true → is_as_checked (known_of v) m ≡ true
  as_checked m pinned checked =
      let i = (m.entity).index in
      let was = from_checked (known_of w) m checked in
      to_checked (known_of v) m (
        alive_stays m.entity pinned was.0,
        traits_stay c done i traversable refl pinned ∙ was.1,
        traits_stay c done i transitive refl pinned ∙ was.2,
        traits_stay c done i reflexive refl pinned ∙ was.3,
        modes_stay w v c changed h done i inherit_mode refl pinned ∙ was.4,
      )

  all_as_checked : (ms : List Mention) → All (λ m. 0 < count_at w.pins (m.entity).index) ms → list_all (is_as_checked (known_of w)) ms ≡ true → list_all (is_as_checked (known_of v)) ms ≡ true
  all_as_checked [] pinned checked = refl
  all_as_checked (m ∷ ms) pinned checked =
      let parts = and_parts _ _ checked in
      and_from _ _ (as_checked m (is_counted (count_at w.pins (m.entity).index) (All-head (λ m. 0 < count_at w.pins (m.entity).index) m ms pinned)) parts.0)
      (all_as_checked ms (All-tail (λ m. 0 < count_at w.pins (m.entity).index) m ms pinned) parts.1)

pub steps_keep_queries_current : StepsKeepQueriesCurrent
steps_keep_queries_current w v c changed q h done pinned current = record { asked = current.asked; current = all_as_checked w v c changed h done q.mentions pinned current.current }
