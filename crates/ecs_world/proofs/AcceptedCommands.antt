-- What the calls need that carry out accepted commands, and what they leave.
use Rattle.std.proofs.Common.{◌≡◌, ◌<◌, ℕ, ◌+◌, ◌==◌, Bool, true, false, ◌&&◌, List, [], ◌∷◌, length, replicate, ℤ, Option, Some, None, is_some, IsTrue, Result, Ok, Err, is_err, IfOk, OnOk, OnErr, refl, sym, ap, subst, ◌∙◌, true≢false}
use Rattle.std.proofs.lemmas.Bool.Decides.{Decides-eqb}
use Rattle.std.proofs.lemmas.List.{length-map}
use Rattle.std.specs.FinMap as finite
use Rattle.std.specs.List.{list_all}
use Rattle.std.specs.Option.{option_map_or}
use Rattle.std.specs.Ordering.{nat_cmp}
pub use Rattle.std.proofs.lemmas.Bool.{not-true as refuted}
use Rattle.ecs_id.specs.declared.EntityId.{EntityId}
use Rattle.ecs_id.specs.Id.{Id, plain, mentioned, id_cmp, id_eq}
use Rattle.ecs_model.specs.Map.{Map, value_at, has_key, with_value, without}
use Rattle.ecs_model.specs.Schema.{Schema, schema_fault, zeros}
use Rattle.ecs_model.specs.steps.WellFormed.{IsWellFormed}
use Rattle.ecs_model.specs.Refusal.{first_reason}
use Rattle.ecs_model.specs.steps.FactChanges.{facts_after_add, facts_after_remove}
use Rattle.ecs_model.specs.World.{WorldState, key_cmp, component, holds, ids_of, is_alive, type_of_id, new_value}
use Rattle.ecs_model.specs.steps.Outcomes.{counted, is_spent, next_entity, with_facts}
use Rattle.ecs_model.specs.steps.Step.{Command, IsCommand, Fresh, Entity, Component, Add, SetValue, Remove, reasons, effect}
use Rattle.ecs_model.proofs.StepAnswers.{effect_well_formed}
use Rattle.ecs_model.proofs.Differences.{last_value}
use Rattle.ecs_model.proofs.Maps.{both_true, key_cmp_total, of_some}
use Rattle.ecs_model.proofs.steps.IdleRemovals.{removes_held_alone}
use Rattle.rel_traits.specs.Simple.{ComesAlone, ComesInPlace, is_unmirrored}
use Rattle.ecs_world.specs.Singles.{without_one}
use Rattle.name_index.specs.Names.{IsUnnamed, Names}
use Rattle.ecs_table.specs.Archetype.{Shape}
use Rattle.ecs_archetypes.specs.Holdings.{AreHoldings, HoldAlike, Holdings, KeepsSizes, agrees, cells_at, held_at, holds_id, is_settled, lives, upcoming, with_cells, with_entity}
use Rattle.rel_traits.specs.PinCounts.{Counts}
use Rattle.ecs_world.specs.State.{IsWorld, Parts, parts_of, byte_count, is_known_rightly, state_of, type_of, value_in}
use Rattle.ecs_world.proofs.Births.{birth_left, component_known, effect-component, effect-entity, effect-fresh, none_live, other_schemas, state_component, state_fresh, state_named, tags_empty, tags_tagged}
use Rattle.ecs_world.proofs.JudgedCommands.{CanBear, CanChange, add_of_set, judged-add, judged-remove}
use Rattle.ecs_world.proofs.CommandEffects.{cells_left, effect-add, effect-remove, effect-set, facts_held, facts_new, held_world, recounted, state_gone, state_put, state_replaced, tags_gone, tags_put, tags_replaced, there}
use Rattle.ecs_world.proofs.NameLists.{AreNamed-bound, AreNamed-same, unnamed}
use Rattle.ecs_world.proofs.SimpleFacts.{after_replacing, old_no_trait}
use Rattle.ecs_world.proofs.States.{AreNamed-world, holds_is, ids_is, unsettled_dead, size_agrees, state_alike, type_is, world_alike, zeros_are_new}

pub on_ok : {T E : Type 0} {P : Type 0} (r : Result T E) → OnOk r P → is_err r ≡ false → P
on_ok (Ok t) p h = p
on_ok (Err e) p h = absurd (true≢false h)

pub on_ok_all : {T E : Type 0} {P Q : Type 0} (r : Result T E) → OnOk r P → (P → Q) → OnOk r Q
on_ok_all (Ok t) p f = f p
on_ok_all (Err e) p f = tt

pub on_err : {T E : Type 0} {P : Type 0} (r : Result T E) → OnErr r P → is_err r ≡ true → P
on_err (Ok t) p h = absurd (true≢false (sym h))
on_err (Err e) p h = p

-- what is made is what was to be made
pub made_is : {E : Type 0} (o : Option EntityId) (B : EntityId → Type 0) (r : Result EntityId E) (e : EntityId) → IfOk r (λ f. o ≡ Some f) → IfOk r B → is_err r ≡ false → o ≡ Some e → B e
made_is o B (Ok f) e next born h at =
    let found : Some f ≡ Some e = sym next ∙ at in
    let same : f ≡ e = cc in subst B same born
made_is o B (Err x) e next born h at = absurd (true≢false h)

pub sound_after : (v u : WorldState) (c : Command) → IsWellFormed v → IsCommand c → first_reason (reasons v c) ≡ None → u ≡ counted (effect v c) → IsWellFormed u
sound_after v u c sound command none is = subst IsWellFormed (sym is) (effect_well_formed v c sound command none)

module _ {parts : Parts} (world : IsWorld parts) {v : WorldState} (is : state_of parts ≡ v) where
  abbrev h : Holdings
  h = parts.holdings

  abbrev names : Names
  names = parts.names

  abbrev schemas : Map ℕ Schema
  schemas = parts.schemas

  abbrev pins : Counts
  pins = parts.pins

  abbrev accepted : ℕ
  accepted = parts.accepted

  abbrev w : WorldState
  w = state_of parts

  sound_v : IsWellFormed v
  sound_v = subst IsWellFormed is world.sound

  -- the size of an id's type passes
  size_known : (i : Id) (size : ℕ) → size ≡ byte_count (type_of_id v i) → list_all (has_key nat_cmp h.live) (mentioned i) ≡ true → list_all (is_known_rightly h schemas) ((i, size) ∷ []) ≡ true
  size_known i size at live =
      let same : size ≡ byte_count (type_of h schemas i) = at ∙ ap (λ u. byte_count (type_of_id u i)) (sym is) ∙ ap byte_count (type_is world i) in
      λ k. ((Decides-eqb size (byte_count (type_of h schemas i))).1 same k && live k) && true

  -- the names and the schemas are as they were
  pub kept : (h' : Holdings) (names' : Names) (schemas' : Map ℕ Schema) → IsWorld (parts_of h' names schemas pins accepted) × (state_of (parts_of h' names schemas pins accepted) ≡ v) → names' ≡ names → schemas' ≡ schemas
      → IsWorld (parts_of h' names' schemas' pins accepted) × (state_of (parts_of h' names' schemas' pins accepted) ≡ v)
  kept h' names' schemas' left same_names same_schemas =
      subst (λ ns. IsWorld (parts_of h' ns schemas' pins accepted) × (state_of (parts_of h' ns schemas' pins accepted) ≡ v)) (sym same_names) (subst (λ ss. IsWorld (parts_of h' names ss pins accepted) × (state_of (parts_of h' names ss pins accepted) ≡ v)) (sym same_schemas) left)

  pub unchanged : IsWorld parts × (state_of parts ≡ v)
  unchanged = (world, is)

  -- a refusal of memory leaves the world as it was
  pub failed : (added : Shape) → list_all (is_known_rightly h schemas) added ≡ true → (h' : Holdings) → AreHoldings h' → HoldAlike h' h → KeepsSizes h.known added h'.known
      → IsWorld (parts_of h' names schemas pins accepted) × (state_of (parts_of h' names schemas pins accepted) ≡ v)
  failed added fits h' whole' alike keeps = (world_alike h' h names schemas pins accepted added world whole' alike keeps fits, state_alike h' h names schemas pins accepted alike ∙ is)

  -- what was found of an entity
  module _ (e : EntityId) where
    pub found_alive : true ≡ is_settled h e → is_alive v e ≡ true
    found_alive settled = ap (λ u. is_alive u e) (sym is) ∙ (both_true (lives h e) (is_some (cells_at h e.index)) (sym settled)).0

    pub found_dead : false ≡ is_settled h e → is_alive v e ≡ false
    found_dead unsettled = ap (λ u. is_alive u e) (sym is) ∙ unsettled_dead world e unsettled

    pub found_held : (i : Id) (b : Bool) → b ≡ holds_id h e.index i → b ≡ holds v e.index i
    found_held i b held = held ∙ sym (holds_is world e.index i) ∙ ap (λ u. holds u e.index i) is

    pub found_count : (n : ℕ) → n ≡ length (held_at h e.index) → n ≡ length (ids_of v e.index)
    found_count n counted = counted ∙ sym (length-map (held_at h e.index) (λ c. c.0)) ∙ ap (λ z. length z) (sym (ids_is world e.index)) ∙ ap (λ u. length (ids_of u e.index)) is

  module _ (e : EntityId) (i : Id) where
    module _ (can' : CanChange v e i) where
      abbrev can : CanChange w e i
      can = subst (λ u. CanChange u e i) (sym is) can'

      pub alive_there : IsTrue (lives h e) × IsTrue (is_some (cells_at h e.index))
      alive_there = (can.alive, ap is_some (there world e i can).1)

      pub held_there : (b : Bool) → holds v e.index i ≡ b → holds_id h e.index i ≡ b
      held_there b held = sym (holds_is world e.index i) ∙ ap (λ u. holds u e.index i) is ∙ held

      pub size_there : (size : ℕ) → size ≡ byte_count (type_of_id v i) → agrees h.known i size ≡ true
      size_there size at = size_agrees world i size (at ∙ ap (λ u. byte_count (type_of_id u i)) (sym is) ∙ ap byte_count (type_is world i))

      pub fits_there : (size : ℕ) → size ≡ byte_count (type_of_id v i) → list_all (is_known_rightly h schemas) ((i, size) ∷ []) ≡ true
      fits_there size at = size_known i size at can.mentions

      -- a value is written
      pub written_left : (h' : Holdings) (bytes : List ℕ) (vs : List ℤ) → AreHoldings h' → HoldAlike h' (with_cells h e.index (with_value id_cmp (held_at h e.index) i bytes))
          → (added : Shape) → KeepsSizes h.known added h'.known → list_all (is_known_rightly h schemas) added ≡ true → value_in (type_of_id v i) bytes ≡ vs → (accepted' : ℕ) (u : WorldState) → record v { facts = with_value key_cmp v.facts (e.index, i) vs; accepted = accepted' } ≡ u → IsWellFormed u
          → IsWorld (parts_of h' names schemas pins accepted') × (state_of (parts_of h' names schemas pins accepted') ≡ u)
      written_left h' bytes vs whole' alike added keeps fits value accepted' u to sound =
          let state : state_of (parts_of h' names schemas pins accepted') ≡ u =
          state_put world e i can h' whole' bytes alike accepted'
          ∙ (λ k. record (is k) { facts = with_value key_cmp (is k).facts (e.index, i) ((ap (λ t. value_in t bytes) (sym (type_is world i) ∙ ap (λ x. type_of_id x i) is) ∙ value) k); accepted = accepted' })
          ∙ to in (
            cells_left world e i can h' whole' (with_value id_cmp (held_at h e.index) i bytes) alike added keeps fits (tags_put world e i can h' whole' bytes alike) accepted' (subst IsWellFormed (sym state) sound),
            state,
          )

    -- a fact comes
    module _ (alone : ComesAlone (ids_of v) (e.index, i)) (none : first_reason (reasons v (Add e i)) ≡ None) where
      pub come : (h' : Holdings) (size : ℕ) → AreHoldings h' → size ≡ byte_count (type_of_id v i) → holds v e.index i ≡ false
          → HoldAlike h' (with_cells h e.index (with_value id_cmp (held_at h e.index) i (replicate size 0))) → KeepsSizes h.known ((i, size) ∷ []) h'.known
          → IsWorld (parts_of h' names schemas pins accepted) × (state_of (parts_of h' names schemas pins accepted) ≡ with_facts v (facts_after_add v e.index i))
      come h' size whole' at absent alike keeps =
          let can' = judged-add v e i alone.no_trait none in
          let value : value_in (type_of h schemas i) (replicate size 0) ≡ new_value v i =
          ap (λ n. value_in (type_of h schemas i) (replicate n 0)) (at ∙ ap (λ u. byte_count (type_of_id u i)) (sym is) ∙ ap byte_count (type_is world i))
          ∙ zeros_are_new (type_of h schemas i) ∙ ap (λ o. option_map_or zeros o []) (sym (type_is world i) ∙ ap (λ x. type_of_id x i) is) in
          let state : state_of (parts_of h' names schemas pins accepted) ≡ with_facts v (facts_after_add v e.index i) =
          state_put world e i (can can') h' whole' (replicate size 0) alike accepted
          ∙ (λ k. record (is k) { facts = with_value key_cmp (is k).facts (e.index, i) (value k) })
          ∙ ap (with_facts v) (sym (facts_new v e.index i alone absent)) in (
            cells_left world e i (can can') h' whole' (with_value id_cmp (held_at h e.index) i (replicate size 0)) alike ((i, size) ∷ []) keeps (fits_there can' size at)
                (tags_put world e i (can can') h' whole' (replicate size 0) alike) accepted (subst IsWellFormed (sym state) (held_world v e i sound_v none)),
            state,
          )

    -- a fact comes in the place of another
    module _ (old : Id) (in_place : ComesInPlace (ids_of v) (e.index, i) old) (none : first_reason (reasons v (Add e i)) ≡ None) where
      pub come_for : (h' : Holdings) (size : ℕ) → AreHoldings h' → size ≡ byte_count (type_of_id v i)
          → HoldAlike h' (with_cells h e.index (with_value id_cmp (without id_cmp (held_at h e.index) (λ k. id_eq k old)) i (replicate size 0))) → KeepsSizes h.known ((i, size) ∷ []) h'.known
          → IsWorld (parts_of h' names schemas pins accepted) × (state_of (parts_of h' names schemas pins accepted) ≡ with_facts v (facts_after_add v e.index i))
      come_for h' size whole' at alike keeps =
          let can' = judged-add v e i in_place.no_trait none in
          let no_trait = old_no_trait v e.index i old in_place in
          let value : value_in (type_of h schemas i) (replicate size 0) ≡ new_value v i =
          ap (λ n. value_in (type_of h schemas i) (replicate n 0)) (at ∙ ap (λ u. byte_count (type_of_id u i)) (sym is) ∙ ap byte_count (type_is world i))
          ∙ zeros_are_new (type_of h schemas i) ∙ ap (λ o. option_map_or zeros o []) (sym (type_is world i) ∙ ap (λ x. type_of_id x i) is) in
          let state : state_of (parts_of h' names schemas pins accepted) ≡ with_facts v (facts_after_add v e.index i) =
          state_replaced world e i (can can') old no_trait h' whole' (replicate size 0) alike accepted
          ∙ (λ k. record (is k) { facts = with_value key_cmp (without_one (is k) e.index old) (e.index, i) (value k) })
          ∙ ap (with_facts v) (sym (after_replacing v e.index i old in_place)) in (
            cells_left world e i (can can') h' whole' (with_value id_cmp (without id_cmp (held_at h e.index) (λ k. id_eq k old)) i (replicate size 0)) alike ((i, size) ∷ []) keeps (fits_there can' size at)
                (tags_replaced world e i (can can') old no_trait h' whole' (replicate size 0) alike) accepted (subst IsWellFormed (sym state) (held_world v e i sound_v none)),
            state,
          )

    -- a fact goes
    module _ (alone : is_unmirrored (ids_of v) i ≡ true) (none : first_reason (reasons v (Remove e i)) ≡ None) where
      pub go : (h' : Holdings) → AreHoldings h' → HoldAlike h' (with_cells h e.index (without id_cmp (held_at h e.index) (λ k. id_eq k i))) → KeepsSizes h.known [] h'.known
          → IsWorld (parts_of h' names schemas pins (accepted + 1)) × (state_of (parts_of h' names schemas pins (accepted + 1)) ≡ counted (effect v (Remove e i)))
      go h' whole' alike keeps =
          let can' = judged-remove v e i none in
          let state : state_of (parts_of h' names schemas pins (accepted + 1)) ≡ counted (effect v (Remove e i)) =
          state_gone world e i (can can') h' whole' alike (subst (λ u. is_unmirrored (ids_of u) i ≡ true) (sym is) alone) (accepted + 1)
          ∙ (λ k. record (is k) { facts = facts_after_remove (is k) e.index i; accepted = (is k).accepted + 1 })
          ∙ ap counted (sym (effect-remove v e i)) in (
            cells_left world e i (can can') h' whole' (without id_cmp (held_at h e.index) (λ k. id_eq k i)) alike [] keeps refl (tags_gone world e i (can can') h' whole' alike)
                (accepted + 1) (sound_after v (state_of (parts_of h' names schemas pins (accepted + 1))) (Remove e i) sound_v tt none state),
            state,
          )

  -- the command is counted, and nothing else changes
  pub counted_left : (c : Command) → IsCommand c → first_reason (reasons v c) ≡ None → effect v c ≡ v → IsWorld (parts_of h names schemas pins (accepted + 1)) × (state_of (parts_of h names schemas pins (accepted + 1)) ≡ counted (effect v c))
  counted_left c command none same =
      let state : state_of (parts_of h names schemas pins (accepted + 1)) ≡ counted (effect v c) = ap counted is ∙ ap counted (sym same) in (
        record {
          whole = world.whole;
          sound = sound_after v (state_of (parts_of h names schemas pins (accepted + 1))) c sound_v command none state;
          settled = world.settled;
          known = world.known;
          named = world.named;
          one_to_one = world.one_to_one;
          covered = world.covered;
        },
        state,
      )

  -- where the world is that of a command's effect, it is counted
  pub counted_from : (u : WorldState) (c : Command) → effect u c ≡ v → is_spent v ≡ false → IsWorld (parts_of h names schemas pins (accepted + 1)) × (state_of (parts_of h names schemas pins (accepted + 1)) ≡ counted (effect u c))
  counted_from u c same room =
      let state : state_of (parts_of h names schemas pins (accepted + 1)) ≡ counted (effect u c) = ap counted is ∙ ap counted (sym same) in (
        record {
          whole = world.whole;
          sound = recounted w world.sound (ap is_spent is ∙ room);
          settled = world.settled;
          known = world.known;
          named = world.named;
          one_to_one = world.one_to_one;
          covered = world.covered;
        },
        state,
      )

  -- the tag of components is known
  pub component_fits : list_all (is_known_rightly h schemas) ((plain component, 0) ∷ []) ≡ true
  component_fits =
      let none : value_at nat_cmp schemas component ≡ None = ((world.sound).built_in).schemas component refl in
      let live : has_key nat_cmp h.live component ≡ true = ap is_some (((world.sound).built_in).live component refl) in
      λ k. ((0 == byte_count (none k)) && (live k && true)) && true

  pub component_agrees : list_all (λ (c : Id × ℕ). agrees h.known c.0 c.1) ((plain component, 0) ∷ []) ≡ true
  component_agrees =
      let none : value_at nat_cmp schemas component ≡ None = ((world.sound).built_in).schemas component refl in
      λ k. size_agrees world (plain component) 0 (sym (ap byte_count none)) k && true

  pub next_of : (e : EntityId) → upcoming h ≡ Some e → next_entity v ≡ Some e
  next_of e next = ap next_entity (sym is) ∙ next

  pub next_some : CanBear v → IsTrue (is_some (upcoming h))
  next_some can = ap is_some (ap next_entity is ∙ (can.next).1)

  module _ (e : EntityId) (next : next_entity v ≡ Some e) where
    abbrev next_w : next_entity w ≡ Some e
    next_w = ap next_entity is ∙ next

    pub next_unnamed : IsUnnamed names e
    next_unnamed = unnamed names h.live (AreNamed-world world) e (none_live world e next_w)

    -- it has no schema
    pub next_plain : value_at nat_cmp schemas e.index ≡ None
    next_plain = by (value_at nat_cmp schemas e.index) refl
      where
        by : (o : Option Schema) → value_at nat_cmp schemas e.index ≡ o → o ≡ None
        by None p = refl
        by (Some fs) p = absurd (true≢false (sym (of_some (λ x. (has_key nat_cmp h.live e.index ≡ true) × (schema_fault x ≡ None)) (value_at nat_cmp schemas e.index) (((world.sound).live).schemas e.index) fs p).0
            ∙ ap is_some (none_live world e next_w)))

    -- an entity without a name
    pub fresh_left : e.index < pins.reach → first_reason (reasons v Fresh) ≡ None → (h' : Holdings) → AreHoldings h' → HoldAlike h' (with_cells (with_entity h e) e.index []) → KeepsSizes h.known [] h'.known
        → IsWorld (parts_of h' names schemas pins (accepted + 1)) × (state_of (parts_of h' names schemas pins (accepted + 1)) ≡ counted (effect v Fresh))
    fresh_left covers none h' whole' alike keeps =
        let state : state_of (parts_of h' names schemas pins (accepted + 1)) ≡ counted (effect v Fresh) =
        state_fresh world e next_w h' whole' alike (accepted + 1)
        ∙ (λ k. record (is k) { live = with_value nat_cmp (is k).live e.index e.generation; accepted = (is k).accepted + 1 }) ∙ ap counted (sym (effect-fresh v e next)) in (
          birth_left world e next_w h' whole' [] alike schemas (λ j d. refl) (tags_empty world e next_w h' whole' alike) covers names
              (AreNamed-same names h.live (AreNamed-world world) e (none_live world e next_w)) [] keeps refl (accepted + 1)
              (sound_after v (state_of (parts_of h' names schemas pins (accepted + 1))) Fresh sound_v tt none state),
          state,
        )

    -- an entity with a name
    pub named_left : e.index < pins.reach → (n : List ℕ) → first_reason (reasons v (Entity n)) ≡ None → finite.get names n ≡ None → (names' : Names) → names' ≡ finite.insert names n e
        → (h' : Holdings) → AreHoldings h' → HoldAlike h' (with_cells (with_entity h e) e.index []) → KeepsSizes h.known [] h'.known
        → IsWorld (parts_of h' names' schemas pins (accepted + 1)) × (state_of (parts_of h' names' schemas pins (accepted + 1)) ≡ counted (effect v (Entity n)))
    named_left covers n none free names' bound h' whole' alike keeps =
        subst (λ ns. IsWorld (parts_of h' ns schemas pins (accepted + 1)) × (state_of (parts_of h' ns schemas pins (accepted + 1)) ≡ counted (effect v (Entity n)))) (sym bound)
        (let state : state_of (parts_of h' (finite.insert names n e) schemas pins (accepted + 1)) ≡ counted (effect v (Entity n)) =
        state_named world e next_w h' whole' alike n free (accepted + 1)
        ∙ (λ k. record (is k) { live = with_value nat_cmp (is k).live e.index e.generation; names = with_value nat_cmp (is k).names e.index n; accepted = (is k).accepted + 1 }) ∙ ap counted (sym (effect-entity v n e next)) in (
          birth_left world e next_w h' whole' [] alike schemas (λ j d. refl) (tags_empty world e next_w h' whole' alike) covers (finite.insert names n e)
              (AreNamed-bound names h.live (AreNamed-world world) e (none_live world e next_w) n free) [] keeps refl (accepted + 1)
              (sound_after v (state_of (parts_of h' (finite.insert names n e) schemas pins (accepted + 1))) (Entity n) sound_v tt none state),
          state,
        ))

    -- a component
    pub component_left : e.index < pins.reach → (n : List ℕ) (s : Schema) → schema_fault s ≡ None → first_reason (reasons v (Component n s)) ≡ None → finite.get names n ≡ None → (names' : Names) → names' ≡ finite.insert names n e
        → (schemas' : Map ℕ Schema) → schemas' ≡ with_value nat_cmp schemas e.index s
        → (h' : Holdings) → AreHoldings h' → HoldAlike h' (with_cells (with_entity h e) e.index ((plain component, []) ∷ [])) → KeepsSizes h.known ((plain component, 0) ∷ []) h'.known
        → IsWorld (parts_of h' names' schemas' pins (accepted + 1)) × (state_of (parts_of h' names' schemas' pins (accepted + 1)) ≡ counted (effect v (Component n s)))
    component_left covers n s proper none free names' bound schemas' typed h' whole' alike keeps =
        subst (λ ns. IsWorld (parts_of h' ns schemas' pins (accepted + 1)) × (state_of (parts_of h' ns schemas' pins (accepted + 1)) ≡ counted (effect v (Component n s)))) (sym bound)
        (subst (λ ss. IsWorld (parts_of h' (finite.insert names n e) ss pins (accepted + 1)) × (state_of (parts_of h' (finite.insert names n e) ss pins (accepted + 1)) ≡ counted (effect v (Component n s)))) (sym typed)
        (let state : state_of (parts_of h' (finite.insert names n e) (with_value nat_cmp schemas e.index s) pins (accepted + 1)) ≡ counted (effect v (Component n s)) =
        state_component world e next_w h' whole' alike s n free (accepted + 1)
        ∙ (λ k. record (is k) {
          live = with_value nat_cmp (is k).live e.index e.generation;
          names = with_value nat_cmp (is k).names e.index n;
          schemas = with_value nat_cmp (is k).schemas e.index s;
          facts = with_value key_cmp (is k).facts (e.index, plain component) [];
          accepted = (is k).accepted + 1;
        }) ∙ ap counted (sym (effect-component v n s e next)) in (
          birth_left world e next_w h' whole' ((plain component, []) ∷ []) alike (with_value nat_cmp schemas e.index s) (other_schemas world e next_w h' whole' alike s)
              (tags_tagged world e next_w h' whole' alike s) covers (finite.insert names n e)
              (AreNamed-bound names h.live (AreNamed-world world) e (none_live world e next_w) n free) ((plain component, 0) ∷ []) keeps
              (component_known world e next_w h' whole' alike s) (accepted + 1)
              (sound_after v (state_of (parts_of h' (finite.insert names n e) (with_value nat_cmp schemas e.index s) pins (accepted + 1))) (Component n s) sound_v proper none state),
          state,
        )))

pub effect-remove-none : (v : WorldState) (e : EntityId) (i : Id) → IsWellFormed v → holds v e.index i ≡ false → effect v (Remove e i) ≡ v
effect-remove-none v e i sound absent = effect-remove v e i ∙ ap (with_facts v) (removes_held_alone v e.index i sound absent)

-- the facts with a value, whether it came now or was there
last_set : (w : WorldState) (e : ℕ) (i : Id) → ComesAlone (ids_of w) (e, i) → (vs : List ℤ) (b : Bool) → holds w e i ≡ b → with_value key_cmp w.facts (e, i) vs ≡ with_value key_cmp (facts_after_add w e i) (e, i) vs
last_set w e i alone vs true held = ap (λ m. with_value key_cmp m (e, i) vs) (sym (facts_held w e i alone held))
last_set w e i alone vs false held = sym (last_value key_cmp key_cmp_total w.facts (e, i) (new_value w i) vs) ∙ ap (λ m. with_value key_cmp m (e, i) vs) (sym (facts_new w e i alone held))

module _ {parts : Parts} (world : IsWorld parts) {v : WorldState} (is : state_of parts ≡ v) (e : EntityId) (i : Id) (alone : ComesAlone (ids_of v) (e.index, i)) where
  -- an id comes, and the command is counted
  pub added_left : first_reason (reasons v (Add e i)) ≡ None → (h' : Holdings) (size : ℕ) → AreHoldings h' → size ≡ byte_count (type_of_id v i) → holds v e.index i ≡ false
      → HoldAlike h' (with_cells parts.holdings e.index (with_value id_cmp (held_at parts.holdings e.index) i (replicate size 0))) → KeepsSizes (parts.holdings).known ((i, size) ∷ []) h'.known
      → IsWorld (parts_of h' parts.names parts.schemas parts.pins (parts.accepted + 1)) × (state_of (parts_of h' parts.names parts.schemas parts.pins (parts.accepted + 1)) ≡ counted (effect v (Add e i)))
  added_left none h' size whole' at absent alike keeps =
      let left = come world is e i alone none h' size whole' at absent alike keeps in
      counted_from left.0 left.1 v (Add e i) (effect-add v e i) (judged-add v e i alone.no_trait none).room

  -- a value is set, and the command is counted
  pub set_left : (vs : List ℤ) → first_reason (reasons v (SetValue e i vs)) ≡ None → (h' : Holdings) (bytes : List ℕ) → AreHoldings h' → length bytes ≡ byte_count (type_of_id v i)
      → HoldAlike h' (with_cells parts.holdings e.index (with_value id_cmp (held_at parts.holdings e.index) i bytes)) → KeepsSizes (parts.holdings).known ((i, length bytes) ∷ []) h'.known → value_in (type_of_id v i) bytes ≡ vs
      → IsWorld (parts_of h' parts.names parts.schemas parts.pins (parts.accepted + 1)) × (state_of (parts_of h' parts.names parts.schemas parts.pins (parts.accepted + 1)) ≡ counted (effect v (SetValue e i vs)))
  set_left vs none h' bytes whole' at alike keeps value =
      let can = judged-add v e i alone.no_trait (add_of_set v e i vs none).1 in
      let to : record v { facts = with_value key_cmp v.facts (e.index, i) vs; accepted = parts.accepted + 1 } ≡ counted (effect v (SetValue e i vs)) =
      (λ k. record v { facts = last_set v e.index i alone vs (holds v e.index i) refl k; accepted = (is k).accepted + 1 }) ∙ ap counted (sym (effect-set v e i vs)) in
      written_left world is e i can h' bytes vs whole' alike ((i, length bytes) ∷ []) keeps (fits_there world is e i can (length bytes) at) value (parts.accepted + 1) (counted (effect v (SetValue e i vs))) to
      (effect_well_formed v (SetValue e i vs) (subst IsWellFormed is world.sound) tt none)

-- an id comes in the place of another, and the command is counted
pub replaced_left : {parts : Parts} (world : IsWorld parts) {v : WorldState} (is : state_of parts ≡ v) (e : EntityId) (i old : Id) (in_place : ComesInPlace (ids_of v) (e.index, i) old) → first_reason (reasons v (Add e i)) ≡ None
    → (h' : Holdings) (size : ℕ) → AreHoldings h' → size ≡ byte_count (type_of_id v i)
    → HoldAlike h' (with_cells parts.holdings e.index (with_value id_cmp (without id_cmp (held_at parts.holdings e.index) (λ k. id_eq k old)) i (replicate size 0))) → KeepsSizes (parts.holdings).known ((i, size) ∷ []) h'.known
    → IsWorld (parts_of h' parts.names parts.schemas parts.pins (parts.accepted + 1)) × (state_of (parts_of h' parts.names parts.schemas parts.pins (parts.accepted + 1)) ≡ counted (effect v (Add e i)))
replaced_left world {v} is e i old in_place none h' size whole' at alike keeps =
    let left = come_for world is e i old in_place none h' size whole' at alike keeps in
    counted_from left.0 left.1 v (Add e i) (effect-add v e i) (judged-add v e i in_place.no_trait none).room
