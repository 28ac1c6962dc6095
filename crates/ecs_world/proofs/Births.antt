-- What the birth of an entity leaves.
use Rattle.std.proofs.Common.{◌≡◌, ◌≢◌, ℕ, ◌<◌, ◌==◌, Bool, true, false, cond, ◌&&◌, List, [], ◌∷◌, Some, None, is_some, refl, sym, ap, subst, ◌∙◌, inl, inr, true≢false}
use Rattle.std.specs.Cmp.{Equal-is}
use Rattle.std.specs.FinMap as finite
use Rattle.std.specs.FinMap.Entries.{by_order}
use Rattle.std.specs.List.{list_all}
use Rattle.std.specs.Option.{option_eq}
use Rattle.std.specs.declared.cmp.Ordering.{Ordering}
use Rattle.std.specs.declared.cmp.Ordering.TheVariants.{Less, Equal, Greater}
use Rattle.std.specs.Ordering.{nat_cmp, eq_by_cmp}
use Rattle.ecs_id.specs.declared.EntityId.{EntityId}
use Rattle.ecs_id.specs.Id.{Id, plain, mentioned, first_of}
use Rattle.ecs_model.specs.Map.{Map, value_at, has_key, keys, with_value}
use Rattle.ecs_model.specs.Schema.{Schema}
use Rattle.ecs_model.specs.steps.WellFormed.{IsWellFormed}
use Rattle.ecs_model.specs.World.{WorldState, key_cmp, component, pair_is_tag}
use Rattle.ecs_model.specs.steps.Outcomes.{next_entity, with_born, with_named, with_component}
use Rattle.ecs_model.specs.steps.Step.{Fresh, Entity, Component, effect}
use Rattle.ecs_model.proofs.Maps.{both_true, key_cmp_same, nat_value_at}
use Rattle.ecs_model.proofs.Reasons.{next_is_free}
use Rattle.name_index.specs.Names.{Names}
use Rattle.ecs_table.specs.Archetype.{Cells, Shape}
use Rattle.ecs_archetypes.specs.Holdings.{AreHoldings, HoldAlike, Holdings, KeepsSizes, cells_at, holds_id, with_cells, with_entity}
use Rattle.ecs_archetypes.proofs.ArchetypeCalls.{none_where}
use Rattle.rel_traits.specs.PinCounts.{Counts}
use Rattle.ecs_world.specs.State.{IsWorld, Parts, parts_of, all_facts, byte_count, is_known_rightly, names_of, state_of, type_of, value_in}
use Rattle.ecs_world.proofs.Entities.{alive_of}
use Rattle.ecs_world.proofs.Facts.{bytes_in}
use Rattle.ecs_world.proofs.FactChanges.{bytes_empty, bytes_first, facts_put, facts_same}
use Rattle.ecs_world.proofs.NameLists.{AreNamed, names_bound, names_same}
use Rattle.ecs_world.proofs.States.{AreCells-whole, AreCells-world, AreNamed-world, all_implied, known_held, type_in-same, unsettled_at}

-- the same key put into maps with the same keys
keys_put : {X Y : Type 0} (m : Map ℕ X) (n : Map ℕ Y) (k : ℕ) (x : X) (y : Y) → keys m ≡ keys n → keys (with_value nat_cmp m k x) ≡ keys (with_value nat_cmp n k y)
keys_put [] [] k x y h = refl
keys_put [] (f ∷ n) k x y h = cc
keys_put (e ∷ m) [] k x y h = cc
keys_put (e ∷ m) (f ∷ n) k x y h =
    let first : e.0 ≡ f.0 = cc in
    let rest : keys m ≡ keys n = cc in
    by (nat_cmp k e.0) (nat_cmp k f.0) (ap (nat_cmp k) first) first rest (keys_put m n k x y rest)
  where
    by : (r s : Ordering) → r ≡ s → e.0 ≡ f.0 → keys m ≡ keys n → keys (with_value nat_cmp m k x) ≡ keys (with_value nat_cmp n k y)
        → keys (by_order r ((k, x) ∷ e ∷ m) ((e.0, x) ∷ m) (e ∷ with_value nat_cmp m k x)) ≡ keys (by_order s ((k, y) ∷ f ∷ n) ((f.0, y) ∷ n) (f ∷ with_value nat_cmp n k y))
    by Less Less p first rest more = λ i. k ∷ first i ∷ rest i
    by Equal Equal p first rest more = λ i. first i ∷ rest i
    by Greater Greater p first rest more = λ i. first i ∷ more i
    by Less Equal p first rest more = cc
    by Less Greater p first rest more = cc
    by Equal Less p first rest more = cc
    by Equal Greater p first rest more = cc
    by Greater Less p first rest more = cc
    by Greater Equal p first rest more = cc

no_tag : (e r : ℕ) → eq_by_cmp key_cmp (r, plain pair_is_tag) (e, plain component) ≡ false
no_tag e r = by (eq_by_cmp key_cmp (r, plain pair_is_tag) (e, plain component)) refl
  where
    by : (b : Bool) → eq_by_cmp key_cmp (r, plain pair_is_tag) (e, plain component) ≡ b → b ≡ false
    by true p = absurd (true≢false (ap (λ k. first_of k.1 == pair_is_tag) (key_cmp_same (r, plain pair_is_tag) (e, plain component) ((Equal-is (key_cmp (r, plain pair_is_tag) (e, plain component))).0 p))))
    by false p = refl

module _ {parts : Parts} (world : IsWorld parts) (e : EntityId) (next : next_entity (state_of parts) ≡ Some e) where
  abbrev h : Holdings
  h = parts.holdings

  abbrev names : Names
  names = parts.names

  abbrev schemas : Map ℕ Schema
  schemas = parts.schemas

  abbrev pins : Counts
  pins = parts.pins

  abbrev accepted : ℕ
  accepted = parts.accepted

  abbrev w : WorldState
  w = state_of parts

  fresh : has_key nat_cmp h.live e.index ≡ false
  fresh = (next_is_free w e next).fresh

  pub none_live : value_at nat_cmp h.live e.index ≡ None
  none_live = none_where (value_at nat_cmp h.live e.index) fresh

  pub none_settled : cells_at h e.index ≡ None
  none_settled = unsettled_at world e.index fresh

  abbrev born : Map ℕ ℕ
  born = with_value nat_cmp h.live e.index e.generation

  other : (j : ℕ) → has_key nat_cmp h.live j ≡ true → j ≢ e.index
  other j live is = true≢false (sym live ∙ ap (has_key nat_cmp h.live) is ∙ fresh)

  still_live : (j : ℕ) → has_key nat_cmp h.live j ≡ true → has_key nat_cmp born j ≡ true
  still_live j live = elim (nat_value_at h.live e.index e.generation j) [ inl p ↦ ap is_some p.1 | inr p ↦ ap is_some p.1 ∙ live ]

  covers_born : e.index < pins.reach → (j : ℕ) → has_key nat_cmp born j ≡ true → j < pins.reach
  covers_born covers j live = elim (nat_value_at h.live e.index e.generation j) [ inl p ↦ subst (λ i. i < pins.reach) (sym p.0) covers | inr p ↦ world.covered j (ap is_some (sym p.1) ∙ live) ]

  module _ (h' : Holdings) (whole' : AreHoldings h') (cs' : Cells) (alike : HoldAlike h' (with_cells (with_entity h e) e.index cs')) (schemas' : Map ℕ Schema)
      (same : (j : ℕ) → j ≢ e.index → value_at nat_cmp schemas' j ≡ value_at nat_cmp schemas j) (tags : (r : ℕ) → holds_id h' r (plain pair_is_tag) ≡ holds_id h r (plain pair_is_tag)) where
    types_born : (j : Id) → list_all (has_key nat_cmp h.live) (mentioned j) ≡ true → type_of h' schemas' j ≡ type_of h schemas j
    types_born j live = type_in-same schemas schemas' (λ r. holds_id h r (plain pair_is_tag)) (λ r. holds_id h' r (plain pair_is_tag)) (has_key nat_cmp h.live) j live (λ k l. same k (other k l)) tags

    pub types_held : (d : ℕ) (j : Id) (bs : List ℕ) → bytes_in h.cells d j ≡ Some bs → type_of h' schemas' j ≡ type_of h schemas j
    types_held d j bs found = types_born j (known_held world d j bs found).1

    known_born : (c : Id × ℕ) → is_known_rightly h schemas c ≡ true → is_known_rightly h' schemas' c ≡ true
    known_born c k =
        let parts = both_true (c.1 == byte_count (type_of h schemas c.0)) (list_all (has_key nat_cmp h.live) (mentioned c.0)) k in
        let size : (c.1 == byte_count (type_of h' schemas' c.0)) ≡ true = ap (λ o. c.1 == byte_count o) (types_born c.0 parts.1) ∙ parts.0 in
        let live : list_all (has_key nat_cmp h'.live) (mentioned c.0) ≡ true = ap (λ m. list_all (has_key nat_cmp m) (mentioned c.0)) alike.live ∙ all_implied (has_key nat_cmp h.live) (has_key nat_cmp born) still_live (mentioned c.0) parts.1 in
        λ i. size i && live i

    pub birth_left : e.index < pins.reach → (names' : Names) → AreNamed names' born → (added : Shape) → KeepsSizes h.known added h'.known → list_all (is_known_rightly h' schemas') added ≡ true
        → (accepted' : ℕ) → IsWellFormed (state_of (parts_of h' names' schemas' pins accepted')) → IsWorld (parts_of h' names' schemas' pins accepted')
    birth_left covers names' named' added keeps fits accepted' sound = record {
      whole = whole';
      sound = sound;
      settled = ap keys alike.cells ∙ keys_put h.cells h.live e.index cs' e.generation world.settled ∙ ap keys (sym alike.live);
      known = keeps (is_known_rightly h' schemas') (all_implied (is_known_rightly h schemas) (is_known_rightly h' schemas') known_born h.known world.known) fits;
      named = λ n f p. ap (λ live. option_eq ◌==◌ (value_at nat_cmp live f.index) (Some f.generation)) alike.live ∙ alive_of (value_at nat_cmp born f.index) f.generation (named'.named n f p);
      one_to_one = named'.one;
      covered = λ j l. covers_born covers j (ap (λ live. has_key nat_cmp live j) (sym alike.live) ∙ l);
    }

  -- an entity that holds nothing
  module _ (h' : Holdings) (whole' : AreHoldings h') (alike : HoldAlike h' (with_cells (with_entity h e) e.index [])) where
    now_empty : (d : ℕ) (j : Id) → bytes_in h'.cells d j ≡ bytes_in h.cells d j
    now_empty d j = ap (λ cells. bytes_in cells d j) alike.cells ∙ bytes_empty h.cells e.index none_settled d j

    pub tags_empty : (r : ℕ) → holds_id h' r (plain pair_is_tag) ≡ holds_id h r (plain pair_is_tag)
    tags_empty r = ap is_some (now_empty r (plain pair_is_tag))

    facts_empty : all_facts (type_of h' schemas) h'.cells ≡ w.facts
    facts_empty = facts_same (type_of h schemas) (type_of h' schemas) h.cells h'.cells (AreCells-world world) (AreCells-whole h' whole')
        (types_held h' whole' [] alike schemas (λ j d. refl) tags_empty) now_empty

    pub state_fresh : (accepted' : ℕ) → state_of (parts_of h' names schemas pins accepted') ≡ record w { live = born; accepted = accepted' }
    state_fresh accepted' = λ k. record {
      live = alike.live k;
      facts = facts_empty k;
      names = (ap (names_of names) alike.live ∙ names_same names h.live (AreNamed-world world) e none_live) k;
      schemas = schemas;
      deletions = alike.deletions k;
      pins = pins.entries;
      accepted = accepted';
    }

    pub state_named : (n : List ℕ) (free : finite.get names n ≡ None) (accepted' : ℕ)
        → state_of (parts_of h' (finite.insert names n e) schemas pins accepted') ≡ record w { live = born; names = with_value nat_cmp w.names e.index n; accepted = accepted' }
    state_named n free accepted' = λ k. record {
      live = alike.live k;
      facts = facts_empty k;
      names = (ap (names_of (finite.insert names n e)) alike.live ∙ names_bound names h.live (AreNamed-world world) e none_live n free) k;
      schemas = schemas;
      deletions = alike.deletions k;
      pins = pins.entries;
      accepted = accepted';
    }

  -- a component
  module _ (h' : Holdings) (whole' : AreHoldings h') (alike : HoldAlike h' (with_cells (with_entity h e) e.index ((plain component, []) ∷ []))) (s : Schema) where
    now_tagged : (d : ℕ) (j : Id) → bytes_in h'.cells d j ≡ cond (eq_by_cmp key_cmp (d, j) (e.index, plain component)) (Some []) (bytes_in h.cells d j)
    now_tagged d j = ap (λ cells. bytes_in cells d j) alike.cells ∙ bytes_first h.cells e.index none_settled (plain component) [] d j

    pub tags_tagged : (r : ℕ) → holds_id h' r (plain pair_is_tag) ≡ holds_id h r (plain pair_is_tag)
    tags_tagged r = ap is_some (now_tagged r (plain pair_is_tag) ∙ ap (λ b. cond b (Some []) (bytes_in h.cells r (plain pair_is_tag))) (no_tag e.index r))

    abbrev typed : Map ℕ Schema
    typed = with_value nat_cmp schemas e.index s

    pub other_schemas : (j : ℕ) → j ≢ e.index → value_at nat_cmp typed j ≡ value_at nat_cmp schemas j
    other_schemas j d = elim (nat_value_at schemas e.index s j) [ inl p ↦ absurd (d p.0) | inr p ↦ p.1 ]

    live_component : has_key nat_cmp h.live component ≡ true
    live_component = ap is_some (((world.sound).built_in).live component refl)

    pub no_fields : value_at nat_cmp typed component ≡ None
    no_fields = other_schemas component (other component live_component) ∙ ((world.sound).built_in).schemas component refl

    facts_tagged : all_facts (type_of h' typed) h'.cells ≡ with_value key_cmp w.facts (e.index, plain component) []
    facts_tagged = facts_put (type_of h schemas) (type_of h' typed) h.cells h'.cells (AreCells-world world) (AreCells-whole h' whole')
        (types_held h' whole' ((plain component, []) ∷ []) alike typed other_schemas tags_tagged) e.index (plain component) [] now_tagged
        ∙ ap (λ o. with_value key_cmp w.facts (e.index, plain component) (value_in o [])) no_fields

    pub component_known : list_all (is_known_rightly h' typed) ((plain component, 0) ∷ []) ≡ true
    component_known =
        let live : has_key nat_cmp h'.live component ≡ true = ap (λ m. has_key nat_cmp m component) alike.live ∙ still_live component live_component in
        λ i. ((0 == byte_count (no_fields i)) && (live i && true)) && true

    pub state_component : (n : List ℕ) (free : finite.get names n ≡ None) (accepted' : ℕ)
        → state_of (parts_of h' (finite.insert names n e) typed pins accepted')
        ≡ record w { live = born; names = with_value nat_cmp w.names e.index n; schemas = typed; facts = with_value key_cmp w.facts (e.index, plain component) []; accepted = accepted' }
    state_component n free accepted' = λ k. record {
      live = alike.live k;
      facts = facts_tagged k;
      names = (ap (names_of (finite.insert names n e)) alike.live ∙ names_bound names h.live (AreNamed-world world) e none_live n free) k;
      schemas = typed;
      deletions = alike.deletions k;
      pins = pins.entries;
      accepted = accepted';
    }

pub effect-fresh : (w : WorldState) (e : EntityId) → next_entity w ≡ Some e → effect w Fresh ≡ record w { live = with_value nat_cmp w.live e.index e.generation }
unfolding effect with_born
effect-fresh w e next = ap (with_born w) next

pub effect-entity : (w : WorldState) (n : List ℕ) (e : EntityId) → next_entity w ≡ Some e → effect w (Entity n) ≡ record w { live = with_value nat_cmp w.live e.index e.generation; names = with_value nat_cmp w.names e.index n }
unfolding effect with_named
effect-entity w n e next = ap (with_named w n) next

pub effect-component : (w : WorldState) (n : List ℕ) (s : Schema) (e : EntityId) → next_entity w ≡ Some e → effect w (Component n s) ≡ record w {
  live = with_value nat_cmp w.live e.index e.generation;
  names = with_value nat_cmp w.names e.index n;
  schemas = with_value nat_cmp w.schemas e.index s;
  facts = with_value key_cmp w.facts (e.index, plain component) [];
}
unfolding effect with_component
effect-component w n s e next = ap (with_component w n s) next
