-- What commands on facts leave.
use Rattle.std.proofs.Common.{◌≡◌, ℕ, ◌==◌, Bool, true, false, cond, not, ◌&&◌, List, [], length, ℤ, Some, None, is_some, unwrap_or, if◌then◌else◌, inl, inr, IsTrue, IfSome, refl, sym, ap, subst, ◌∙◌, true≢false}
use Rattle.std.specs.Cmp.{nat_cmp_total, Equal-is}
use Rattle.std.specs.FinMap.Entries.{is_sorted-where_key}
use Rattle.std.specs.List.{list_all}
use Rattle.std.specs.Option.{option_eq, option_map_or}
use Rattle.std.specs.Ordering.{nat_cmp, eq_by_cmp}
use Rattle.ecs_id.specs.declared.EntityId.{EntityId}
use Rattle.ecs_id.specs.Id.{Id, plain, pair, mentioned, id_cmp, id_eq}
use Rattle.ecs_model.specs.Map.{Map, IsMap, value_at, has_key, keys, with_value, without}
use Rattle.ecs_model.specs.Schema.{Schema, zeros, all_fit}
use Rattle.ecs_model.specs.steps.WellFormed.{IsWellFormed}
use Rattle.ecs_model.specs.steps.FactChanges.{facts_after_add, facts_after_remove}
use Rattle.ecs_model.specs.steps.Rules.{is_trait}
use Rattle.ecs_model.specs.World.{WorldState, Key, key_cmp, pair_is_tag, holds, ids_of, type_of_id, new_value, value_of}
use Rattle.ecs_model.specs.steps.Outcomes.{counted, is_spent, with_facts}
use Rattle.ecs_model.specs.steps.Step.{SetValue, Remove, effect}
use Rattle.ecs_model.proofs.Differences.{last_value}
use Rattle.ecs_model.proofs.Maps.{IsMap-with_value, from_T, key_cmp_same, keys-with_value, nat_value_at, to_T}
use Rattle.ecs_model.proofs.Additions.{not_spent}
use Rattle.rel_traits.specs.Simple.{ComesAlone, is_unmirrored}
use Rattle.name_index.specs.Names.{Names}
use Rattle.ecs_table.specs.Archetype.{Cells, Shape}
use Rattle.ecs_archetypes.specs.Holdings.{AreHoldings, HoldAlike, Holdings, KeepsSizes, cells_at, held_at, holds_id, with_cells}
use Rattle.rel_traits.specs.PinCounts.{Counts}
use Rattle.ecs_world.specs.Singles.{with_one, without_one}
use Rattle.ecs_world.specs.State.{IsWorld, Parts, parts_of, all_facts, byte_count, is_known_rightly, names_of, state_of, type_of, value_in}
use Rattle.ecs_world.proofs.Entities.{generation_of}
use Rattle.ecs_world.proofs.Facts.{bytes_in}
use Rattle.ecs_world.proofs.FactChanges.{AreCells, bytes_put, bytes_gone, facts_put, facts_gone}
use Rattle.ecs_world.proofs.JudgedCommands.{CanChange}
use Rattle.ecs_world.proofs.SimpleFacts.{after_add, after_remove}
use Rattle.ecs_world.proofs.States.{AreCells-whole, AreCells-world, all_true, settled_at, type_in-same}
pub use Rattle.ecs_world.proofs.AdditionEffects.{effect_is as effect-add, added_sound as held_world}
pub use Rattle.ecs_world.proofs.DeletionEffects.{still_sound as uncounted}

-- where one more command can be counted, a world is well formed after it
pub recounted : (w : WorldState) → IsWellFormed w → is_spent w ≡ false → IsWellFormed (counted w)
recounted w h room = record {
  in_order = record {
    live = (h.in_order).live;
    facts = (h.in_order).facts;
    names = (h.in_order).names;
    schemas = (h.in_order).schemas;
    deletions = (h.in_order).deletions;
    pins = (h.in_order).pins;
  };
  indexes = record { given_out = (h.indexes).given_out; generation = (h.indexes).generation };
  built_in = record {
    live = (h.built_in).live;
    names = (h.built_in).names;
    facts = (h.built_in).facts;
    schemas = (h.built_in).schemas;
  };
  live = record { names = (h.live).names; names_differ = (h.live).names_differ; schemas = (h.live).schemas; pins = (h.live).pins; facts = (h.live).facts };
  typed = λ e i. typed e i;
  few_ids = h.few_ids;
  counted = not_spent w.accepted room;
  traits = record { one_target = (h.traits).one_target; mirrored = (h.traits).mirrored; traversable_acyclic = (h.traits).traversable_acyclic; no_cycle = (h.traits).no_cycle };
}
  where
    types : (i : Id) → type_of_id w i ≡ type_of_id (counted w) i
    types (plain c) = refl
    types (pair r t) = refl

    typed : (e : ℕ) (i : Id) → IfSome (value_of w e i) (λ v. (length v ≡ length (new_value (counted w) i)) × IsTrue (option_map_or (λ fs. all_fit fs v) (type_of_id (counted w) i) true))
    typed e i = subst (λ o. IfSome (value_of w e i) (λ v. (length v ≡ length (option_map_or zeros o [])) × IsTrue (option_map_or (λ fs. all_fit fs v) o true))) (types i) (h.typed e i)

-- the key of the trait is not that of a fact which may change
no_tag_key : (e r : ℕ) (i : Id) → is_trait i ≡ false → eq_by_cmp key_cmp (r, plain pair_is_tag) (e, i) ≡ false
no_tag_key e r i h = by (eq_by_cmp key_cmp (r, plain pair_is_tag) (e, i)) refl
  where
    by : (b : Bool) → eq_by_cmp key_cmp (r, plain pair_is_tag) (e, i) ≡ b → b ≡ false
    by true p =
        let same : ◌≡◌ {A = Key} (r, plain pair_is_tag) (e, i) = key_cmp_same (r, plain pair_is_tag) (e, i) ((Equal-is (key_cmp (r, plain pair_is_tag) (e, i))).0 p) in
        absurd (true≢false (ap (λ k. is_trait k.1) same ∙ h))
    by false p = refl

module _ {parts : Parts} (world : IsWorld parts) (e : EntityId) (i : Id) (can : CanChange (state_of parts) e i) where
  abbrev h : Holdings
  h = parts.holdings

  abbrev names : Names
  names = parts.names

  abbrev schemas : Map ℕ Schema
  schemas = parts.schemas

  abbrev pins : Counts
  pins = parts.pins

  abbrev accepted : ℕ
  accepted = parts.accepted

  abbrev w : WorldState
  w = state_of parts

  pub there : (cs : Cells) × (cells_at h e.index ≡ Some cs)
  there = settled_at world e.index (ap is_some (generation_of (value_at nat_cmp h.live e.index) e.generation can.alive))

  module _ (h' : Holdings) (whole' : AreHoldings h') (cs' : Cells) (alike : HoldAlike h' (with_cells h e.index cs')) (added : Shape) (keeps : KeepsSizes h.known added h'.known)
      (fits : list_all (is_known_rightly h schemas) added ≡ true) (tags : (r : ℕ) → holds_id h' r (plain pair_is_tag) ≡ holds_id h r (plain pair_is_tag)) where
    pub types_left : (j : Id) → type_of h' schemas j ≡ type_of h schemas j
    types_left j = type_in-same schemas schemas (λ r. holds_id h r (plain pair_is_tag)) (λ r. holds_id h' r (plain pair_is_tag)) (λ x. true) j (all_true (mentioned j)) (λ k t. refl) tags

    pub cells_left : (accepted' : ℕ) → IsWellFormed (state_of (parts_of h' names schemas pins accepted')) → IsWorld (parts_of h' names schemas pins accepted')
    cells_left accepted' sound = record {
      whole = whole';
      sound = sound;
      settled = ap keys alike.cells ∙ keys-with_value nat_cmp nat_cmp_total h.cells e.index cs' (world.whole).cells (ap is_some there.1) ∙ world.settled ∙ ap keys (sym alike.live);
      known = (λ k. list_all (λ c. (c.1 == byte_count (types_left c.0 k)) && list_all (has_key nat_cmp (alike.live k)) (mentioned c.0)) h'.known) ∙ keeps (is_known_rightly h schemas) world.known fits;
      named = λ n f p. ap (λ live. option_eq ◌==◌ (value_at nat_cmp live f.index) (Some f.generation)) alike.live ∙ world.named n f p;
      one_to_one = world.one_to_one;
      covered = λ j l. world.covered j (ap (λ live. has_key nat_cmp live j) (sym alike.live) ∙ l);
    }

  -- a fact comes, or has new bytes
  module _ (h' : Holdings) (whole' : AreHoldings h') (bytes : List ℕ) (alike : HoldAlike h' (with_cells h e.index (with_value id_cmp (held_at h e.index) i bytes))) where
    now_put : (d : ℕ) (j : Id) → bytes_in h'.cells d j ≡ cond (eq_by_cmp key_cmp (d, j) (e.index, i)) (Some bytes) (bytes_in h.cells d j)
    now_put d j = ap (λ cells. bytes_in cells d j) alike.cells ∙ bytes_put h.cells e.index i bytes d j

    pub tags_put : (r : ℕ) → holds_id h' r (plain pair_is_tag) ≡ holds_id h r (plain pair_is_tag)
    tags_put r = ap is_some (now_put r (plain pair_is_tag) ∙ ap (λ b. cond b (Some bytes) (bytes_in h.cells r (plain pair_is_tag))) (no_tag_key e.index r i can.no_trait))

    types_put : (j : Id) → type_of h' schemas j ≡ type_of h schemas j
    types_put j = type_in-same schemas schemas (λ r. holds_id h r (plain pair_is_tag)) (λ r. holds_id h' r (plain pair_is_tag)) (λ x. true) j (all_true (mentioned j)) (λ k t. refl) tags_put

    facts_left : all_facts (type_of h' schemas) h'.cells ≡ with_value key_cmp w.facts (e.index, i) (value_in (type_of h schemas i) bytes)
    facts_left = facts_put (type_of h schemas) (type_of h' schemas) h.cells h'.cells (AreCells-world world) (AreCells-whole h' whole') (λ d j bs p. types_put j) e.index i bytes now_put
        ∙ ap (λ t. with_value key_cmp w.facts (e.index, i) (value_in t bytes)) (types_put i)

    pub state_put : (accepted' : ℕ) → state_of (parts_of h' names schemas pins accepted') ≡ record w { facts = with_value key_cmp w.facts (e.index, i) (value_in (type_of h schemas i) bytes); accepted = accepted' }
    state_put accepted' = λ k. record {
      live = alike.live k;
      facts = facts_left k;
      names = names_of names (alike.live k);
      schemas = schemas;
      deletions = alike.deletions k;
      pins = pins.entries;
      accepted = accepted';
    }

  -- a fact goes
  module _ (h' : Holdings) (whole' : AreHoldings h') (alike : HoldAlike h' (with_cells h e.index (without id_cmp (held_at h e.index) (λ k. id_eq k i)))) where
    now_gone : (d : ℕ) (j : Id) → bytes_in h'.cells d j ≡ cond (eq_by_cmp key_cmp (d, j) (e.index, i)) None (bytes_in h.cells d j)
    now_gone d j = ap (λ cells. bytes_in cells d j) alike.cells ∙ bytes_gone h.cells e.index i d j

    pub tags_gone : (r : ℕ) → holds_id h' r (plain pair_is_tag) ≡ holds_id h r (plain pair_is_tag)
    tags_gone r = ap is_some (now_gone r (plain pair_is_tag) ∙ ap (λ b. cond b None (bytes_in h.cells r (plain pair_is_tag))) (no_tag_key e.index r i can.no_trait))

    types_gone : (j : Id) → type_of h' schemas j ≡ type_of h schemas j
    types_gone j = type_in-same schemas schemas (λ r. holds_id h r (plain pair_is_tag)) (λ r. holds_id h' r (plain pair_is_tag)) (λ x. true) j (all_true (mentioned j)) (λ k t. refl) tags_gone

    gone_alone : all_facts (type_of h' schemas) h'.cells ≡ without_one w e.index i
    gone_alone = facts_gone (type_of h schemas) (type_of h' schemas) h.cells h'.cells (AreCells-world world) (AreCells-whole h' whole') (λ d j bs p. types_gone j) e.index i now_gone

    gone_left : is_unmirrored (ids_of w) i ≡ true → all_facts (type_of h' schemas) h'.cells ≡ facts_after_remove w e.index i
    gone_left alone = gone_alone ∙ sym (after_remove w e.index i alone)

    pub state_gone : is_unmirrored (ids_of w) i ≡ true → (accepted' : ℕ) → state_of (parts_of h' names schemas pins accepted') ≡ record w { facts = facts_after_remove w e.index i; accepted = accepted' }
    state_gone alone accepted' = λ k. record {
      live = alike.live k;
      facts = gone_left alone k;
      names = names_of names (alike.live k);
      schemas = schemas;
      deletions = alike.deletions k;
      pins = pins.entries;
      accepted = accepted';
    }

  -- a fact comes in the place of another
  module _ (old : Id) (no_trait : is_trait old ≡ false) (h' : Holdings) (whole' : AreHoldings h') (bytes : List ℕ)
      (alike : HoldAlike h' (with_cells h e.index (with_value id_cmp (without id_cmp (held_at h e.index) (λ k. id_eq k old)) i bytes))) where
    abbrev less : Cells
    less = without id_cmp (held_at h e.index) (λ k. id_eq k old)

    abbrev mid : Map ℕ Cells
    mid = with_value nat_cmp h.cells e.index less

    less_held : unwrap_or (value_at nat_cmp mid e.index) [] ≡ less
    less_held = elim (nat_value_at h.cells e.index less e.index) [
      | inl p ↦ ap (λ o. unwrap_or o []) p.1
      | inr p ↦ absurd (p.0 refl)
    ]

    now_without : (d : ℕ) (j : Id) → bytes_in mid d j ≡ cond (eq_by_cmp key_cmp (d, j) (e.index, old)) None (bytes_in h.cells d j)
    now_without d j = bytes_gone h.cells e.index old d j

    now_cells : h'.cells ≡ with_value nat_cmp mid e.index (with_value id_cmp (unwrap_or (value_at nat_cmp mid e.index) []) i bytes)
    now_cells = alike.cells ∙ sym (last_value nat_cmp nat_cmp_total h.cells e.index less (with_value id_cmp less i bytes)) ∙ ap (λ c. with_value nat_cmp mid e.index (with_value id_cmp c i bytes)) (sym less_held)

    now_with : (d : ℕ) (j : Id) → bytes_in h'.cells d j ≡ cond (eq_by_cmp key_cmp (d, j) (e.index, i)) (Some bytes) (bytes_in mid d j)
    now_with d j = ap (λ cells. bytes_in cells d j) now_cells ∙ bytes_put mid e.index i bytes d j

    pub tags_replaced : (r : ℕ) → holds_id h' r (plain pair_is_tag) ≡ holds_id h r (plain pair_is_tag)
    tags_replaced r = ap is_some (
        now_with r (plain pair_is_tag) ∙ ap (λ b. cond b (Some bytes) (bytes_in mid r (plain pair_is_tag))) (no_tag_key e.index r i can.no_trait)
        ∙ now_without r (plain pair_is_tag) ∙ ap (λ b. cond b None (bytes_in h.cells r (plain pair_is_tag))) (no_tag_key e.index r old no_trait))

    types_replaced : (j : Id) → type_of h' schemas j ≡ type_of h schemas j
    types_replaced j = type_in-same schemas schemas (λ r. holds_id h r (plain pair_is_tag)) (λ r. holds_id h' r (plain pair_is_tag)) (λ x. true) j (all_true (mentioned j)) (λ k t. refl) tags_replaced

    mid_cells : AreCells mid
    mid_cells = record {
      in_order = IsMap-with_value nat_cmp nat_cmp_total h.cells e.index less (world.whole).cells;
      rise = λ d cs found. elim (nat_value_at h.cells e.index less d) [
        | inl p ↦ let own : Some less ≡ Some cs = sym p.1 ∙ found in let same : less ≡ cs = cc in subst (λ c. IsMap id_cmp c) same less_rise
        | inr p ↦ (AreCells-world world).rise d cs (sym p.1 ∙ found)
      ];
    }
      where
        less_rise : IsMap id_cmp less
        less_rise = from_T _ (is_sorted-where_key id_cmp (λ k. not (id_eq k old)) (held_at h e.index) (to_T _ (subst (λ o. IsMap id_cmp (unwrap_or o [])) (sym there.1) ((AreCells-world world).rise e.index there.0 there.1))))

    facts_replaced : all_facts (type_of h' schemas) h'.cells ≡ with_value key_cmp (without_one w e.index old) (e.index, i) (value_in (type_of h schemas i) bytes)
    facts_replaced = facts_put (type_of h schemas) (type_of h' schemas) mid h'.cells mid_cells (AreCells-whole h' whole') (λ d j bs p. types_replaced j) e.index i bytes now_with
        ∙ (λ k. with_value key_cmp (facts_gone (type_of h schemas) (type_of h schemas) h.cells mid (AreCells-world world) mid_cells (λ d j bs p. refl) e.index old now_without k) (e.index, i) (value_in (types_replaced i k) bytes))

    pub state_replaced : (accepted' : ℕ) → state_of (parts_of h' names schemas pins accepted')
        ≡ record w { facts = with_value key_cmp (without_one w e.index old) (e.index, i) (value_in (type_of h schemas i) bytes); accepted = accepted' }
    state_replaced accepted' = λ k. record {
      live = alike.live k;
      facts = facts_replaced k;
      names = names_of names (alike.live k);
      schemas = schemas;
      deletions = alike.deletions k;
      pins = pins.entries;
      accepted = accepted';
    }

-- a new fact has a new value
new_alone : (w : WorldState) (e : ℕ) (i : Id) → holds w e i ≡ false → with_one w e i ≡ with_value key_cmp w.facts (e, i) (new_value w i)
new_alone w e i absent = ap (λ b. if b then w.facts else with_value key_cmp w.facts (e, i) (new_value w i)) absent

-- a fact that is held stays as it is
held_alone : (w : WorldState) (e : ℕ) (i : Id) → holds w e i ≡ true → with_one w e i ≡ w.facts
held_alone w e i held = ap (λ b. if b then w.facts else with_value key_cmp w.facts (e, i) (new_value w i)) held

-- and nothing else comes or goes with a fact that comes alone
pub facts_new : (w : WorldState) (e : ℕ) (i : Id) → ComesAlone (ids_of w) (e, i) → holds w e i ≡ false → facts_after_add w e i ≡ with_value key_cmp w.facts (e, i) (new_value w i)
facts_new w e i alone absent = after_add w e i alone ∙ new_alone w e i absent

pub facts_held : (w : WorldState) (e : ℕ) (i : Id) → ComesAlone (ids_of w) (e, i) → holds w e i ≡ true → facts_after_add w e i ≡ w.facts
facts_held w e i alone held = after_add w e i alone ∙ held_alone w e i held

pub effect-set : (w : WorldState) (e : EntityId) (i : Id) (vs : List ℤ) → effect w (SetValue e i vs) ≡ with_facts w (with_value key_cmp (facts_after_add w e.index i) (e.index, i) vs)
unfolding effect
effect-set w e i vs = refl

pub effect-remove : (w : WorldState) (e : EntityId) (i : Id) → effect w (Remove e i) ≡ with_facts w (facts_after_remove w e.index i)
unfolding effect
effect-remove w e i = refl
