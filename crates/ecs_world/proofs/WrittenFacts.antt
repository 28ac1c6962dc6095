-- What is left of a world where a fact that is held has got other bytes.
use Rattle.std.proofs.Common.{◌≡◌, ℕ, ◌==◌, Bool, true, false, cond, ◌&&◌, List, [], length, Some, is_some, refl, sym, ap, subst, ◌∙◌}
use Rattle.std.specs.Cmp.{Equal-is, nat_cmp_total}
use Rattle.std.specs.List.{list_all}
use Rattle.std.specs.Option.{option_eq}
use Rattle.std.specs.Ordering.{nat_cmp, eq_by_cmp}
use Rattle.ecs_id.specs.declared.EntityId.{EntityId}
use Rattle.ecs_id.specs.Id.{Id, plain, mentioned, id_cmp}
use Rattle.ecs_model.specs.Map.{Map, has_key, keys, value_at, with_value}
use Rattle.ecs_model.specs.Schema.{Schema}
use Rattle.ecs_model.specs.World.{WorldState, Key, key_cmp, pair_is_tag, holds, is_alive, type_of_id}
use Rattle.ecs_model.specs.steps.WellFormed.{IsWellFormed}
use Rattle.ecs_model.proofs.Maps.{key_cmp_same, keys-with_value}
use Rattle.ecs_table.specs.Archetype.{Cells}
use Rattle.ecs_archetypes.specs.Holdings.{AreHoldings, HoldAlike, Holdings, KeepsSizes, agrees, cells_at, held_at, holds_id, is_settled, lives, with_cells}
use Rattle.ecs_world.specs.Changes.{with_bytes}
use Rattle.ecs_world.specs.State.{IsWorld, Parts, parts_of, byte_count, is_known_rightly, names_of, state_of, type_of, value_in}
use Rattle.ecs_world.proofs.ChangedWorlds.{state_left}
use Rattle.ecs_world.proofs.Entities.{generation_of}
use Rattle.ecs_world.proofs.FactChanges.{bytes_put, facts_put}
use Rattle.ecs_world.proofs.Facts.{bytes_in}
use Rattle.ecs_world.proofs.States.{AreCells-whole, AreCells-world, all_true, holds_is, settled_at, size_agrees, type_in-same, type_is}

module _ {parts : Parts} (world : IsWorld parts) {v : WorldState} (is : state_of parts ≡ v) (e : EntityId) where
  abbrev h : Holdings
  h = parts.holdings

  abbrev schemas : Map ℕ Schema
  schemas = parts.schemas

  abbrev w : WorldState
  w = state_of parts

  module _ (alive : is_alive v e ≡ true) where
    alive_there : lives h e ≡ true
    alive_there = ap (λ u. is_alive u e) is ∙ alive

    there : (cs : Cells) × (cells_at h e.index ≡ Some cs)
    there = settled_at world e.index (ap is_some (generation_of _ e.generation alive_there))

    -- a live entity stands in a table
    pub alive_settled : is_settled h e ≡ true
    alive_settled = λ k. alive_there k && is_some (there.1 k)

    module _ (i : Id) (held : holds v e.index i ≡ true) (bytes : List ℕ) where
      pub held_there : holds_id h e.index i ≡ true
      held_there = sym (holds_is world e.index i) ∙ ap (λ u. holds u e.index i) is ∙ held

      -- the size of the value is that of its type
      pub size_there : length bytes ≡ byte_count (type_of_id v i) → agrees h.known i (length bytes) ≡ true
      size_there size = size_agrees world i (length bytes) (size ∙ ap (λ u. byte_count (type_of_id u i)) (sym is) ∙ ap byte_count (type_is world i))

      module _ (h' : Holdings) (whole : AreHoldings h') (alike : HoldAlike h' (with_cells h e.index (with_value id_cmp (held_at h e.index) i bytes))) where
        now_put : (d : ℕ) (j : Id) → bytes_in h'.cells d j ≡ cond (eq_by_cmp key_cmp (d, j) (e.index, i)) (Some bytes) (bytes_in h.cells d j)
        now_put d j = ap (λ cells. bytes_in cells d j) alike.cells ∙ bytes_put h.cells e.index i bytes d j

        -- the same is held as before
        same_held : (d : ℕ) (j : Id) → holds_id h' d j ≡ holds_id h d j
        same_held d j = ap is_some (now_put d j) ∙ by (eq_by_cmp key_cmp (d, j) (e.index, i)) refl
          where
            by : (b : Bool) → eq_by_cmp key_cmp (d, j) (e.index, i) ≡ b → is_some (cond b (Some bytes) (bytes_in h.cells d j)) ≡ holds_id h d j
            by true p =
                let same : ◌≡◌ {A = Key} (d, j) (e.index, i) = key_cmp_same (d, j) (e.index, i) ((Equal-is (key_cmp (d, j) (e.index, i))).0 p) in
                sym (ap (λ (k : Key). holds_id h k.0 k.1) same ∙ held_there)
            by false p = refl

        same_type : (j : Id) → type_of h' schemas j ≡ type_of h schemas j
        same_type j =
            type_in-same schemas schemas (λ r. holds_id h r (plain pair_is_tag)) (λ r. holds_id h' r (plain pair_is_tag)) (λ x. true) j (all_true (mentioned j)) (λ k t. refl)
            (λ r. same_held r (plain pair_is_tag))

        -- the state with these bytes
        pub state_written : state_of (parts_of h' parts.names schemas parts.pins parts.accepted) ≡ with_bytes v e.index i bytes
        state_written =
            state_left (parts_of h' parts.names schemas parts.pins parts.accepted) (with_bytes w e.index i bytes)
            (facts_put (type_of h schemas) (type_of h' schemas) h.cells h'.cells (AreCells-world world) (AreCells-whole h' whole) (λ d j bs p. same_type j) e.index i bytes now_put
            ∙ ap (λ t. with_value key_cmp w.facts (e.index, i) (value_in t bytes)) (same_type i ∙ sym (type_is world i)))
            alike.live (ap (names_of parts.names) alike.live) refl alike.deletions refl refl
            ∙ ap (λ u. with_bytes u e.index i bytes) is

        pub world_written : KeepsSizes h.known [] h'.known → IsWellFormed (with_bytes v e.index i bytes) → IsWorld (parts_of h' parts.names schemas parts.pins parts.accepted)
        world_written keeps sound = record {
          whole = whole;
          sound = subst IsWellFormed (sym state_written) sound;
          settled =
              ap keys alike.cells ∙ keys-with_value nat_cmp nat_cmp_total h.cells e.index (with_value id_cmp (held_at h e.index) i bytes) (world.whole).cells (ap is_some there.1)
              ∙ world.settled ∙ ap keys (sym alike.live);
          known =
              (λ k. list_all (λ c. (c.1 == byte_count (same_type c.0 k)) && list_all (has_key nat_cmp (alike.live k)) (mentioned c.0)) h'.known)
              ∙ keeps (is_known_rightly h schemas) world.known refl;
          named = λ n f p. ap (λ live. option_eq ◌==◌ (value_at nat_cmp live f.index) (Some f.generation)) alike.live ∙ world.named n f p;
          one_to_one = world.one_to_one;
          covered = λ j l. world.covered j (ap (λ live. has_key nat_cmp live j) (sym alike.live) ∙ l);
        }
