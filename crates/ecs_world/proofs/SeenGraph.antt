-- What the searches along relationships see of a world: its live entities, and the ids of each.
use Rattle.std.proofs.Common.{◌≡◌, ℕ, ◌<◌, Bool, true, false, List, [], Option, Some, None, option_map, if◌then◌else◌, refl, sym, ap, subst, ◌∙◌}
use Rattle.std.proofs.lemmas.List.Elements.{Contains-get_or}
use Rattle.std.specs.Prelude.{All, Contains, is_some}
use Rattle.std.specs.List.{list_all}
use Rattle.std.specs.Ordering.{nat_cmp}
use Rattle.ecs_id.specs.declared.EntityId.{EntityId}
use Rattle.ecs_id.specs.Id.{Id, mentioned}
use Rattle.ecs_model.specs.steps.Outcomes.{is_spent}
use Rattle.ecs_model.specs.Links.{AreLinks}
use Rattle.ecs_model.specs.Map.{keys, value_at}
use Rattle.ecs_model.specs.World.{WorldState, is_alive, is_live, entity_at, entities, ids_of}
use Rattle.ecs_model.proofs.steps.Facts.{live_listed}
use Rattle.ecs_model.proofs.steps.LivingIds.{each_passes, links_below}
use Rattle.entity_index.specs.Sizes.{live_size}
use Rattle.entity_index.proofs.Tops.{top_is}
use Rattle.ecs_archetypes.specs.Holdings.{Holdings, held_at}
use Rattle.rel_traits.specs.Sees.{HasCounts, Sees}
use Rattle.ecs_world.specs.State.{IsWorld, Parts, state_of}
use Rattle.ecs_world.proofs.Entities.{alive_of, generation_of}
use Rattle.ecs_world.proofs.States.{ids_is}
use Rattle.ecs_archetypes.proofs.DeadEntities.{nothing_held}

-- who lives stands at a live index
pub alive_live : (w : WorldState) (e : EntityId) → is_alive w e ≡ true → is_live w e.index ≡ true
alive_live w e alive = ap is_some (generation_of (value_at nat_cmp w.live e.index) e.generation alive)

pub alive_listed : (w : WorldState) (e : EntityId) → is_alive w e ≡ true → Contains (entities w) e.index
alive_listed w e alive = live_listed w e.index (alive_live w e alive)

pub mentioned_listed : (w : WorldState) (i : Id) → list_all (is_live w) (mentioned i) ≡ true → All (Contains (entities w)) (mentioned i)
mentioned_listed w i lives = λ k d inside. live_listed w _ (each_passes (is_live w) (mentioned i) lives _ (Contains-get_or (mentioned i) k d inside))

-- the entity at an index lives there
pub there_alive : (w : WorldState) (i : ℕ) (e : EntityId) → Some e ≡ entity_at w i → (is_alive w e ≡ true) × (e.index ≡ i)
there_alive w i e at = by (value_at nat_cmp w.live i) refl at
  where
    by : (o : Option ℕ) → value_at nat_cmp w.live i ≡ o → Some e ≡ option_map (λ g. record { index = i; generation = g }) o → (is_alive w e ≡ true) × (e.index ≡ i)
    by None found is = cc
    by (Some g) found is =
        let same : e ≡ record { index = i; generation = g } = cc in
        let index : e.index ≡ i = ap (λ v. v.index) same in
        let generation : e.generation ≡ g = ap (λ v. v.generation) same in
        (alive_of (value_at nat_cmp w.live e.index) e.generation (ap (value_at nat_cmp w.live) index ∙ found ∙ ap Some (sym generation)), index)

module _ {parts : Parts} (world : IsWorld parts) where
  abbrev h : Holdings
  h = parts.holdings

  abbrev w : WorldState
  w = state_of parts

  -- the graph of the tables shows the world
  pub sees : Sees w (keys h.live) (λ e. keys (held_at h e))
  sees = record { sound = world.sound; live_are = refl; ids_are = ids_is world }

  -- each live index is below the size
  pub live_below : (e : ℕ) → is_live w e ≡ true → e < live_size h.live
  live_below e live = (top_is h.live (world.whole).live).bound e live

  -- the graph fits together, below that size
  pub linked : (n : ℕ) → n ≡ live_size h.live → AreLinks n (keys h.live) (λ e. keys (held_at h e))
  linked n is =
      let same : ids_of w ≡ (λ e. keys (held_at h e)) = λ j e. ids_is world e j in
      subst (AreLinks n (keys h.live)) same (links_below w world.sound n (λ e live. subst (λ m. e < m) (sym is) (live_below e live)))

  -- who lives is among those that it shows, and so is all that an id of live ones mentions
  pub alive_shown : (e : EntityId) → is_alive w e ≡ true → Contains (keys h.live) e.index
  alive_shown e alive = alive_listed w e alive

  pub mentioned_shown : (i : Id) → list_all (is_live w) (mentioned i) ≡ true → All (Contains (keys h.live)) (mentioned i)
  mentioned_shown i lives = mentioned_listed w i lives

  -- the ids of the entity at an index, and none where no entity lives there
  pub ids_there : (i : ℕ) (e : EntityId) (o : Option (List Id)) → Some e ≡ entity_at w i → o ≡ (if is_alive w e then Some (ids_of w e.index) else None) → o ≡ Some (ids_of w i)
  ids_there i e o at is =
      let alive = there_alive w i e at in
      is ∙ (λ k. if alive.0 k then Some (ids_of w (alive.1 k)) else None)

  pub these_there : (i : ℕ) (e : EntityId) (is : List Id) → Some e ≡ entity_at w i → Some is ≡ (if is_alive w e then Some (ids_of w e.index) else None) → is ≡ ids_of w i
  these_there i e ids at is = let some = ids_there i e (Some ids) at is in cc

  pub no_ids_there : (i : ℕ) (e : EntityId) → Some e ≡ entity_at w i → None ≡ (if is_alive w e then Some (ids_of w e.index) else None) → [] ≡ ids_of w i
  no_ids_there i e at is = let some = ids_there i e None at is in cc

  pub none_there : (i : ℕ) → None ≡ entity_at w i → [] ≡ ids_of w i
  none_there i none =
      let l = linked (live_size h.live) refl in
      sym (ids_is world i ∙ nothing_held (live_size h.live) h.live (λ e. keys (held_at h e)) l i (dead (value_at nat_cmp h.live i) none))
    where
      dead : (o : Option ℕ) → None ≡ option_map (λ g. let e : EntityId = record { index = i; generation = g } in e) o → is_some o ≡ false
      dead None is = refl
      dead (Some g) is = cc

  -- how often it is mentioned by stored queries, and whether a further command is counted
  pub has_counts : (spent : Bool) → spent ≡ is_spent w → HasCounts w (parts.pins).entries spent
  has_counts spent is = record { pins_are = refl; spent_is = sym is }
