-- What is seen of a world says of its state, of its tables, and of the entities in them.
use Rattle.std.proofs.Common.{◌≡◌, ℕ, ◌&&◌, Bool, true, false, List, is_some, refl, sym, ap, subst}
use Rattle.std.specs.Ordering.{nat_cmp}
use Rattle.ecs_id.specs.declared.EntityId.{EntityId}
use Rattle.ecs_id.specs.Id.{Id}
use Rattle.component_index.specs.Listings.{Lists}
use Rattle.ecs_model.specs.Map.{Map, value_at}
use Rattle.ecs_model.specs.Schema.{Schema}
use Rattle.ecs_model.specs.World.{WorldState, is_alive}
use Rattle.name_index.specs.Names.{Names}
use Rattle.ecs_archetypes.specs.Holdings.{Holdings, bytes_at, cells_at, held_at, is_settled, lives}
use Rattle.ecs_archetypes.specs.Housing.{Housing, holdings_of}
use Rattle.ecs_archetypes.specs.Staying.{TablesStay}
use Rattle.entity_index.specs.Sizes.{live_size}
use Rattle.table_store.specs.Going.{TablesGoOn}
use Rattle.table_store.specs.Store.{Store}
use Rattle.rel_traits.specs.PinCounts.{Counts}
use Rattle.ecs_world.specs.Standing.{IsGraphOf, IsLinksOf, Standing}
use Rattle.ecs_world.specs.State.{AreFactsOf, IsWorld, Parts, parts_of, state_of}
use Rattle.ecs_world.proofs.Entities.{generation_of}
use Rattle.ecs_world.proofs.SeenGraph.{sees}
use Rattle.ecs_world.proofs.States.{bytes_told, ids_is, settled_at}

pub state_is : {s t : Standing} → s ≡ t → s.state ≡ t.state
state_is is = ap (λ u. u.state) is

-- what is so of two worlds, is so of those that they are seen as
pub seen_as : {s t u v : Standing} (P : Standing → Standing → Type 0) → s ≡ t → u ≡ v → P s v → P t u
seen_as {s} {t} {u} {v} P begun ended p = subst (λ x. P x u) begun (subst (P s) (sym ended) p)

-- the tables go on from those that were seen
pub going_on : {s t : Standing} {n : Store} → s ≡ t → TablesGoOn s.tables n → TablesGoOn t.tables n
going_on {n = n} is on = subst (λ u. TablesGoOn u.tables n) is on

-- and stay
pub staying_on : {may_go : List Id → Bool} {s t : Standing} {n : Store} → s ≡ t → TablesStay may_go s.tables n → TablesStay may_go t.tables n
staying_on {may_go = may_go} {n = n} is stay = subst (λ u. TablesStay may_go u.tables n) is stay

module _ {parts : Parts} (world : IsWorld parts) where
  abbrev h : Holdings
  h = parts.holdings

  abbrev w : WorldState
  w = state_of parts

  -- whoever lives stands in a table
  alive_settled : (e : EntityId) → is_settled h e ≡ is_alive w e
  alive_settled e = by (lives h e) refl
    where
      by : (b : Bool) → lives h e ≡ b → (b && is_some (cells_at h e.index)) ≡ b
      by true alive = ap is_some (settled_at world e.index (ap is_some (generation_of (value_at nat_cmp h.live e.index) e.generation alive))).1
      by false dead = refl

  held_facts : (e : ℕ) → AreFactsOf w e (held_at h e)
  held_facts e = record {
    ids = sym (ids_is world e);
    value = λ i. (bytes_told world e i (bytes_at h e i) refl).0;
    size = λ i. (bytes_told world e i (bytes_at h e i) refl).1;
  }

-- the entities of a world in its tables
pub graph_told : (g : Housing) (names : Names) (schemas : Map ℕ Schema) (pins : Counts) (accepted : ℕ) → IsWorld (parts_of (holdings_of g) names schemas pins accepted)
    → IsGraphOf (record { state = state_of (parts_of (holdings_of g) names schemas pins accepted); tables = g.tables }) g
graph_told g names schemas pins accepted world = record { tables = refl; live = refl; settled = alive_settled world; facts = held_facts world }

-- and so do the searches along relationships
pub links_told : (g : Housing) (names : Names) (schemas : Map ℕ Schema) (pins : Counts) (accepted : ℕ) → IsWorld (parts_of (holdings_of g) names schemas pins accepted) → (n : ℕ) → n ≡ live_size (holdings_of g).live → (lists : Lists)
    → IsLinksOf (record { state = state_of (parts_of (holdings_of g) names schemas pins accepted); tables = g.tables }) (record { housing = g; size = n; lists = lists })
links_told g names schemas pins accepted world n is lists = record { sees = sees world; tables = refl; size = is }
