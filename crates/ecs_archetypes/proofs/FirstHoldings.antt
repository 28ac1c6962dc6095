-- The first holdings, and the next entity.
use Rattle.std.proofs.Common.{◌≡◌, ◌↔◌, Bool, true, false, cond, [], Option, Some, None, option_map, refl, sym, ap, ◌∙◌}
use Rattle.ecs_id.specs.declared.EntityId.{EntityId}
use Rattle.ecs_id.specs.declared.Place.{Place}
use Rattle.ecs_model.specs.World.{last_index, next_among}
use Rattle.entity_index.specs.Entities.{Entities, IsWellFormed, is_alive, built_in_entities, place_of}
use Rattle.entity_index.specs.Entities as index
use Rattle.ecs_archetypes.specs.Archetypes.{IsSound, meaning}
use Rattle.ecs_archetypes.specs.Holdings.{upcoming}
use Rattle.table_store.specs.Rows.{IsStored, row_at, row_of}
use Rattle.ecs_id.specs.TableKeys.{table_eq}
use Rattle.table_store.specs.Store.{Store, table_at}
use Rattle.std.specs.Option.{option_and_then}
use Rattle.std.specs.List.{find}

-- the index and the holdings agree on which entity comes next
pub same_next : (w : Entities) (s : Store) → w.last ≡ last_index → index.next_entity w ≡ upcoming (meaning w s)
same_next w s last = ap (next_among w.live w.deletions) last

no_row : (s : Store) → s.tables ≡ [] → (p : Place) → row_at s p ≡ None
unfolding row_at table_at
no_row s none p = ap (λ ts. option_and_then (λ t. row_of t p.row) (option_map (λ e. e.1) (find (λ e. table_eq p.table e.0) ts))) none

nowhere : (b : Bool) → cond {A = Option Place} b None None ≡ None
nowhere true = refl
nowhere false = refl

no_place : (w : Entities) → w ≡ built_in_entities last_index → (x : EntityId) → place_of w x ≡ None
no_place w e x = ap (λ u. place_of u x) e ∙ nowhere (is_alive (built_in_entities last_index) x)

apart : {A B : Type 0} (o : Option A) (r : Option B) (a : A) (b : B) → o ≡ None → r ≡ None → (o ≡ Some a) ↔ (r ≡ Some b)
apart o r a b none gone = (λ h. let no : None ≡ Some a = sym none ∙ h in cc, λ h. let no : None ≡ Some b = sym gone ∙ h in cc)

-- with no place and no row all is sound
pub sound_first : (w : Entities) (s : Store) → w ≡ built_in_entities last_index → IsWellFormed w → s.tables ≡ [] → IsStored s → IsSound w s
sound_first w s e wf none stored = record {
  well_formed = wf;
  stored = stored;
  last = ap (λ u. u.last) e;
  placed = λ x p. apart (place_of w x) (option_map (λ r. r.0) (row_at s p)) p x (no_place w e x) (ap (option_map (λ r. r.0)) (no_row s none p));
}
