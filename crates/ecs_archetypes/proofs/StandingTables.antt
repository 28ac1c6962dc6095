-- Tables that stand on.
use Rattle.std.proofs.Common.{◌≡◌, false, List, [], Some, None, Option, map, option_map, refl, sym, ap, subst, ◌∙◌, true≢false}
use Rattle.std.specs.List.{list_any}
use Rattle.id_pattern.specs.declared.Pattern.{Pattern}
use Rattle.id_pattern.specs.Patterns.{matches}
use Rattle.ecs_id.specs.Id.{Id}
use Rattle.ecs_id.specs.declared.TableKey.{TableKey}
use Rattle.table_store.specs.Store.{Shape, Store, ids_at, shape_at}
use Rattle.entity_index.specs.Entities.{Entities}
use Rattle.table_store.specs.Going.{goes_on_same, goes_on_then}
use Rattle.ecs_archetypes.specs.Archetypes.{IsSound, known_in}
use Rattle.ecs_archetypes.specs.Housing.{HasRoomMade, HaveGrown, Housing, IsHoused}
use Rattle.ecs_archetypes.specs.Lasting.{TablesLast}
use Rattle.ecs_archetypes.specs.Scans.{HasMatch, StandApart}
use Rattle.ecs_archetypes.specs.Staying.{TablesStay, none_goes, stay_same, stay_then}
use Rattle.ecs_archetypes.specs.Tables.{HasGrown, StandAlike}
use Rattle.ecs_archetypes.proofs.EnteredTables.{goes_on_alike, ids_of_shape, same_ids}
use Rattle.ecs_archetypes.proofs.KnownIds.{KeepsSizes-then, same_kept}
use Rattle.ecs_archetypes.proofs.Soundness.{alike_same, holdings, sound_same}

pub stay_alike : (s n : Store) → StandAlike s n → TablesStay none_goes s n
stay_alike s n alike = record { stay = λ k ids there kept. same_ids s n k (alike.shapes k) ∙ there }

pub stay_grown : (s n : Store) → HasGrown s n → TablesStay none_goes s n
stay_grown s n grown = record { stay = λ k ids there kept. by k ids (shape_at s k) refl there }
  where
    by : (k : TableKey) (ids : List Id) (o : Option Shape) → shape_at s k ≡ o → ids_at s k ≡ Some ids → ids_at n k ≡ Some ids
    by k ids None is there = let no : ◌≡◌ {A = Option (List Id)} None (Some ids) = sym (ids_of_shape s k ∙ ap (option_map (λ (g : Shape). map (λ c. c.0) g)) is) ∙ there in cc
    by k ids (Some f) is there = ids_of_shape n k ∙ ap (option_map (λ (g : Shape). map (λ c. c.0) g)) (grown.shapes k f is ∙ sym is) ∙ sym (ids_of_shape s k) ∙ there

-- what has grown, and then stands alike
pub stay_moved : (r s t : Store) → HasGrown r s → StandAlike s t → TablesStay none_goes r t
stay_moved r s t grown alike = stay_then none_goes r s t (stay_grown r s grown) (stay_alike s t alike)

-- room is made, and then the same tables stand
pub last_grown : (added : Shape) (h n : Housing) → HasRoomMade added h n → TablesLast added h n
last_grown added h n kept = record {
  sizes = kept.sizes;
  goes_on = kept.grown.goes_on;
  stay = stay_grown h.tables n.tables kept.grown;
  holdings = holdings n.entities n.tables kept.whole;
  whole = kept.whole;
}

pub last_then : (added : Shape) (h m n : Housing) → TablesLast added h m → StandAlike m.tables n.tables → IsHoused n → TablesLast added h n
last_then added h m n kept alike whole = record {
  sizes = KeepsSizes-then (known_in h.tables) added (known_in m.tables) (known_in n.tables) kept.sizes (same_kept m.tables n.tables whole.stored.0 alike.shapes);
  goes_on = goes_on_then h.tables m.tables n.tables kept.goes_on (goes_on_alike m.tables n.tables alike);
  stay = stay_then none_goes h.tables m.tables n.tables kept.stay (stay_alike m.tables n.tables alike);
  holdings = holdings n.entities n.tables whole;
  whole = whole;
}

pub last_moved : (added : Shape) (h m n : Housing) → HasRoomMade added h m → StandAlike m.tables n.tables → IsHoused n → TablesLast added h n
last_moved added h m n kept alike whole = last_then added h m n (last_grown added h m kept) alike whole

pub last_more : {added : Shape} {h n : Housing} → TablesLast [] h n → TablesLast added h n
last_more kept = record { sizes = λ test old new. kept.sizes test old refl; goes_on = kept.goes_on; stay = kept.stay; holdings = kept.holdings; whole = kept.whole }

pub last_same : (added : Shape) (h : Housing) → IsHoused h → TablesLast added h h
last_same added h whole = record {
  sizes = λ test old new. old;
  goes_on = goes_on_same h.tables;
  stay = stay_same none_goes h.tables;
  holdings = holdings h.entities h.tables whole;
  whole = whole;
}

-- the tables that stand for a view of entities in them
module _ (w : Entities) (s : Store) (h : Housing) (view : ◌≡◌ {A = Housing} (record { entities = w; tables = s }) h) (sound : IsSound w s) where
  pub room_made : (added : Shape) (n : Store) → HaveGrown added s n → HasRoomMade added h (record { entities = w; tables = n })
  room_made added n kept = subst (λ z. HasRoomMade added z (record { entities = w; tables = n })) view (record {
    grown = kept.grown;
    held = alike_same w s n sound kept.grown.rows kept.whole;
    sizes = kept.sizes;
    whole = sound_same w s n sound kept.grown.rows kept.whole;
  })

  pub last_room : (added : Shape) (n : Store) → HaveGrown added s n → TablesLast added h (record { entities = w; tables = n })
  last_room added n kept = last_grown added h _ (room_made added n kept)

  -- and then rows move
  pub last_rows : (added : Shape) (n : Store) → HaveGrown added s n → (u : Entities) (t : Store) → StandAlike n t → IsSound u t → TablesLast added h (record { entities = u; tables = t })
  last_rows added n kept u t alike whole = last_moved added h _ _ (room_made added n kept) alike whole

  pub last_alike : (u : Entities) (t : Store) → StandAlike s t → IsSound u t → TablesLast [] h (record { entities = u; tables = t })
  last_alike u t alike whole = subst (λ z. TablesLast [] z (record { entities = u; tables = t })) view (last_then [] (record { entities = w; tables = s }) (record { entities = w; tables = s }) _ (last_same [] _ sound) alike whole)

pub stay_apart : (pattern : Pattern) (s n : Store) → StandApart pattern s n → TablesStay (list_any (matches pattern)) s n
stay_apart pattern s n apart = record { stay = λ k ids there kept. ap (option_map (λ t. t.ids)) (apart.others k (unmatched k ids there kept)) ∙ there }
  where
    unmatched : (k : TableKey) (ids : List Id) → ids_at s k ≡ Some ids → list_any (matches pattern) ids ≡ false → HasMatch s pattern k → ⊥
    unmatched k ids there kept has = true≢false (sym has.2 ∙ ap (list_any (matches pattern)) (same (sym has.1 ∙ there)) ∙ kept)
      where
        same : Some has.0 ≡ Some ids → has.0 ≡ ids
        same e = cc
