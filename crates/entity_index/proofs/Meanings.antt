-- What an index means after a change of one slot.
use Rattle.std.proofs.Common.{◌≡◌, ℕ, ◌+◌, true, false, cond, ltb, List, Some, None, Option, refl, sym, ap, ◌∙◌, arith}
use Rattle.std.proofs.lemmas.Bool.Decides.{nat_tests}
use Rattle.ecs_id.specs.declared.Place.{Place}
use Rattle.entity_index.specs.declared.slot.EntitySlot.{EntitySlot}
use Rattle.entity_index.specs.Entities.{with_entity, without_entity, with_place}
use Rattle.entity_index.specs.Slots.{unused, slot_at, place_at, generation_of, deletions_of, entries_from, meaning}
use Rattle.entity_index.proofs.EntryLists.{Changes, entries-put, entries-without, entries-same}
use Rattle.entity_index.proofs.Readings.{count_found}

raised : (d : ℕ) → cond (ltb 0 (d + 1)) (Some (d + 1)) None ≡ Some (d + 1)
raised d = grind (arith, nat_tests)

module _ (old new : List EntitySlot) (places : List (Option Place)) (last i : ℕ) (was : EntitySlot) (at : slot_at old i ≡ was) where
  -- an entity is born, where the places stay what they are
  pub meaning-born : (new_places : List (Option Place)) → Changes unused old new i (record was { live = true }) → Changes None places new_places i (place_at places i)
      → meaning new new_places last ≡ with_entity (meaning old places last) (record { index = i; generation = was.deletions })
  meaning-born new_places change stays = let s : EntitySlot = record was { live = true } in λ k. record {
    live = entries-put generation_of unused refl old new i s change was.deletions refl k;
    deletions = entries-same deletions_of unused refl old new i s change (ap deletions_of (sym at)) k;
    places = entries-same (λ p. p) None refl places new_places i (place_at places i) stays refl k;
    last = last;
  }

  pub meaning-deleted : (new_places : List (Option Place)) → Changes unused old new i (record { deletions = was.deletions + 1; live = false }) → Changes None places new_places i None
      → meaning new new_places last ≡ without_entity (meaning old places last) i
  meaning-deleted new_places change emptied = let s : EntitySlot = record { deletions = was.deletions + 1; live = false } in
      let count : deletions_of s ≡ Some (_ + 1) = raised was.deletions ∙ ap (λ d. Some (d + 1)) (sym (count_found old places last i ∙ ap (λ t. t.deletions) at)) in λ k. record {
        live = entries-without generation_of unused refl old new i s change refl k;
        deletions = entries-put deletions_of unused refl old new i s change _ count k;
        places = entries-without (λ p. p) None refl places new_places i None emptied refl k;
        last = last;
      }

pub meaning-placed : (slots : List EntitySlot) (places new_places : List (Option Place)) (last i : ℕ) (place : Place) → Changes None places new_places i (Some place)
    → meaning slots new_places last ≡ with_place (meaning slots places last) i place
meaning-placed slots places new_places last i place change = λ k. record {
  live = entries_from generation_of 0 slots;
  deletions = entries_from deletions_of 0 slots;
  places = entries-put (λ p. p) None refl places new_places i (Some place) change place refl k;
  last = last;
}
