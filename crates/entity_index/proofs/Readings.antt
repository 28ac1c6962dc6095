-- What is read of an index, slot by slot.
use Rattle.std.proofs.Common.{◌≡◌, ℕ, ◌<◌, ◌≤◌, Bool, true, false, not, ◌&&◌, cond, eqb, ltb, List, length, get_or, Option, Some, None, is_some, option_map, refl, sym, ap, ◌∙◌, arith, unwrap_or, true≢false, inl, inr}
use Rattle.std.proofs.lemmas.Bool.{cases_lt}
use Rattle.std.proofs.lemmas.Bool.Decides.{nat_tests}
use Rattle.std.proofs.lemmas.List.{get_or_default, get_or_past}
use Rattle.std.specs.Option.{option_eq}
use Rattle.std.specs.Ordering.{nat_cmp}
use Rattle.std.specs.FinMap.{find}
use Rattle.ecs_id.specs.declared.EntityId.{EntityId}
use Rattle.ecs_id.specs.declared.Place.{Place}
use Rattle.entity_index.specs.declared.slot.EntitySlot.{EntitySlot}
use Rattle.ecs_model.specs.Map.{count_at}
use Rattle.ecs_model.specs.World.{is_free}
use Rattle.entity_index.specs.Entities.{is_live, is_alive, entity_at, place_of}
use Rattle.entity_index.specs.Slots.{unused, slot_at, generation_of, deletions_of, is_free_slot, generations, place_at, meaning}
use Rattle.entity_index.proofs.EntryLists.{find-entries}

-- the slot that a look-up gives, or does not
pub slot_read : (xs slots : List EntitySlot) (i : ℕ) (s : EntitySlot) → xs ≡ slots → true ≡ ltb i (length xs) → s ≡ get_or xs i s → slot_at slots i ≡ s
slot_read xs slots i s e h is = let lt : i < length xs = grind (arith, nat_tests) in ap (λ ys. slot_at ys i) (sym e) ∙ get_or_default xs i unused s lt ∙ sym is

pub slot_missed : {A : Type 0} (xs slots : List EntitySlot) (i : ℕ) (o : Option A) → xs ≡ slots → o ≡ None → is_some o ≡ ltb i (length xs) → slot_at slots i ≡ unused
slot_missed xs slots i o e none h =
    let past : ltb i (length xs) ≡ false = sym h ∙ ap is_some none in
    let le : length xs ≤ i = grind (arith, nat_tests) in
    ap (λ ys. slot_at ys i) (sym e) ∙ get_or_past xs i unused le

alive_at : (live : Bool) (d g : ℕ) → option_eq eqb (cond live (Some d) None) (Some g) ≡ (live && eqb d g)
alive_at true d g = refl
alive_at false d g = refl

count_is : (b : Bool) (d : ℕ) → (b ≡ false → d ≡ 0) → unwrap_or (cond b (Some d) None) 0 ≡ d
count_is true d h = refl
count_is false d h = sym (h refl)

some_is : (b : Bool) (d : ℕ) → is_some (cond b (Some d) None) ≡ b
some_is true d = refl
some_is false d = refl

counted : (d : ℕ) → ltb 0 d ≡ false → d ≡ 0
counted d e = grind (arith, nat_tests)

module _ (slots : List EntitySlot) (places : List (Option Place)) (last : ℕ) where
  pub generation_found : (i : ℕ) → find nat_cmp i (meaning slots places last).live ≡ generation_of (slot_at slots i)
  generation_found i = find-entries generation_of unused refl slots i

  pub place_found : (i : ℕ) → find nat_cmp i (meaning slots places last).places ≡ place_at places i
  place_found i = find-entries (λ p. p) None refl places i

  pub count_found : (i : ℕ) → count_at (meaning slots places last).deletions i ≡ (slot_at slots i).deletions
  count_found i = ap (λ o. unwrap_or o 0) (find-entries deletions_of unused refl slots i) ∙ count_is _ _ (counted (slot_at slots i).deletions)

  pub live_found : (i : ℕ) → is_live (meaning slots places last) i ≡ (slot_at slots i).live
  live_found i = let s = slot_at slots i in ap is_some (generation_found i) ∙ some_is s.live s.deletions

  pub alive_found : (e : EntityId) → is_alive (meaning slots places last) e ≡ ((slot_at slots e.index).live && eqb (slot_at slots e.index).deletions e.generation)
  alive_found e = let s = slot_at slots e.index in ap (λ o. option_eq eqb o (Some e.generation)) (generation_found e.index) ∙ alive_at s.live s.deletions e.generation

  pub free_found : (i : ℕ) → is_free (meaning slots places last).live (meaning slots places last).deletions i ≡ is_free_slot (slot_at slots i)
  free_found i = λ k. not (live_found i k) && ltb (count_found i k) generations

  abbrev entity_of : ℕ → Option ℕ → Option EntityId
  entity_of i o = option_map (λ g. record { index = i; generation = g }) o

  pub entity_live : (i : ℕ) (s : EntitySlot) → slot_at slots i ≡ s → s.live ≡ true → Some (record { index = i; generation = s.deletions }) ≡ entity_at (meaning slots places last) i
  entity_live i s e live = sym (ap (entity_of i) (generation_found i ∙ ap generation_of e ∙ ap (λ b. cond b (Some s.deletions) None) live))

  pub entity_dead : (i : ℕ) (s : EntitySlot) → slot_at slots i ≡ s → s.live ≡ false → None ≡ entity_at (meaning slots places last) i
  entity_dead i s e dead = sym (ap (entity_of i) (generation_found i ∙ ap generation_of e ∙ ap (λ b. cond b (Some s.deletions) None) dead))

  pub alive_at_slot : (e : EntityId) (s : EntitySlot) → slot_at slots e.index ≡ s → is_alive (meaning slots places last) e ≡ (s.live && eqb s.deletions e.generation)
  alive_at_slot e s is = alive_found e ∙ ap (λ t. t.live && eqb t.deletions e.generation) is

  pub place_at_slot : (e : EntityId) → is_alive (meaning slots places last) e ≡ true → place_of (meaning slots places last) e ≡ place_at places e.index
  place_at_slot e alive = ap (λ b. cond b (find nat_cmp e.index (meaning slots places last).places) None) alive ∙ place_found e.index

  -- a live entity has a slot
  pub alive_within : (e : EntityId) → is_alive (meaning slots places last) e ≡ true → e.index < length slots
  alive_within e alive =
      elim (cases_lt e.index (length slots)) [
        | inl h ↦ h
        | inr h ↦ absurd (true≢false (sym alive ∙ alive_at_slot e unused (get_or_past slots e.index unused h)))
      ]

  -- a live entity's slot is live
  pub alive_is_live : (e : EntityId) (s : EntitySlot) → slot_at slots e.index ≡ s → is_alive (meaning slots places last) e ≡ true → s.live ≡ true
  alive_is_live e s at alive = front s.live (eqb s.deletions e.generation) (sym (alive_at_slot e s at) ∙ alive)
    where
      front : (a b : Bool) → (a && b) ≡ true → a ≡ true
      front true b h = refl
      front false b h = h
