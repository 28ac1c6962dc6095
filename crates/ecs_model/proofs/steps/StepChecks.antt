-- Checks of single definitions of commands with traits, which the prover computes.
use Rattle.std.specs.Prelude.{◌≡◌, ℕ, ◌-◌, ◌^◌, true, false, List, [], ◌∷◌, map, ℤ, Option, Some, None, Result, Ok, Err, refl}
use Rattle.std.specs.List.{range_with_len}
use Rattle.ecs_id.specs.declared.EntityId.{EntityId}
use Rattle.ecs_id.specs.Id.{plain, pair, id_cmp}
use Rattle.ecs_model.specs.declared.faults.Refusal.{Refusal}
use Rattle.ecs_model.specs.declared.faults.Refusal.TheVariants.{Dead, BuiltIn, NoData, TraitFixed, InUse, Cycle, TooManyIds, Panic, Full}
use Rattle.ecs_model.specs.steps.Outcomes.{differences}
use Rattle.ecs_model.specs.AncestorLine.{ancestor_line_within}
use Rattle.ecs_model.specs.Links.{ancestor_line}
use Rattle.ecs_model.specs.Map.{Map, keys}
use Rattle.ecs_model.specs.Refusal.{first_reason}
use Rattle.ecs_model.specs.Sets.{has_chain, within}
use Rattle.ecs_model.specs.World.{WorldState, Key, key_cmp, next_among, entities, ids_of}
use Rattle.ecs_model.specs.steps.Rules.{is_trait}
use Rattle.ecs_model.specs.steps.FactChanges.{added, replaced, facts_with_added, new_base, copied, facts_after_add, facts_after_remove, deleted, facts_after_delete}
use Rattle.ecs_model.specs.steps.Step.{Command, Fresh, Add, SetValue, Remove, Delete, without_entities, reasons, effect, step}
use Rattle.ecs_model.specs.steps.Pins.{most_pins, pin, unpin}

abbrev tags : List Key → Map Key (List ℤ)
tags ks = map (λ k. (k, [])) ks

abbrev named_live : List ℕ → Map ℕ ℕ
named_live is = map (λ i. (i, 0)) is

abbrev handle : ℕ → EntityId
handle i = record { index = i; generation = 0 }

abbrev of : List ℕ → List Key → WorldState
of live facts = record { live = named_live live; facts = tags facts; names = []; schemas = []; deletions = []; pins = []; accepted = 7 }

abbrev refusal_of : WorldState → Command → Option Refusal
refusal_of w c = first_reason (reasons w c)

-- A court. With comes from 64 on 65, and from 65 on 66; 65 is Symmetric. Marriage (67) is Symmetric and Exclusive; Ann (70) is married to Cy (72), and Bob (71) to Dan (73).
abbrev court : WorldState
court = of (6 ∷ 7 ∷ 13 ∷ 64 ∷ 65 ∷ 66 ∷ 67 ∷ 70 ∷ 71 ∷ 72 ∷ 73 ∷ [])
    ((64, pair 13 65) ∷ (65, plain 7) ∷ (65, pair 13 66) ∷ (67, plain 6) ∷ (67, plain 7)
    ∷ (70, pair 67 72) ∷ (71, pair 67 73) ∷ (72, pair 67 70) ∷ (73, pair 67 71) ∷ [])

an_added_set_is_closed_under_with_and_symmetric : keys (added court 70 (pair 64 71))
    ≡ (70, pair 64 71) ∷ (70, pair 65 71) ∷ (70, pair 66 71) ∷ (71, pair 65 70) ∷ (71, pair 66 70) ∷ []
unfolding id_cmp key_cmp within added
an_added_set_is_closed_under_with_and_symmetric = refl

a_plain_id_brings_plain_ids : keys (added court 70 (plain 64)) ≡ (70, plain 64) ∷ (70, plain 65) ∷ (70, plain 66) ∷ []
unfolding id_cmp key_cmp within added
a_plain_id_brings_plain_ids = refl

a_pair_with_itself_is_its_own_mirror : keys (added court 70 (pair 65 70)) ≡ (70, pair 65 70) ∷ (70, pair 66 70) ∷ []
unfolding id_cmp key_cmp within added
a_pair_with_itself_is_its_own_mirror = refl

both_sides_of_a_symmetric_pair_are_replaced_with_their_mirrors : replaced court 70 (pair 67 71)
    ≡ (70, pair 67 72) ∷ (72, pair 67 70) ∷ (71, pair 67 73) ∷ (73, pair 67 71) ∷ []
unfolding id_cmp key_cmp within added replaced
both_sides_of_a_symmetric_pair_are_replaced_with_their_mirrors = refl

the_new_pair_stands_in_their_place : facts_after_add court 70 (pair 67 71)
    ≡ tags ((64, pair 13 65) ∷ (65, plain 7) ∷ (65, pair 13 66) ∷ (67, plain 6) ∷ (67, plain 7) ∷ (70, pair 67 71) ∷ (71, pair 67 70) ∷ [])
unfolding id_cmp key_cmp within added replaced facts_with_added new_base copied facts_after_add
the_new_pair_stands_in_their_place = refl

a_pair_that_is_held_replaces_nothing : facts_after_add court 70 (pair 67 72) ≡ court.facts
unfolding id_cmp key_cmp within added replaced facts_with_added new_base copied facts_after_add
a_pair_that_is_held_replaces_nothing = refl

a_removed_pair_goes_with_its_mirror : facts_after_remove court 72 (pair 67 70)
    ≡ tags ((64, pair 13 65) ∷ (65, plain 7) ∷ (65, pair 13 66) ∷ (67, plain 6) ∷ (67, plain 7) ∷ (71, pair 67 73) ∷ (73, pair 67 71) ∷ [])
unfolding id_cmp key_cmp facts_after_remove
a_removed_pair_goes_with_its_mirror = refl

-- A house. The pairs of 64 go with their targets, 65 is deleted with its users, 66 forbids that its targets go and 67 that its users lose it.
-- 71 is in 70 by 64, and holds 65 as 72 does; 65 itself is in 71. 73 holds 67, and the pair of 66 and 74; 74 is in 73 by 64.
abbrev house : WorldState
house = of (14 ∷ 15 ∷ 17 ∷ 18 ∷ 64 ∷ 65 ∷ 66 ∷ 67 ∷ 70 ∷ 71 ∷ 72 ∷ 73 ∷ 74 ∷ [])
    ((64, pair 15 17) ∷ (65, pair 14 17) ∷ (65, pair 64 71) ∷ (66, pair 15 18) ∷ (67, pair 14 18)
    ∷ (71, plain 65) ∷ (71, pair 64 70) ∷ (72, plain 65) ∷ (73, plain 67) ∷ (73, pair 66 74) ∷ (74, pair 64 73) ∷ [])

a_deleted_set_is_closed_under_both_rules : keys (deleted house 70) ≡ 65 ∷ 70 ∷ 71 ∷ 72 ∷ []
unfolding id_cmp within deleted
a_deleted_set_is_closed_under_both_rules = refl

what_mentions_the_deleted_goes : facts_after_delete house (deleted house 70)
    ≡ tags ((64, pair 15 17) ∷ (66, pair 15 18) ∷ (67, pair 14 18) ∷ (73, plain 67) ∷ (73, pair 66 74) ∷ (74, pair 64 73) ∷ [])
unfolding id_cmp within deleted facts_after_delete
what_mentions_the_deleted_goes = refl

what_is_deleted_is_no_more : (effect house (Delete (handle 70))).live ≡ named_live (14 ∷ 15 ∷ 17 ∷ 18 ∷ 64 ∷ 66 ∷ 67 ∷ 73 ∷ 74 ∷ [])
unfolding id_cmp within deleted facts_after_delete without_entities effect
what_is_deleted_is_no_more = refl

deletions_are_counted : (effect house (Delete (handle 70))).deletions ≡ (65, 1) ∷ (70, 1) ∷ (71, 1) ∷ (72, 1) ∷ []
unfolding id_cmp within deleted facts_after_delete without_entities effect
deletions_are_counted = refl

a_target_is_not_deleted_under_panic : refusal_of (record house { facts = tags ((66, pair 15 18) ∷ (73, pair 66 74) ∷ []) }) (Delete (handle 74)) ≡ Some Panic
unfolding id_cmp within deleted reasons
a_target_is_not_deleted_under_panic = refl

what_is_used_is_not_deleted_under_panic : refusal_of house (Delete (handle 67)) ≡ Some Panic
unfolding id_cmp within deleted reasons
what_is_used_is_not_deleted_under_panic = refl

-- 74 falls with 73, and the pair of 73 that would forbid it goes too
who_falls_too_forbids_nothing : refusal_of house (Delete (handle 73)) ≡ None
unfolding id_cmp within deleted reasons
who_falls_too_forbids_nothing = refl

a_stored_query_is_told_before_panic : refusal_of (record house { pins = (67, 1) ∷ [] }) (Delete (handle 67)) ≡ Some InUse
unfolding id_cmp within deleted reasons
a_stored_query_is_told_before_panic = refl

each_member_of_the_deleted_set_may_be_in_use : refusal_of (record house { pins = (72, 1) ∷ [] }) (Delete (handle 70)) ≡ Some InUse
unfolding id_cmp within deleted reasons
each_member_of_the_deleted_set_may_be_in_use = refl

a_built_in_entity_is_not_deleted : refusal_of (record house { pins = (17, 1) ∷ [] }) (Delete (handle 17)) ≡ Some BuiltIn
unfolding id_cmp within deleted reasons
a_built_in_entity_is_not_deleted = refl

no_dead_entity_is_deleted : refusal_of house (Delete (record { index = 70; generation = 1 })) ≡ Some Dead
unfolding id_cmp within deleted reasons
no_dead_entity_is_deleted = refl

panic_is_told_before_full : refusal_of (record house { accepted = 2 ^ 64 - 1 }) (Delete (handle 67)) ≡ Some Panic
unfolding id_cmp within deleted reasons
panic_is_told_before_full = refl

-- A tree. 64 is Exclusive and Acyclic, 65 has no trait and leads from 72 to itself. 71 is in 70, and 72 in 71. 73 has as many ids as an entity can have.
abbrev tree : WorldState
tree = of (3 ∷ 6 ∷ 7 ∷ 10 ∷ 11 ∷ 12 ∷ 13 ∷ 19 ∷ 20 ∷ 64 ∷ 65 ∷ 66 ∷ 70 ∷ 71 ∷ 72 ∷ 73 ∷ [])
    ((11, pair 13 10) ∷ (64, plain 6) ∷ (64, plain 10) ∷ (71, pair 64 70) ∷ (72, pair 64 71) ∷ (72, pair 65 72) ∷ map (λ i. (73, plain i)) (range_with_len 100 64))

a_chain_is_not_closed : refusal_of tree (Add (handle 70) (pair 64 72)) ≡ Some Cycle
unfolding id_cmp key_cmp within has_chain added replaced facts_with_added new_base copied facts_after_add reasons
a_chain_is_not_closed = refl

a_step_to_itself_is_a_cycle : refusal_of tree (Add (handle 66) (pair 64 66)) ≡ Some Cycle
unfolding id_cmp key_cmp within has_chain added replaced facts_with_added new_base copied facts_after_add reasons
a_step_to_itself_is_a_cycle = refl

-- from 71 to 70, in place of which 71 leads to 66: from 70 to 72 no cycle is left
what_was_replaced_closes_no_chain : refusal_of (record tree { facts = facts_after_add tree 71 (pair 64 66) }) (Add (handle 70) (pair 64 72)) ≡ None
unfolding id_cmp key_cmp within has_chain added replaced facts_with_added new_base copied facts_after_add reasons
what_was_replaced_closes_no_chain = refl

cycle_is_told_before_too_many_ids : refusal_of tree (Add (handle 73) (pair 64 73)) ≡ Some Cycle
unfolding id_cmp key_cmp within has_chain added replaced facts_with_added new_base copied facts_after_add reasons
cycle_is_told_before_too_many_ids = refl

one_id_more_is_too_many : refusal_of tree (Add (handle 73) (plain 65)) ≡ Some TooManyIds
unfolding id_cmp key_cmp within has_chain added replaced facts_with_added new_base copied facts_after_add reasons
one_id_more_is_too_many = refl

trait_fixed_is_told_before_cycle : refusal_of tree (Add (handle 65) (plain 10)) ≡ Some TraitFixed
unfolding id_cmp key_cmp within has_chain added replaced facts_with_added new_base copied facts_after_add reasons
trait_fixed_is_told_before_cycle = refl

no_data_is_told_before_trait_fixed : refusal_of tree (SetValue (handle 65) (plain 10) []) ≡ Some NoData
unfolding id_cmp key_cmp within has_chain added replaced facts_with_added new_base copied facts_after_add reasons
no_data_is_told_before_trait_fixed = refl

a_trait_of_what_a_query_mentions_is_fixed : refusal_of (record tree { pins = (66, 2) ∷ [] }) (Add (handle 66) (pair 19 20)) ≡ Some TraitFixed
unfolding id_cmp key_cmp within has_chain added replaced facts_with_added new_base copied facts_after_add reasons
a_trait_of_what_a_query_mentions_is_fixed = refl

a_trait_that_is_held_does_not_come : refusal_of tree (Add (handle 64) (plain 6)) ≡ None
unfolding id_cmp key_cmp within has_chain added replaced facts_with_added new_base copied facts_after_add reasons
a_trait_that_is_held_does_not_come = refl

what_is_only_a_target_is_not_used : refusal_of tree (Add (handle 70) (plain 6)) ≡ None
unfolding id_cmp key_cmp within has_chain added replaced facts_with_added new_base copied facts_after_add reasons
what_is_only_a_target_is_not_used = refl

what_is_traversable_becomes_acyclic : keys (added tree 66 (plain 11)) ≡ (66, plain 10) ∷ (66, plain 11) ∷ []
unfolding id_cmp key_cmp within added
what_is_traversable_becomes_acyclic = refl

the_tag_of_components_is_not_added : refusal_of tree (Add (handle 66) (plain 3)) ≡ Some BuiltIn
unfolding id_cmp key_cmp within has_chain added replaced facts_with_added new_base copied facts_after_add reasons
the_tag_of_components_is_not_added = refl

it_is_not_brought_by_with : refusal_of (record tree { facts = tags ((66, pair 13 3) ∷ []) }) (Add (handle 70) (plain 66)) ≡ Some BuiltIn
unfolding id_cmp key_cmp within has_chain added replaced facts_with_added new_base copied facts_after_add reasons
it_is_not_brought_by_with = refl

its_pairs_are_added : refusal_of tree (Add (handle 66) (pair 3 70)) ≡ None
unfolding id_cmp key_cmp within has_chain added replaced facts_with_added new_base copied facts_after_add reasons
its_pairs_are_added = refl

no_mirror_comes_to_a_built_in_entity : refusal_of (record tree { facts = tags ((66, plain 7) ∷ []) }) (Add (handle 70) (pair 66 20)) ≡ Some BuiltIn
unfolding id_cmp key_cmp within has_chain added replaced facts_with_added new_base copied facts_after_add reasons
no_mirror_comes_to_a_built_in_entity = refl

a_trait_is_not_removed_held_or_not : map (λ i. refusal_of tree (Remove (handle 64) i)) (plain 6 ∷ plain 12 ∷ pair 13 70 ∷ pair 19 20 ∷ plain 70 ∷ pair 20 70 ∷ plain 3 ∷ pair 3 70 ∷ [])
    ≡ Some TraitFixed ∷ Some TraitFixed ∷ Some TraitFixed ∷ Some TraitFixed ∷ None ∷ None ∷ Some BuiltIn ∷ None ∷ []
unfolding id_cmp key_cmp reasons
a_trait_is_not_removed_held_or_not = refl

plain_traits_are_exclusive_to_pair_is_tag : map (λ c. is_trait (plain c)) (5 ∷ 6 ∷ 12 ∷ 13 ∷ []) ≡ false ∷ true ∷ true ∷ false ∷ []
plain_traits_are_exclusive_to_pair_is_tag = refl

pairs_are_traits_by_their_relationship : map (λ r. is_trait (pair r 64)) (12 ∷ 13 ∷ 14 ∷ 15 ∷ 16 ∷ 18 ∷ 19 ∷ 20 ∷ []) ≡ false ∷ true ∷ true ∷ true ∷ false ∷ false ∷ true ∷ false ∷ []
pairs_are_traits_by_their_relationship = refl

a_spent_count_refuses_all : let spent = record tree { accepted = 2 ^ 64 - 1 } in
    map (refusal_of spent) (Fresh ∷ Add (handle 70) (plain 66) ∷ Remove (handle 70) (plain 66) ∷ Delete (handle 70) ∷ []) ≡ Some Full ∷ Some Full ∷ Some Full ∷ Some Full ∷ []
unfolding id_cmp key_cmp next_among within has_chain added replaced facts_with_added new_base copied facts_after_add deleted reasons
a_spent_count_refuses_all = refl

too_many_ids_is_told_before_full : refusal_of (record tree { accepted = 2 ^ 64 - 1 }) (Add (handle 73) (plain 65)) ≡ Some TooManyIds
unfolding id_cmp key_cmp within has_chain added replaced facts_with_added new_base copied facts_after_add reasons
too_many_ids_is_told_before_full = refl

-- the line in a world: a diamond under 64
a_line_of_a_world_gives_a_diamond_its_top_twice : let w = of (64 ∷ 70 ∷ 71 ∷ 72 ∷ 73 ∷ []) ((71, pair 64 70) ∷ (72, pair 64 70) ∷ (73, pair 64 71) ∷ (73, pair 64 72) ∷ []) in
    ancestor_line (ids_of w) (entities w) 64 73 ≡ 71 ∷ 70 ∷ 72 ∷ 70 ∷ []
unfolding ancestor_line_within
a_line_of_a_world_gives_a_diamond_its_top_twice = refl

-- what a step says has changed

a_replaced_pair_goes_and_the_new_one_comes : step court (Add (handle 70) (pair 67 71))
    ≡ Ok (
      record (of (6 ∷ 7 ∷ 13 ∷ 64 ∷ 65 ∷ 66 ∷ 67 ∷ 70 ∷ 71 ∷ 72 ∷ 73 ∷ [])
          ((64, pair 13 65) ∷ (65, plain 7) ∷ (65, pair 13 66) ∷ (67, plain 6) ∷ (67, plain 7) ∷ (70, pair 67 71) ∷ (71, pair 67 70) ∷ [])) { accepted = 8 },
      record {
        born = None;
        died = [];
        came = (70, pair 67 71) ∷ (71, pair 67 70) ∷ [];
        went = (70, pair 67 72) ∷ (71, pair 67 73) ∷ (72, pair 67 70) ∷ (73, pair 67 71) ∷ [];
        written = [];
      },
    )
unfolding id_cmp key_cmp within has_chain added replaced facts_with_added new_base copied facts_after_add reasons effect differences step
a_replaced_pair_goes_and_the_new_one_comes = refl

-- stored queries that mention an entity

abbrev pins_after : Result WorldState Refusal → Option (Map ℕ ℕ)
pins_after r = elim r [ Ok w ↦ Some w.pins | Err e ↦ None ]

abbrev mentioned_world : WorldState
mentioned_world = record house { pins = (64, 1) ∷ (65, most_pins - 1) ∷ (66, most_pins) ∷ [] }

a_pin_is_counted : map (λ i. pins_after (pin mentioned_world (handle i))) (64 ∷ 65 ∷ 66 ∷ 67 ∷ [])
    ≡ Some ((64, 2) ∷ (65, most_pins - 1) ∷ (66, most_pins) ∷ [])
    ∷ Some ((64, 1) ∷ (65, most_pins) ∷ (66, most_pins) ∷ [])
    ∷ Some ((64, 1) ∷ (65, most_pins - 1) ∷ (66, most_pins) ∷ [])
    ∷ Some ((64, 1) ∷ (65, most_pins - 1) ∷ (66, most_pins) ∷ (67, 1) ∷ [])
    ∷ []
unfolding pin
a_pin_is_counted = refl

no_dead_entity_is_pinned : pin mentioned_world (record { index = 64; generation = 1 }) ≡ Err Dead
unfolding pin
no_dead_entity_is_pinned = refl

an_unpin_is_counted : map (λ e. (unpin mentioned_world e).pins) (handle 64 ∷ handle 65 ∷ handle 66 ∷ handle 67 ∷ record { index = 64; generation = 1 } ∷ [])
    ≡ ((65, most_pins - 1) ∷ (66, most_pins) ∷ [])
    ∷ ((64, 1) ∷ (65, most_pins - 2) ∷ (66, most_pins) ∷ [])
    ∷ ((64, 1) ∷ (65, most_pins - 1) ∷ (66, most_pins) ∷ [])
    ∷ ((64, 1) ∷ (65, most_pins - 1) ∷ (66, most_pins) ∷ [])
    ∷ ((64, 1) ∷ (65, most_pins - 1) ∷ (66, most_pins) ∷ [])
    ∷ []
unfolding unpin
an_unpin_is_counted = refl
