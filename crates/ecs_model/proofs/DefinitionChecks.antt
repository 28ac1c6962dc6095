-- Checks of single definitions, which the prover computes.
use Rattle.std.specs.Prelude.{◌≡◌, ℕ, ◌-◌, ◌^◌, ◌==◌, true, false, List, [], ◌∷◌, map, pos, negsuc, codes, Option, Some, None, Ok, Err, is_ok, refl}
use Rattle.std.specs.Fmt.{digits}
use Rattle.std.specs.Option.{option_map_or}
use Rattle.std.specs.Str.{chars, is_utf8}
use Rattle.std.specs.declared.cmp.Ordering.TheVariants.{Less}
use Rattle.std.proofs.Common.{ap, true≢false}
use lib.Utf8.{encode}
use Rattle.ecs_id.specs.declared.EntityId.{EntityId}
use Rattle.ecs_id.specs.Id.{Id, plain, pair, id_cmp}
use Rattle.ecs_model.specs.declared.Kind.TheVariants.{I8, I32, U64}
use Rattle.query_model.specs.declared.faults.Fault.{Fault}
use Rattle.query_model.specs.declared.faults.FaultKind.{FaultKind}
use Rattle.query_model.specs.declared.faults.FaultKind.TheVariants.{Lex, Syntax, UnknownName}
use Rattle.ecs_model.specs.declared.faults.Refusal.{Refusal}
use Rattle.ecs_model.specs.declared.faults.Refusal.TheVariants.{Dead, UnknownName, BadName, NameTaken, BuiltIn, NoData, Count, Range, Full}
use Rattle.ecs_model.specs.declared.faults.CommandError.TheVariants.{Refused}
use Rattle.ecs_model.specs.Map.{keys, value_at}
use Rattle.ecs_model.specs.Schema.{Schema, fits_kind}
use Rattle.ecs_model.specs.Refusal.{first_reason}
use Rattle.ecs_model.specs.World.{WorldState, key_cmp, first_world, next_among, type_of_id}
use Rattle.ecs_model.specs.Sets.{has_chain, within}
use Rattle.ecs_model.specs.steps.Outcomes.{Changed, next_entity, with_born, with_component, differences, AnswersStep}
use Rattle.ecs_model.specs.steps.FactChanges.{added, replaced, facts_with_added, new_base, copied, facts_after_add, facts_after_remove}
use Rattle.ecs_model.specs.steps.Step.{Command, Fresh, Entity, Component, Add, SetValue, Remove, reasons, effect, step}
use Rattle.query_model.specs.Tokens.{tokens_from, tokens_of}
use Rattle.query_model.specs.Check.{faults}
use Rattle.query_model.specs.declared.query.Ref.TheVariants as ref
use Rattle.query_model.specs.Query.{Query, Piece, item, must, query_of as asked_of}
use Rattle.ecs_model.specs.Query.{query_of}
use Rattle.ecs_model.specs.rows.View.{view_of}
use Rattle.ecs_model.specs.rows.Level.{top}
use Rattle.ecs_model.specs.rows.Rows.{Shown, hits, fields_of_term, fields_of_item, solutions, rows}
use Rattle.ecs_model.specs.Orders.{EntityRef, by_name, by_handle, pair_of, DeleteOne, with_both, entity_found}
use Rattle.ecs_model.specs.declared.watches.StoredKind.TheVariants.{Kept, Monitor, OnAdd, OnRemove}
use Rattle.ecs_model.specs.stored.Session.{InWorld, Store, Drop}
use Rattle.ecs_model.specs.Script.{BadLine, CarryOut, AskKept, handle_of, id_and_rest, forms, form_among, form_of}
use Rattle.ecs_model.specs.Output.{show_text}

-- A world of a component and a tag, Position and Planet at 64 and 65, and of Sun and Earth, both planets. Earth has a position.

abbrev position : Id
position = plain 64

abbrev planet : Id
planet = plain 65

abbrev fields : Schema
fields = record { name = codes "x"; kind = I32 } ∷ record { name = codes "y"; kind = I8 } ∷ []

abbrev sky : WorldState
sky = record {
  live = (64, 0) ∷ (65, 0) ∷ (66, 0) ∷ (67, 2) ∷ [];
  facts = ((64, plain 3), []) ∷ ((66, planet), []) ∷ ((67, position), pos 10 ∷ negsuc 2 ∷ []) ∷ ((67, planet), []) ∷ [];
  names = (64, codes "Position") ∷ (65, codes "Planet") ∷ (66, codes "Sun") ∷ (67, codes "Earth") ∷ [];
  schemas = (64, fields) ∷ [];
  deletions = (67, 2) ∷ [];
  pins = [];
  accepted = 6;
}

abbrev sun : EntityId
sun = record { index = 66; generation = 0 }

abbrev earth : EntityId
earth = record { index = 67; generation = 2 }

abbrev refusal_of : Command → Option Refusal
refusal_of c = first_reason (reasons sky c)

-- facts that come

an_add_without_traits_adds_one_fact : keys (added sky 66 position) ≡ (66, position) ∷ []
unfolding id_cmp key_cmp within added
an_add_without_traits_adds_one_fact = refl

a_new_fact_of_a_component_has_zeros : value_at key_cmp (facts_after_add sky 66 position) (66, position) ≡ Some (pos 0 ∷ pos 0 ∷ [])
unfolding id_cmp key_cmp within added replaced facts_with_added new_base copied facts_after_add
a_new_fact_of_a_component_has_zeros = refl

a_new_fact_of_a_tag_has_no_value : value_at key_cmp (facts_after_add sky 64 planet) (64, planet) ≡ Some []
unfolding id_cmp key_cmp within added replaced facts_with_added new_base copied facts_after_add
a_new_fact_of_a_tag_has_no_value = refl

a_fact_that_is_held_keeps_its_value : facts_after_add sky 67 position ≡ sky.facts
unfolding id_cmp key_cmp within added replaced facts_with_added new_base copied facts_after_add
a_fact_that_is_held_keeps_its_value = refl

-- facts that go

-- Sun holds Planet, the pair of Position and Planet, and that of Planet and Position; Earth holds Planet.
abbrev paired_sky : WorldState
paired_sky = record sky { facts = ((66, planet), []) ∷ ((66, pair 64 65), []) ∷ ((66, pair 65 64), []) ∷ ((67, planet), []) ∷ [] }

the_removed_fact_alone_goes : facts_after_remove paired_sky 66 (pair 64 65) ≡ ((66, planet), []) ∷ ((66, pair 65 64), []) ∷ ((67, planet), []) ∷ []
unfolding id_cmp key_cmp facts_after_remove
the_removed_fact_alone_goes = refl

a_pair_turned_around_is_another : facts_after_remove paired_sky 67 (pair 65 64) ≡ paired_sky.facts
unfolding id_cmp key_cmp facts_after_remove
a_pair_turned_around_is_another = refl

-- types of ids: the world in which Planet is a component of one field, and in which Sun gives its pairs no data

abbrev mass : Schema
mass = record { name = codes "mass"; kind = U64 } ∷ []

abbrev typed_sky : WorldState
typed_sky = record sky { schemas = (64, fields) ∷ (65, mass) ∷ []; facts = ((66, plain 12), []) ∷ [] }

a_pair_has_the_type_of_its_relationship_first : type_of_id typed_sky (pair 65 64) ≡ Some mass
unfolding id_cmp key_cmp
a_pair_has_the_type_of_its_relationship_first = refl

a_pair_has_the_type_of_its_target_else : type_of_id typed_sky (pair 67 64) ≡ Some fields
unfolding id_cmp key_cmp
a_pair_has_the_type_of_its_target_else = refl

pairs_of_a_tag_have_no_type : type_of_id typed_sky (pair 66 64) ≡ None
unfolding id_cmp key_cmp
pairs_of_a_tag_have_no_type = refl

-- the ranges of fields

the_least_and_the_greatest_number_fit : map (fits_kind I8) (negsuc 128 ∷ negsuc 127 ∷ pos 127 ∷ pos 128 ∷ []) ≡ false ∷ true ∷ true ∷ false ∷ []
the_least_and_the_greatest_number_fit = refl

no_negative_number_fits_an_unsigned_field : map (fits_kind U64) (negsuc 0 ∷ pos 0 ∷ pos (2 ^ 64 - 1) ∷ pos (2 ^ 64) ∷ []) ≡ false ∷ true ∷ true ∷ false ∷ []
no_negative_number_fits_an_unsigned_field = refl

-- refusals

no_data_is_told_before_count : refusal_of (SetValue sun planet (pos 1 ∷ pos 2 ∷ [])) ≡ Some NoData
unfolding id_cmp key_cmp within has_chain added replaced facts_with_added new_base copied facts_after_add reasons
no_data_is_told_before_count = refl

count_is_told_before_range : refusal_of (SetValue sun position (pos (2 ^ 40) ∷ [])) ≡ Some Count
unfolding id_cmp key_cmp within has_chain added replaced facts_with_added new_base copied facts_after_add reasons
count_is_told_before_range = refl

each_value_is_measured_by_its_own_field : refusal_of (SetValue sun position (pos 1 ∷ pos 1000 ∷ [])) ≡ Some Range
unfolding id_cmp key_cmp within has_chain added replaced facts_with_added new_base copied facts_after_add reasons
each_value_is_measured_by_its_own_field = refl

an_old_generation_is_dead : refusal_of (Add (record earth { generation = 1 }) planet) ≡ Some Dead
unfolding id_cmp key_cmp within has_chain added replaced facts_with_added new_base copied facts_after_add reasons
an_old_generation_is_dead = refl

an_id_of_no_live_index_is_dead : refusal_of (Add earth (pair 65 70)) ≡ Some Dead
unfolding id_cmp key_cmp within has_chain added replaced facts_with_added new_base copied facts_after_add reasons
an_id_of_no_live_index_is_dead = refl

dead_is_told_before_values : refusal_of (SetValue (record earth { generation = 1 }) planet []) ≡ Some Dead
unfolding id_cmp key_cmp within has_chain added replaced facts_with_added new_base copied facts_after_add reasons
dead_is_told_before_values = refl

removing_what_is_not_held_is_accepted : refusal_of (Remove sun (pair 64 65)) ≡ None
unfolding id_cmp key_cmp reasons
removing_what_is_not_held_is_accepted = refl

an_old_generation_has_nothing_removed : refusal_of (Remove (record earth { generation = 1 }) planet) ≡ Some Dead
unfolding id_cmp key_cmp reasons
an_old_generation_has_nothing_removed = refl

dead_is_told_before_built_in : refusal_of (Remove (record earth { generation = 1 }) (plain 3)) ≡ Some Dead
unfolding id_cmp key_cmp reasons
dead_is_told_before_built_in = refl

an_index_that_is_no_built_in_entity_is_dead_in_an_id : refusal_of (Remove earth (pair 23 65)) ≡ Some Dead
unfolding id_cmp key_cmp reasons
an_index_that_is_no_built_in_entity_is_dead_in_an_id = refl

abbrev spent_sky : WorldState
spent_sky = record sky { live = (3, 0) ∷ (64, 0) ∷ (65, 0) ∷ (66, 0) ∷ []; accepted = 2 ^ 64 - 1 }

built_in_is_told_before_full : first_reason (reasons spent_sky (Remove sun (plain 3))) ≡ Some BuiltIn
unfolding id_cmp key_cmp reasons
built_in_is_told_before_full = refl

a_spent_count_refuses_what_changes_nothing : first_reason (reasons spent_sky (Remove sun (pair 64 65))) ≡ Some Full
unfolding id_cmp key_cmp reasons
a_spent_count_refuses_what_changes_nothing = refl

a_spent_count_refuses_a_new_entity : first_reason (reasons spent_sky Fresh) ≡ Some Full
unfolding reasons next_among
a_spent_count_refuses_a_new_entity = refl

one_command_is_left : first_reason (reasons (record spent_sky { accepted = 2 ^ 64 - 2 }) Fresh) ≡ None
unfolding reasons next_among
one_command_is_left = refl

a_name_is_given_once : refusal_of (Entity (codes "Sun")) ≡ Some NameTaken
unfolding reasons next_among
a_name_is_given_once = refl

a_reserved_word_is_no_name : refusal_of (Component (codes "up") fields) ≡ Some BadName
unfolding reasons next_among
a_reserved_word_is_no_name = refl

-- new entities

the_first_entity_has_index_64 : next_entity first_world ≡ Some (record { index = 64; generation = 0 })
unfolding first_world next_among
the_first_entity_has_index_64 = refl

the_smallest_free_index_comes_next : next_entity (record sky { live = (64, 0) ∷ (66, 0) ∷ (67, 2) ∷ [] }) ≡ Some (record { index = 65; generation = 0 })
unfolding next_among
the_smallest_free_index_comes_next = refl

a_used_index_gets_a_new_generation : next_entity (record sky { live = (64, 0) ∷ (65, 0) ∷ (66, 0) ∷ [] }) ≡ Some (record { index = 67; generation = 2 })
unfolding next_among
a_used_index_gets_a_new_generation = refl

an_index_retires_after_65536_deletions : next_entity (record sky { live = []; deletions = (64, 65536) ∷ (65, 65535) ∷ [] }) ≡ Some (record { index = 65; generation = 65535 })
unfolding next_among
an_index_retires_after_65536_deletions = refl

no_index_behind_the_last_is_given_out : next_among ((64, 0) ∷ (66, 0) ∷ []) ((65, 65536) ∷ []) 66 ≡ None
unfolding next_among
no_index_behind_the_last_is_given_out = refl

the_last_index_is_given_out : next_among ((64, 0) ∷ (65, 0) ∷ []) ((66, 1) ∷ []) 66 ≡ Some (record { index = 66; generation = 1 })
unfolding next_among
the_last_index_is_given_out = refl

-- what a step says has changed

abbrev changes_of : Command → Option Changed
changes_of c = elim (step sky c) [ Ok a ↦ Some a.1 | Err r ↦ None ]

a_fact_that_is_set_comes_and_is_written : changes_of (SetValue sun position (pos 5 ∷ pos 6 ∷ []))
    ≡ Some (record { born = None; died = []; came = (66, position) ∷ []; went = []; written = (66, position) ∷ [] })
unfolding id_cmp key_cmp within has_chain added replaced facts_with_added new_base copied facts_after_add reasons effect differences step
a_fact_that_is_set_comes_and_is_written = refl

a_fact_that_was_held_does_not_come : changes_of (Add earth planet) ≡ Some (record { born = None; died = []; came = []; went = []; written = [] })
unfolding id_cmp key_cmp within has_chain added replaced facts_with_added new_base copied facts_after_add reasons effect differences step
a_fact_that_was_held_does_not_come = refl

a_component_is_born_with_its_tag : changes_of (Component (codes "Mass") mass)
    ≡ Some (record { born = Some (record { index = 68; generation = 0 }); died = []; came = (68, plain 3) ∷ []; went = []; written = [] })
unfolding id_cmp key_cmp next_among with_component reasons effect differences step
a_component_is_born_with_its_tag = refl

a_new_entity_is_born_without_facts : changes_of Fresh
    ≡ Some (record { born = Some (record { index = 68; generation = 0 }); died = []; came = []; went = []; written = [] })
unfolding id_cmp key_cmp next_among with_born reasons effect differences step
a_new_entity_is_born_without_facts = refl

a_fact_that_is_removed_goes : changes_of (Remove earth planet)
    ≡ Some (record { born = None; died = []; came = []; went = (67, planet) ∷ []; written = [] })
unfolding id_cmp key_cmp facts_after_remove reasons effect differences step
a_fact_that_is_removed_goes = refl

-- what a call may answer

abbrev born_sky : WorldState
born_sky = record sky { live = (64, 0) ∷ (65, 0) ∷ (66, 0) ∷ (67, 2) ∷ (68, 0) ∷ []; accepted = 7 }

abbrev tells_born : EntityId → Changed
tells_born e = record { born = Some e; died = []; came = []; went = []; written = [] }

what_has_changed_is_answered : AnswersStep (Ok (tells_born (record { index = 68; generation = 0 }))) (step sky Fresh) sky born_sky
unfolding id_cmp key_cmp next_among with_born reasons effect differences step
what_has_changed_is_answered = refl

no_other_entity_is_answered : AnswersStep (Ok (tells_born earth)) (step sky Fresh) sky born_sky → ⊥
unfolding id_cmp key_cmp next_among with_born reasons effect differences step
no_other_entity_is_answered h = true≢false (ap (λ r. elim r [ Ok a ↦ option_map_or (λ e. e.index == 68) (a.1).born false | Err x ↦ false ]) h)

an_accepted_command_leaves_its_world : AnswersStep (Ok (tells_born (record { index = 68; generation = 0 }))) (step sky Fresh) sky sky → ⊥
unfolding id_cmp key_cmp next_among with_born reasons effect differences step
an_accepted_command_leaves_its_world h = true≢false (ap (λ r. elim r [ Ok a ↦ (a.0).accepted == 7 | Err x ↦ false ]) h)

an_accepted_command_is_not_refused : AnswersStep (Err (Refused Full)) (step sky Fresh) sky sky → ⊥
unfolding id_cmp key_cmp next_among with_born reasons effect differences step
an_accepted_command_is_not_refused h = true≢false (ap is_ok h.0)

-- references

abbrev unknown : EntityRef
unknown = by_name (codes "Moon")

an_entity_is_found_by_its_handle : entity_found sky (by_handle 67 2) ≡ Ok earth
an_entity_is_found_by_its_handle = refl

a_dead_handle_is_told_before_an_unknown_name : with_both sky Add unknown (pair_of unknown (by_handle 67 1)) ≡ Err Dead
a_dead_handle_is_told_before_an_unknown_name = refl

an_unknown_name_is_told_where_all_handles_live : with_both sky Add (by_handle 67 2) (pair_of unknown (by_handle 66 0)) ≡ Err UnknownName
an_unknown_name_is_told_where_all_handles_live = refl

a_pair_is_made_of_indexes : with_both sky Add (by_name (codes "Earth")) (pair_of (by_handle 66 0) (by_name (codes "Earth"))) ≡ Ok (Add earth (pair 66 67))
a_pair_is_made_of_indexes = refl

leading_zeros_are_read : map handle_of (codes "000000067.00002" ∷ codes "0.0" ∷ codes "999999999.65535" ∷ [])
    ≡ Some (by_handle 67 2) ∷ Some (by_handle 0 0) ∷ Some (by_handle 999999999 65535) ∷ []
leading_zeros_are_read = refl

too_many_digits_and_too_great_generations_are_no_handle : map handle_of (codes "0000000067.2" ∷ codes "67.000002" ∷ codes "67.65536" ∷ codes "67." ∷ codes ".2" ∷ codes "67" ∷ codes "6.7.2" ∷ [])
    ≡ None ∷ None ∷ None ∷ None ∷ None ∷ None ∷ None ∷ []
too_many_digits_and_too_great_generations_are_no_handle = refl

a_pair_may_have_blanks_inside : id_and_rest (codes "(\tA , #1.0 ) 7") ≡ Some (pair_of (by_name (codes "A")) (by_handle 1 0), codes " 7")
a_pair_may_have_blanks_inside = refl

a_pair_ends_at_a_blank : map id_and_rest (codes "(A,B)7" ∷ codes "(A,B))" ∷ codes "(A,B" ∷ codes "(A B,A)" ∷ codes "(A,B,C)" ∷ codes "(A)" ∷ [])
    ≡ None ∷ None ∷ None ∷ None ∷ None ∷ None ∷ []
a_pair_ends_at_a_blank = refl

-- lines

nothing_stands_behind_new : form_of (codes "new Mars") ≡ BadLine
unfolding forms form_among is_utf8 chars encode
nothing_stands_behind_new = refl

delete_takes_one_reference : map form_of (codes "delete Sun" ∷ codes "delete #66.0 " ∷ codes "delete" ∷ codes "delete Sun Earth" ∷ codes "delete (Sun,Earth)" ∷ [])
    ≡ CarryOut (InWorld (DeleteOne (by_name (codes "Sun")))) ∷ CarryOut (InWorld (DeleteOne (by_handle 66 0))) ∷ BadLine ∷ BadLine ∷ BadLine ∷ []
unfolding forms form_among is_utf8 chars encode
delete_takes_one_reference = refl

a_stored_query_has_a_name_and_a_text : map form_of (codes "keep k" ∷ codes "keep" ∷ codes "monitor m\tSun,  Earth " ∷ codes "on add a Sun" ∷ codes "on remove a" ∷ codes "on set" ∷ codes "on touch a Sun" ∷ codes "on" ∷ [])
    ≡ CarryOut (Store Kept (codes "k") []) ∷ BadLine ∷ CarryOut (Store Monitor (codes "m") (codes "Sun,  Earth")) ∷ CarryOut (Store OnAdd (codes "a") (codes "Sun")) ∷ CarryOut (Store OnRemove (codes "a") []) ∷ BadLine ∷ BadLine ∷ BadLine ∷ []
unfolding forms form_among is_utf8 chars encode
a_stored_query_has_a_name_and_a_text = refl

a_stored_query_is_asked_for_and_dropped_by_its_name : map form_of (codes "rows k" ∷ codes "rows" ∷ codes "rows k Sun" ∷ codes "drop k" ∷ codes "drop" ∷ [])
    ≡ AskKept (codes "k") ∷ BadLine ∷ BadLine ∷ CarryOut (Drop (codes "k")) ∷ BadLine ∷ []
unfolding forms form_among is_utf8 chars encode
a_stored_query_is_asked_for_and_dropped_by_its_name = refl

an_entity_is_shown_with_its_facts_in_order : show_text sky earth ≡ codes "show Earth [Position=10,-3] [Planet]\n"
unfolding id_cmp key_cmp digits
an_entity_is_shown_with_its_facts_in_order = refl

-- rows

abbrev asked_for : ℕ → Piece
asked_for c = item (must (record { component = ref.Is c; target = None; source = ref.Var 0; on_source = true; up = None; closed = false; shows_value = true }))

abbrev asks : List ℕ → Query
asks cs = record { variables = codes "this" ∷ []; has_this = true; pieces = map asked_for cs; cascade = None; mentions = []; length = 0 }

rows_come_by_ascending_index : rows (view_of sky) (asks (65 ∷ []))
    ≡ record { bindings = 66 ∷ []; fields = Shown 66 planet None ∷ [] } ∷ record { bindings = 67 ∷ []; fields = Shown 67 planet None ∷ [] } ∷ []
unfolding id_cmp key_cmp top hits fields_of_term fields_of_item solutions rows
rows_come_by_ascending_index = refl

a_row_has_a_field_for_each_term : rows (view_of sky) (asks (64 ∷ 65 ∷ 64 ∷ []))
    ≡ record { bindings = 67 ∷ []; fields = Shown 67 position (Some (pos 10 ∷ negsuc 2 ∷ [])) ∷ Shown 67 planet None ∷ Shown 67 position (Some (pos 10 ∷ negsuc 2 ∷ [])) ∷ [] } ∷ []
unfolding id_cmp key_cmp top hits fields_of_term fields_of_item solutions rows
a_row_has_a_field_for_each_term = refl

-- Sun and Earth, the one with Disabled, the other with Prefab

abbrev veiled : WorldState
veiled = record sky { facts = ((66, plain 5), []) ∷ ((66, planet), []) ∷ ((67, plain 4), []) ∷ ((67, planet), []) ∷ ((67, pair 5 66), []) ∷ [] }

an_entity_with_prefab_or_disabled_is_passed_over : rows (view_of veiled) (asks (65 ∷ [])) ≡ []
unfolding id_cmp key_cmp top hits fields_of_term fields_of_item solutions rows
an_entity_with_prefab_or_disabled_is_passed_over = refl

a_query_that_mentions_the_tag_passes_none_over_for_it : map (λ r. r.bindings) (rows (view_of veiled) (asks (65 ∷ 5 ∷ []))) ≡ (66 ∷ []) ∷ []
unfolding id_cmp key_cmp top hits fields_of_term fields_of_item solutions rows
a_query_that_mentions_the_tag_passes_none_over_for_it = refl

a_mention_of_the_other_tag_is_none : rows (view_of veiled) (asks (65 ∷ 4 ∷ [])) ≡ record { bindings = 67 ∷ []; fields = Shown 67 planet None ∷ Shown 67 (plain 4) None ∷ [] } ∷ []
unfolding id_cmp key_cmp top hits fields_of_term fields_of_item solutions rows
a_mention_of_the_other_tag_is_none = refl

-- faults of a text

abbrev at : FaultKind → ℕ → ℕ → Fault
at kind from to = record { kind = kind; span = record { start = from; end = to } }

a_lex_fault_is_told_before_an_earlier_syntax_fault : query_of sky (codes "Sun Earth 7") ≡ Err (at Lex 10 11)
unfolding tokens_from tokens_of faults asked_of
a_lex_fault_is_told_before_an_earlier_syntax_fault = refl

a_syntax_fault_is_told_before_an_earlier_unknown_name : query_of sky (codes "Moon, Sun Earth") ≡ Err (at Syntax 10 15)
unfolding tokens_from tokens_of faults asked_of
a_syntax_fault_is_told_before_an_earlier_unknown_name = refl

the_first_of_two_unknown_names_is_told : query_of sky (codes "Sun, Moon, Mars") ≡ Err (at UnknownName 5 9)
unfolding tokens_from tokens_of faults asked_of
the_first_of_two_unknown_names_is_told = refl

the_end_of_an_empty_text_is_its_fault : query_of sky (codes " ") ≡ Err (at Syntax 1 1)
unfolding tokens_from tokens_of faults asked_of
the_end_of_an_empty_text_is_its_fault = refl

-- the order of ids

a_plain_id_is_below_each_pair : id_cmp (plain 500) (pair 1 1) ≡ Less
unfolding id_cmp
a_plain_id_is_below_each_pair = refl

pairs_go_by_relationship_first : id_cmp (pair 1 9) (pair 2 1) ≡ Less
unfolding id_cmp
pairs_go_by_relationship_first = refl

pairs_of_one_relationship_go_by_target : id_cmp (pair 2 1) (pair 2 3) ≡ Less
unfolding id_cmp
pairs_of_one_relationship_go_by_target = refl
