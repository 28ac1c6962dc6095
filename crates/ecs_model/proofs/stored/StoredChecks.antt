-- Sessions with stored queries, which the prover computes.
use Rattle.std.specs.Prelude.{◌≡◌, ℕ, Bool, true, false, List, [], ◌∷◌, ◌++◌, map, flat_map, pos, codes, Some, None, Ok, Err, refl}
use Rattle.std.specs.Fmt.{digits}
use Rattle.std.specs.List.{range_with_len}
use Rattle.std.specs.Str.{chars, is_utf8}
use lib.Utf8.{encode}
use Rattle.ecs_id.specs.Id.{Id, plain, pair, id_cmp}
use Rattle.query_model.specs.Check.{faults}
use Rattle.query_model.specs.Query.{checked_query, query_of}
use Rattle.query_model.specs.Tokens.{tokens_from, tokens_of}
use Rattle.ecs_model.specs.declared.Kind.TheVariants.{I32}
use Rattle.ecs_model.specs.steps.Outcomes.{with_born, with_named, with_component, differences}
use Rattle.ecs_model.specs.AncestorLine.{ancestor_line_within}
use Rattle.ecs_model.specs.Links.{reaches}
use Rattle.ecs_model.specs.Map.{Map}
use Rattle.ecs_model.specs.Query.{query_of as query_in}
use Rattle.ecs_model.specs.Schema.{Schema}
use Rattle.ecs_model.specs.Orders.{by_name, IdRef, plain_of, pair_of, MakeFresh, MakeEntity, MakeComponent, AddTo, SetIn, RemoveFrom, DeleteOne, command_of}
use Rattle.ecs_model.specs.Sets.{has_chain, within}
use Rattle.ecs_model.specs.World.{first_world, key_cmp, next_among}
use Rattle.ecs_model.specs.rows.Level.{top}
use Rattle.ecs_model.specs.rows.Rows.{hits, fields_of_term, fields_of_item, solutions, rows}
use Rattle.ecs_model.specs.steps.FactChanges.{added, replaced, facts_with_added, new_base, copied, facts_after_add, facts_after_remove, deleted, facts_after_delete}
use Rattle.ecs_model.specs.steps.Step.{without_entities, reasons, effect, step}
use Rattle.ecs_model.specs.steps.Pins.{unpin}
use Rattle.ecs_model.specs.declared.faults.SessionRefusal.TheVariants.{EventsPending, QueryTaken, TooManyStored}
use Rattle.ecs_model.specs.declared.watches.StoredKind.TheVariants.{Kept, Monitor, OnAdd, OnRemove, OnSet}
use Rattle.ecs_model.specs.stored.Refusal.{session_refusal_text}
use Rattle.ecs_model.specs.stored.Session.{SessionState, SessionOrder, InWorld, Store, Drop, Answer, first_session, free_order, apply, events, after_events}
use Rattle.ecs_model.specs.stored.Tables.{lists_table}
use Rattle.ecs_model.specs.stored.Watches.{matching, told_of_rows, told_of, event_text}

-- a session, and the lines that it printed: events, and the words of refusals
abbrev Printed : Type 0
Printed = SessionState × List ℕ

abbrev printed_with : Printed → Answer → Printed
printed_with p (Err r) = (p.0, p.1 ++ codes "error " ++ session_refusal_text r ++ codes "\n")
printed_with p (Ok a) = (after_events a.0, p.1 ++ flat_map event_text (events a.0))

-- after some commands in a row, the events of each
abbrev after_orders : Printed → List SessionOrder → Printed
after_orders p [] = p
after_orders p (o ∷ os) = after_orders (printed_with p (apply p.0 o)) os

-- what they print
abbrev prints : List SessionOrder → List ℕ
prints os = (after_orders (first_session, []) os).1

-- how often each entity is mentioned after them
abbrev pins_after : List SessionOrder → Map ℕ ℕ
pins_after os = (((after_orders (first_session, []) os).0).world).pins

abbrev fields : Schema
fields = record { name = codes "x"; kind = I32 } ∷ record { name = codes "y"; kind = I32 } ∷ []

abbrev entity : List ℕ → SessionOrder
entity n = InWorld (MakeEntity n)

abbrev add : List ℕ → IdRef → SessionOrder
add e i = InWorld (AddTo (by_name e) i)

abbrev remove : List ℕ → List ℕ → SessionOrder
remove e c = InWorld (RemoveFrom (by_name e) (plain_of (by_name c)))

abbrev tag : List ℕ → IdRef
tag c = plain_of (by_name c)

abbrev to : List ℕ → List ℕ → IdRef
to r t = pair_of (by_name r) (by_name t)

abbrev set_position : List ℕ → SessionOrder
set_position e = InWorld (SetIn (by_name e) (tag (codes "Position")) (pos 10 ∷ pos 3 ∷ []))

-- the Moon is in the Earth, and the Earth in the Sun; the Sun and the Earth have positions
abbrev sky : List SessionOrder
sky =
    InWorld (MakeComponent (codes "Position") fields)
    ∷ entity (codes "Sun") ∷ entity (codes "Earth") ∷ entity (codes "Moon")
    ∷ add (codes "Earth") (to (codes "ChildOf") (codes "Sun")) ∷ add (codes "Moon") (to (codes "ChildOf") (codes "Earth"))
    ∷ set_position (codes "Sun") ∷ set_position (codes "Earth") ∷ []

an_ancestor_further_up_will_do : prints (sky ++ Store Monitor (codes "m") (codes "Position(up)") ∷ remove (codes "Earth") (codes "Position") ∷ []) ≡ []
unfolding id_cmp key_cmp first_world next_among within has_chain added replaced facts_with_added new_base copied facts_after_add facts_after_remove deleted facts_after_delete without_entities with_born with_named with_component reasons effect differences step ancestor_line_within reaches top hits fields_of_term fields_of_item solutions rows tokens_from tokens_of faults checked_query query_of digits chars is_utf8 encode command_of free_order apply matching told_of_rows told_of unpin
an_ancestor_further_up_will_do = refl

-- as long as the Sun has one, the Moon finds a position above it, and so does the Earth
who_loses_its_ancestors_position_leaves : prints (sky
    ++ Store Monitor (codes "m") (codes "Position(up)") ∷ remove (codes "Earth") (codes "Position") ∷ remove (codes "Sun") (codes "Position") ∷ [])
    ≡ codes "leave m Earth\nleave m Moon\n"
unfolding id_cmp key_cmp first_world next_among within has_chain added replaced facts_with_added new_base copied facts_after_add facts_after_remove deleted facts_after_delete without_entities with_born with_named with_component reasons effect differences step ancestor_line_within reaches top hits fields_of_term fields_of_item solutions rows tokens_from tokens_of faults checked_query query_of digits chars is_utf8 encode command_of free_order apply matching told_of_rows told_of unpin
who_loses_its_ancestors_position_leaves = refl

-- the Sun is a parent already, and the Earth is none any more
leaves_come_before_enters : prints (sky ++ Store Monitor (codes "m") (codes "ChildOf($x,$this)") ∷ add (codes "Moon") (to (codes "ChildOf") (codes "Sun")) ∷ [])
    ≡ codes "leave m Earth\n"
unfolding id_cmp key_cmp first_world next_among within has_chain added replaced facts_with_added new_base copied facts_after_add facts_after_remove deleted facts_after_delete without_entities with_born with_named with_component reasons effect differences step ancestor_line_within reaches top hits fields_of_term fields_of_item solutions rows tokens_from tokens_of faults checked_query query_of digits chars is_utf8 encode command_of free_order apply matching told_of_rows told_of unpin
leaves_come_before_enters = refl

who_is_a_parent_now_enters_behind_who_was_one : prints (entity (codes "Sun") ∷ entity (codes "Earth") ∷ entity (codes "Moon") ∷ add (codes "Moon") (to (codes "ChildOf") (codes "Earth")) ∷ Store Monitor (codes "m") (codes "ChildOf($x,$this)") ∷ add (codes "Moon") (to (codes "ChildOf") (codes "Sun")) ∷ [])
    ≡ codes "leave m Earth\nenter m Sun\n"
unfolding id_cmp key_cmp first_world next_among within has_chain added replaced facts_with_added new_base copied facts_after_add facts_after_remove deleted facts_after_delete without_entities with_born with_named with_component reasons effect differences step ancestor_line_within reaches top hits fields_of_term fields_of_item solutions rows tokens_from tokens_of faults checked_query query_of digits chars is_utf8 encode command_of free_order apply matching told_of_rows told_of unpin
who_is_a_parent_now_enters_behind_who_was_one = refl

-- a value that is set again is an event, what changes nothing is none, a new value is no set, and what is deleted goes by its name
observers_are_told_in_the_order_of_making : prints (InWorld (MakeComponent (codes "Position") fields) ∷ entity (codes "Sun") ∷ Store OnSet (codes "s") (codes "Position") ∷ Store OnAdd (codes "a") (codes "Position") ∷ Store OnRemove (codes "r") (codes "Position") ∷ set_position (codes "Sun") ∷ set_position (codes "Sun") ∷ remove (codes "Sun") (codes "Position") ∷ remove (codes "Sun") (codes "Position") ∷ add (codes "Sun") (tag (codes "Position")) ∷ InWorld (DeleteOne (by_name (codes "Sun"))) ∷ [])
    ≡ codes "set s Sun Position=10,3\nadd a Sun Position\nset s Sun Position=10,3\nremove r Sun Position\nadd a Sun Position\nremove r Sun Position\n"
unfolding id_cmp key_cmp first_world next_among within has_chain added replaced facts_with_added new_base copied facts_after_add facts_after_remove deleted facts_after_delete without_entities with_born with_named with_component reasons effect differences step ancestor_line_within reaches top hits fields_of_term fields_of_item solutions rows tokens_from tokens_of faults checked_query query_of digits chars is_utf8 encode command_of free_order apply matching told_of_rows told_of unpin
observers_are_told_in_the_order_of_making = refl

-- `_` as `*`: each fact is an event, by entity and id
wildcards_match_stored_facts : prints (entity (codes "A") ∷ entity (codes "B") ∷ entity (codes "Sun") ∷ add (codes "A") (to (codes "With") (codes "B")) ∷ Store OnAdd (codes "one") (codes "_") ∷ Store OnAdd (codes "pairs") (codes "(*,_)") ∷ Store OnAdd (codes "any") (codes "*($this|self)") ∷ InWorld (MakeComponent (codes "Position") fields) ∷ add (codes "Sun") (tag (codes "A")) ∷ add (codes "Sun") (to (codes "A") (codes "B")) ∷ [])
    ≡ codes "add one Position Component\nadd any Position Component\nadd one Sun A\nadd one Sun B\nadd any Sun A\nadd any Sun B\nadd pairs Sun (A,B)\nadd pairs Sun (B,B)\n"
unfolding id_cmp key_cmp first_world next_among within has_chain added replaced facts_with_added new_base copied facts_after_add facts_after_remove deleted facts_after_delete without_entities with_born with_named with_component reasons effect differences step ancestor_line_within reaches top hits fields_of_term fields_of_item solutions rows tokens_from tokens_of faults checked_query query_of digits chars is_utf8 encode command_of free_order apply matching told_of_rows told_of unpin
wildcards_match_stored_facts = refl

-- what comes is judged after the command, and what goes before it
who_is_passed_over_is_not_told : prints (entity (codes "A") ∷ entity (codes "B") ∷ entity (codes "Sun") ∷ entity (codes "Earth") ∷ add (codes "B") (to (codes "With") (codes "Disabled")) ∷ Store OnAdd (codes "a") (codes "*") ∷ Store OnAdd (codes "d") (codes "Disabled") ∷ Store OnRemove (codes "r") (codes "*") ∷ add (codes "Sun") (tag (codes "A")) ∷ add (codes "Sun") (tag (codes "B")) ∷ add (codes "Earth") (tag (codes "Prefab")) ∷ add (codes "Earth") (tag (codes "A")) ∷ remove (codes "Sun") (codes "Disabled") ∷ InWorld (DeleteOne (by_name (codes "Earth"))) ∷ InWorld (DeleteOne (by_name (codes "Sun"))) ∷ [])
    ≡ codes "add a Sun A\nadd d Sun Disabled\nremove r Sun A\nremove r Sun B\n"
unfolding id_cmp key_cmp first_world next_among within has_chain added replaced facts_with_added new_base copied facts_after_add facts_after_remove deleted facts_after_delete without_entities with_born with_named with_component reasons effect differences step ancestor_line_within reaches top hits fields_of_term fields_of_item solutions rows tokens_from tokens_of faults checked_query query_of digits chars is_utf8 encode command_of free_order apply matching told_of_rows told_of unpin
who_is_passed_over_is_not_told = refl

-- and an observer one term
a_watch_needs_this : prints (entity (codes "A") ∷ Store Monitor (codes "m") (codes "A(A)") ∷ Store OnAdd (codes "a") (codes "A(A)") ∷ Store OnAdd (codes "b") (codes "A, A") ∷ Store OnSet (codes "c") (codes "A(up)") ∷ Store OnRemove (codes "d") (codes "($x,A), A($x)") ∷ Store OnAdd (codes "e") (codes "?A") ∷ Store Kept (codes "k") (codes "A(A)") ∷ [])
    ≡ codes "error NoThis 0..4\nerror NoThis 0..4\nerror NotOneTerm 0..4\nerror NotOneTerm 0..5\nerror NotOneTerm 0..13\nerror NotOneTerm 0..2\n"
unfolding id_cmp key_cmp first_world next_among within has_chain added replaced facts_with_added new_base copied facts_after_add facts_after_remove deleted facts_after_delete without_entities with_born with_named with_component reasons effect differences step ancestor_line_within reaches top hits fields_of_term fields_of_item solutions rows tokens_from tokens_of faults checked_query query_of digits chars is_utf8 encode command_of free_order apply matching told_of_rows told_of unpin
a_watch_needs_this = refl

-- and what it mentions is not deleted
a_name_is_taken_until_its_query_is_dropped : prints (entity (codes "A") ∷ Store Kept (codes "k") (codes "A") ∷ Store Monitor (codes "k") (codes "Nowhere") ∷ Store Monitor (codes "self") (codes "Nowhere") ∷ Store Monitor (codes "m") (codes "Nowhere") ∷ InWorld (DeleteOne (by_name (codes "A"))) ∷ Drop (codes "m") ∷ Drop (codes "k") ∷ Drop (codes "k") ∷ Store Monitor (codes "k") (codes "A") ∷ Drop (codes "k") ∷ InWorld (DeleteOne (by_name (codes "A"))) ∷ [])
    ≡ codes "error QueryTaken\nerror BadName\nerror UnknownName 0..7\nerror InUse\nerror UnknownQuery\nerror UnknownQuery\n"
unfolding id_cmp key_cmp first_world next_among within has_chain added replaced facts_with_added new_base copied facts_after_add facts_after_remove deleted facts_after_delete without_entities with_born with_named with_component reasons effect differences step ancestor_line_within reaches top hits fields_of_term fields_of_item solutions rows tokens_from tokens_of faults checked_query query_of digits chars is_utf8 encode command_of free_order apply matching told_of_rows told_of unpin
a_name_is_taken_until_its_query_is_dropped = refl

what_a_stored_query_mentions_is_counted : map pins_after ((entity (codes "A") ∷ Store Kept (codes "k") (codes "A, A") ∷ Store Monitor (codes "m") (codes "A(up IsA)") ∷ []) ∷ (entity (codes "A") ∷ Store Kept (codes "k") (codes "A, A") ∷ Store Monitor (codes "m") (codes "A(up IsA)") ∷ Drop (codes "k") ∷ []) ∷ [])
    ≡ ((2, 1) ∷ (64, 2) ∷ []) ∷ ((2, 1) ∷ (64, 1) ∷ []) ∷ []
unfolding id_cmp key_cmp first_world next_among within has_chain added replaced facts_with_added new_base copied facts_after_add facts_after_remove deleted facts_after_delete without_entities with_born with_named with_component reasons effect differences step ancestor_line_within reaches top hits fields_of_term fields_of_item solutions rows tokens_from tokens_of faults checked_query query_of digits chars is_utf8 encode command_of free_order apply matching told_of_rows told_of unpin
what_a_stored_query_mentions_is_counted = refl

-- a session with as many stored queries as there can be, all under one name
abbrev full_session : SessionState
full_session = record first_session {
  stored = map (λ i. record { name = codes "k"; kind = Kept; query = record { variables = []; has_this = false; pieces = []; cascade = None; mentions = []; length = 0 } }) (range_with_len 0 1024);
}

too_many_is_told_behind_a_taken_name : map (λ n. apply full_session (Store Kept n (codes "Nowhere"))) (codes "k" ∷ codes "n" ∷ []) ≡ Err QueryTaken ∷ Err TooManyStored ∷ []
unfolding apply free_order
too_many_is_told_behind_a_taken_name = refl

no_command_while_events_wait : map (apply (record first_session { waiting = Some [] })) (InWorld MakeFresh ∷ Drop (codes "k") ∷ Store Kept (codes "self") [] ∷ [])
    ≡ Err EventsPending ∷ Err EventsPending ∷ Err EventsPending ∷ []
unfolding apply
no_command_while_events_wait = refl

-- which tables of these ids a query of the first world lists
abbrev lists : List ℕ → List (List Id) → List Bool
lists text tables = elim (query_in first_world text) [ Ok q ↦ map (lists_table q) tables | Err f ↦ [] ]

-- the terms that are no And terms of `$this` itself ask nothing of a table
a_listed_table_has_a_hit_for_each_cacheable_item : lists (codes "Exclusive, (OnDelete,_), !Acyclic, ?Traversable, With(up), !{ Prefab }, Disabled || Delete")
    ((plain 6 ∷ pair 14 17 ∷ []) ∷ (plain 6 ∷ plain 10 ∷ pair 14 3 ∷ []) ∷ (plain 6 ∷ plain 14 ∷ []) ∷ (pair 14 17 ∷ []) ∷ [] ∷ [])
    ≡ true ∷ true ∷ false ∷ false ∷ false ∷ []
unfolding first_world key_cmp id_cmp top tokens_from tokens_of faults checked_query query_of lists_table
a_listed_table_has_a_hit_for_each_cacheable_item = refl
