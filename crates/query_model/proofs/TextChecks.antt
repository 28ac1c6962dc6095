-- Checks of queries' texts, which the prover computes.
use Rattle.std.specs.Prelude.{◌≡◌, ℕ, ◌==◌, true, false, List, codes, bytes_eq, Option, Some, None, Err, is_ok, refl, if◌then◌else◌, Result, Ok}
use Rattle.ecs_id.specs.declared.EntityId.{EntityId}
use Rattle.query_model.specs.declared.faults.FaultKind.{FaultKind}
use Rattle.query_model.specs.declared.faults.FaultKind.TheVariants.{Lex, Syntax, UnknownName, NotTraversable, UnboundVariable, WildcardSource, WildcardEquality, TooManyTerms, TooManyVariables, TooDeep, NoThis, NotOneTerm, CascadePlace}
use Rattle.query_model.specs.Tokens.{tokens_from, tokens_of}
use Rattle.query_model.specs.declared.faults.Fault.{Fault}
use Rattle.query_model.specs.Observers.{monitored, observed}
use Rattle.query_model.specs.Check.{Known, faults}
use Rattle.query_model.specs.Query.{Query, checked_query, query_of}

abbrev entity : ℕ → EntityId
entity i = record { index = i; generation = 0 }

-- a world of four names. Orbits is transitive and can be traversed
abbrev named : List ℕ → Option EntityId
named n =
    if bytes_eq n (codes "ChildOf") then Some (entity 1)
    else if bytes_eq n (codes "Sun") then Some (entity 64)
    else if bytes_eq n (codes "Orbits") then Some (entity 65)
    else if bytes_eq n (codes "Position") then Some (entity 66)
    else None

abbrev sky : Known
sky = record {
  named = named;
  alive = λ e. e.generation == 0;
  traversable = λ i. i == 65;
  transitive = λ i. i == 65;
  reflexive = λ i. false;
  inherited = λ i. false;
}

abbrev Tells : List ℕ → FaultKind → ℕ → ℕ → Type 0
Tells text kind start end = query_of sky text ≡ Err (record { kind = kind; span = record { start = start; end = end } })

-- a query as that of a monitor, or of an event observer
abbrev behind : (Query → Result Query Fault) → Result Query Fault → Result Query Fault
behind judged (Ok q) = judged q
behind judged (Err f) = Err f

abbrev TellsOf : (Query → Result Query Fault) → List ℕ → FaultKind → ℕ → ℕ → Type 0
TellsOf judged text kind start end = behind judged (query_of sky text) ≡ Err (record { kind = kind; span = record { start = start; end = end } })

abbrev AcceptsAs : (Query → Result Query Fault) → List ℕ → Type 0
AcceptsAs judged text = is_ok (behind judged (query_of sky text)) ≡ true

abbrev Accepts : List ℕ → Type 0
Accepts text = is_ok (query_of sky text) ≡ true

a_dollar_alone : Tells (codes "$") Lex 0 1
unfolding tokens_from tokens_of faults checked_query query_of
a_dollar_alone = refl

an_ampersand : Tells (codes "Position & Sun") Lex 9 10
unfolding tokens_from tokens_of faults checked_query query_of
an_ampersand = refl

no_text : Tells (codes "") Syntax 0 0
unfolding tokens_from tokens_of faults checked_query query_of
no_text = refl

a_comma_at_the_end : Tells (codes "Position,") Syntax 9 9
unfolding tokens_from tokens_of faults checked_query query_of
a_comma_at_the_end = refl

an_alternative_to_a_not_term : Tells (codes "!Position || Sun") Syntax 10 12
unfolding tokens_from tokens_of faults checked_query query_of
an_alternative_to_a_not_term = refl

an_open_group : Tells (codes "!{ Sun") Syntax 6 6
unfolding tokens_from tokens_of faults checked_query query_of
an_open_group = refl

a_word_of_the_language : Tells (codes "Sun, self") Syntax 5 9
unfolding tokens_from tokens_of faults checked_query query_of
a_word_of_the_language = refl

up_and_a_comma : Tells (codes "Sun(up, Sun, Sun)") Syntax 11 12
unfolding tokens_from tokens_of faults checked_query query_of
up_and_a_comma = refl

an_unknown_name : Tells (codes "Sun, Moon") UnknownName 5 9
unfolding tokens_from tokens_of faults checked_query query_of
an_unknown_name = refl

up_along_what_is_not_traversable : Tells (codes "Position(up Sun)") NotTraversable 12 15
unfolding tokens_from tokens_of faults checked_query query_of
up_along_what_is_not_traversable = refl

an_unknown_name_behind_up : Tells (codes "Position(up Moon)") UnknownName 12 16
unfolding tokens_from tokens_of faults checked_query query_of
an_unknown_name_behind_up = refl

a_variable_of_an_optional_term : Tells (codes "Sun, ?Orbits($x)") UnboundVariable 13 15
unfolding tokens_from tokens_of faults checked_query query_of
a_variable_of_an_optional_term = refl

two_variables_in_an_equality : Tells (codes "$x == $y, Sun") UnboundVariable 0 2
unfolding tokens_from tokens_of faults checked_query query_of
two_variables_in_an_equality = refl

a_variable_of_one_alternative : Tells (codes "(Orbits,$x) || Sun") UnboundVariable 8 10
unfolding tokens_from tokens_of faults checked_query query_of
a_variable_of_one_alternative = refl

a_variable_bound_in_a_group_alone : Tells (codes "!{ (Orbits,$x) }, $x != Sun") UnboundVariable 11 13
unfolding tokens_from tokens_of faults checked_query query_of
a_variable_bound_in_a_group_alone = refl

a_wildcard_as_source : Tells (codes "Position(*)") WildcardSource 9 10
unfolding tokens_from tokens_of faults checked_query query_of
a_wildcard_as_source = refl

a_wildcard_in_an_equality : Tells (codes "Position, $this == *") WildcardEquality 19 20
unfolding tokens_from tokens_of faults checked_query query_of
a_wildcard_in_an_equality = refl

five_groups : Tells (codes "!{ !{ !{ !{ !{ Sun } } } } }") TooDeep 13 14
unfolding tokens_from tokens_of faults checked_query query_of
five_groups = refl

the_lesser_start_of_two : Tells (codes "Position(*), Moon") WildcardSource 9 10
unfolding tokens_from tokens_of faults checked_query query_of
the_lesser_start_of_two = refl

-- the 65th term, which is both too many and unknown
the_65th_term : Tells (codes "Sun,Sun,Sun,Sun,Sun,Sun,Sun,Sun,Sun,Sun,Sun,Sun,Sun,Sun,Sun,Sun,Sun,Sun,Sun,Sun,Sun,Sun,Sun,Sun,Sun,Sun,Sun,Sun,Sun,Sun,Sun,Sun,Sun,Sun,Sun,Sun,Sun,Sun,Sun,Sun,Sun,Sun,Sun,Sun,Sun,Sun,Sun,Sun,Sun,Sun,Sun,Sun,Sun,Sun,Sun,Sun,Sun,Sun,Sun,Sun,Sun,Sun,Sun,Sun,(Orbits,*)") TooManyTerms 256 266
unfolding tokens_from tokens_of faults checked_query query_of
the_65th_term = refl

-- of two faults at one place the lesser kind
the_65th_term_unknown : Tells (codes "Sun,Sun,Sun,Sun,Sun,Sun,Sun,Sun,Sun,Sun,Sun,Sun,Sun,Sun,Sun,Sun,Sun,Sun,Sun,Sun,Sun,Sun,Sun,Sun,Sun,Sun,Sun,Sun,Sun,Sun,Sun,Sun,Sun,Sun,Sun,Sun,Sun,Sun,Sun,Sun,Sun,Sun,Sun,Sun,Sun,Sun,Sun,Sun,Sun,Sun,Sun,Sun,Sun,Sun,Sun,Sun,Sun,Sun,Sun,Sun,Sun,Sun,Sun,Sun,Moon") UnknownName 256 260
unfolding tokens_from tokens_of faults checked_query query_of
the_65th_term_unknown = refl

the_33rd_name : Tells (codes "Sun($a),Sun($b),Sun($c),Sun($d),Sun($e),Sun($f),Sun($g),Sun($h),Sun($i),Sun($j),Sun($k),Sun($l),Sun($m),Sun($n),Sun($o),Sun($p),Sun($q),Sun($r),Sun($s),Sun($t),Sun($u),Sun($v),Sun($w),Sun($x),Sun($y),Sun($z),Sun($A),Sun($B),Sun($C),Sun($D),Sun($E),Sun($F),Sun($G)") TooManyVariables 260 262
unfolding tokens_from tokens_of faults checked_query query_of
the_33rd_name = refl

accepted-1 : Accepts (codes "Sun, Position")
unfolding tokens_from tokens_of faults checked_query query_of
accepted-1 = refl

accepted-2 : Accepts (codes "$x == Sun, Orbits($x)")
unfolding tokens_from tokens_of faults checked_query query_of
accepted-2 = refl

accepted-3 : Accepts (codes "(Orbits,$x), !Sun($x)")
unfolding tokens_from tokens_of faults checked_query query_of
accepted-3 = refl

accepted-4 : Accepts (codes "!{ (Orbits,$x) }, !{ (Orbits,$x) }")
unfolding tokens_from tokens_of faults checked_query query_of
accepted-4 = refl

accepted-5 : Accepts (codes "Position(self|up Orbits), ?Sun")
unfolding tokens_from tokens_of faults checked_query query_of
accepted-5 = refl

accepted-6 : Accepts (codes "(Orbits,$x) || Orbits($x, Sun)")
unfolding tokens_from tokens_of faults checked_query query_of
accepted-6 = refl

accepted-7 : Accepts (codes "!{ !{ !{ !{ Sun } } } }")
unfolding tokens_from tokens_of faults checked_query query_of
accepted-7 = refl

cascade_alone : Accepts (codes "Position(cascade Orbits)")
unfolding tokens_from tokens_of faults checked_query query_of
cascade_alone = refl

cascade_behind_self : Accepts (codes "Sun, Position(self|cascade(Orbits))")
unfolding tokens_from tokens_of faults checked_query query_of
cascade_behind_self = refl

cascade_behind_this : Accepts (codes "Position($this|self|cascade Orbits, $x), Sun($x)")
unfolding tokens_from tokens_of faults checked_query query_of
cascade_behind_this = refl

cascade_of_an_optional_term : Accepts (codes "?Position(cascade Orbits)")
unfolding tokens_from tokens_of faults checked_query query_of
cascade_of_an_optional_term = refl

cascade_of_an_alternative : Accepts (codes "Sun || Position(cascade Orbits)")
unfolding tokens_from tokens_of faults checked_query query_of
cascade_of_an_alternative = refl

cascade_in_a_group : Tells (codes "!{ Position(cascade Orbits) }") CascadePlace 12 19
unfolding tokens_from tokens_of faults checked_query query_of
cascade_in_a_group = refl

cascade_of_a_not_term : Tells (codes "!Position(cascade Orbits)") CascadePlace 10 17
unfolding tokens_from tokens_of faults checked_query query_of
cascade_of_a_not_term = refl

cascade_of_a_name : Tells (codes "Position(Sun|cascade Orbits)") CascadePlace 13 20
unfolding tokens_from tokens_of faults checked_query query_of
cascade_of_a_name = refl

cascade_of_a_variable : Tells (codes "Sun($x), Position($x|self|cascade Orbits)") CascadePlace 26 33
unfolding tokens_from tokens_of faults checked_query query_of
cascade_of_a_variable = refl

a_second_cascade : Tells (codes "Position(cascade Orbits), Sun(up Orbits), Sun(cascade Orbits)") CascadePlace 46 53
unfolding tokens_from tokens_of faults checked_query query_of
a_second_cascade = refl

a_second_cascade_in_one_chain : Tells (codes "Position(cascade Orbits) || Sun(cascade Orbits)") CascadePlace 32 39
unfolding tokens_from tokens_of faults checked_query query_of
a_second_cascade_in_one_chain = refl

cascade_along_what_is_not_traversable : Tells (codes "Position(cascade Sun)") NotTraversable 17 20
unfolding tokens_from tokens_of faults checked_query query_of
cascade_along_what_is_not_traversable = refl

a_misplaced_cascade_before_its_relationship : Tells (codes "!Position(cascade Sun)") CascadePlace 10 17
unfolding tokens_from tokens_of faults checked_query query_of
a_misplaced_cascade_before_its_relationship = refl

cascade_along_a_wildcard : Tells (codes "Position(cascade *)") Syntax 17 18
unfolding tokens_from tokens_of faults checked_query query_of
cascade_along_a_wildcard = refl

cascade_as_a_component : Tells (codes "cascade") Syntax 0 7
unfolding tokens_from tokens_of faults checked_query query_of
cascade_as_a_component = refl

cascade_before_self : Tells (codes "Position(cascade|self)") Syntax 16 17
unfolding tokens_from tokens_of faults checked_query query_of
cascade_before_self = refl

a_monitor_without_this : TellsOf monitored (codes "Sun($x)") NoThis 0 7
unfolding tokens_from tokens_of faults checked_query query_of
a_monitor_without_this = refl

an_event_without_this : TellsOf observed (codes "Sun(Sun)") NoThis 0 8
unfolding tokens_from tokens_of faults checked_query query_of
an_event_without_this = refl

an_event_of_two_terms : TellsOf observed (codes "Sun, Position") NotOneTerm 0 13
unfolding tokens_from tokens_of faults checked_query query_of
an_event_of_two_terms = refl

an_event_of_a_not_term : TellsOf observed (codes "!Sun") NotOneTerm 0 4
unfolding tokens_from tokens_of faults checked_query query_of
an_event_of_a_not_term = refl

an_event_with_a_variable : TellsOf observed (codes "(Orbits,$x)") NotOneTerm 0 11
unfolding tokens_from tokens_of faults checked_query query_of
an_event_with_a_variable = refl

an_event_of_ancestors : TellsOf observed (codes "Sun(self|up)") NotOneTerm 0 12
unfolding tokens_from tokens_of faults checked_query query_of
an_event_of_ancestors = refl

a_monitor_of_a_group : AcceptsAs monitored (codes "!{ Sun }")
unfolding tokens_from tokens_of faults checked_query query_of
a_monitor_of_a_group = refl

an_event_of_any_pair : AcceptsAs observed (codes "[none] (*, _)")
unfolding tokens_from tokens_of faults checked_query query_of
an_event_of_any_pair = refl

an_event_with_self : AcceptsAs observed (codes "Sun($this|self)")
unfolding tokens_from tokens_of faults checked_query query_of
an_event_with_self = refl

an_event_of_a_closed_term : AcceptsAs observed (codes "(Orbits, Sun)")
unfolding tokens_from tokens_of faults checked_query query_of
an_event_of_a_closed_term = refl
