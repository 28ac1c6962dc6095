-- The faults of query text, and which of several is reported.
use Rattle.std.specs.Prelude.{ℕ, ◌==◌, Bool, ◌&&◌, ◌||◌, List, fold, nat_lt, Option, Some, Result, Ok, Err, if◌then◌else◌}
use Rattle.std.specs.Option.{option_map_or}
use Rattle.query_model.specs.declared.Span.{Span}
use Rattle.query_model.specs.declared.faults.Fault.{Fault}
use Rattle.query_model.specs.declared.faults.FaultKind.{FaultKind}
use Rattle.query_model.specs.declared.faults.FaultKind.TheVariants.{Lex, Syntax, UnknownName, NotTraversable, UnboundVariable, WildcardSource, WildcardEquality, TooManyTerms, TooManyVariables, TooDeep, NoThis, NotOneTerm, CascadePlace}

-- the number of a kind of fault
abbrev pub kind_number : FaultKind → ℕ
kind_number Lex = 1
kind_number Syntax = 2
kind_number UnknownName = 3
kind_number NotTraversable = 4
kind_number UnboundVariable = 5
kind_number WildcardSource = 6
kind_number WildcardEquality = 7
kind_number TooManyTerms = 8
kind_number TooManyVariables = 9
kind_number TooDeep = 10
kind_number NoThis = 11
kind_number NotOneTerm = 12
kind_number CascadePlace = 13

abbrev pub fault_at : FaultKind → Span → Fault
fault_at kind span = record { kind = kind; span = span }

-- whether the first fault starts before the second, or there with a smaller number
abbrev pub is_before : Fault → Fault → Bool
is_before f g = nat_lt (f.span).start (g.span).start || (f.span).start == (g.span).start && nat_lt (kind_number f.kind) (kind_number g.kind)

-- the lesser of the fault that was found and another
abbrev pub lesser : Option Fault → Fault → Option Fault
lesser found f = Some (option_map_or (λ g. if is_before f g then f else g) found f)

-- the least fault of a list and the one that was found before
abbrev pub least_from : Option Fault → List Fault → Option Fault
least_from found fs = fold lesser found fs

-- a span as a fault of this kind
abbrev pub as_fault : {A : Type 0} → FaultKind → Result A Span → Result A Fault
as_fault kind (Ok a) = Ok a
as_fault kind (Err span) = Err (fault_at kind span)
