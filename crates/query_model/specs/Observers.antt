-- What the queries of monitors and of event observers must be besides.
use Rattle.std.specs.Prelude.{◌==◌, Bool, true, false, ◌&&◌, List, [], ◌∷◌, Option, is_none, Result, Ok, Err, if◌then◌else◌}
use Rattle.std.specs.Option.{option_map_or}
use Rattle.query_model.specs.declared.Span.{Span}
use Rattle.query_model.specs.declared.faults.Fault.{Fault}
use Rattle.query_model.specs.declared.faults.FaultKind.TheVariants.{NoThis, NotOneTerm}
use Rattle.query_model.specs.declared.query.Ref.{Ref}
use Rattle.query_model.specs.declared.query.Ref.TheVariants.{Is, Var, Any, AnyOnce}
use Rattle.query_model.specs.declared.query.Term.{Term}
use Rattle.query_model.specs.Faults.{fault_at}
use Rattle.query_model.specs.Query.{Piece, item, must, Query}

-- the whole text
abbrev pub whole : Query → Span
whole q = record { start = 0; end = q.length }

-- a reference besides variables
abbrev pub is_constant : Ref → Bool
is_constant (Is e) = true
is_constant (Var v) = false
is_constant Any = true
is_constant AnyOnce = true

abbrev pub is_constant_target : Option Ref → Bool
is_constant_target r = option_map_or is_constant r true

abbrev pub is_first : Ref → Bool
is_first (Var v) = v == 0
is_first r = false

-- whether a term asks the first variable itself, and names no other
abbrev pub asks_first_alone : Term → Bool
asks_first_alone t = is_first t.source && t.on_source && is_none t.up && is_constant t.component && is_constant_target t.target

-- one And term of that kind. The first variable is `$this`, where it occurs
abbrev pub is_one_term : List Piece → Bool
is_one_term (item (must t) ∷ []) = asks_first_alone t
is_one_term ps = false

-- the query of a monitor, which needs `$this`
abbrev pub monitored : Query → Result Query Fault
monitored q = if q.has_this then Ok q else Err (fault_at NoThis (whole q))

-- the query of an event observer, which also has one term of that kind
abbrev pub observed : Query → Result Query Fault
observed q = if q.has_this then (if is_one_term q.pieces then Ok q else Err (fault_at NotOneTerm (whole q))) else Err (fault_at NoThis (whole q))
