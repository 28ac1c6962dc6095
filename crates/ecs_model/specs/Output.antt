-- What a script prints.
use Rattle.std.specs.Prelude.{ℕ, ◌+◌, Bool, true, false, List, [], ◌∷◌, ◌++◌, flat_map, length, count_by, codes, decimal, Option, Some, None, Result, Ok, Err}
use Rattle.ecs_id.specs.declared.EntityId.{EntityId}
use Rattle.ecs_id.specs.Id.{Id}
use Rattle.query_model.specs.declared.faults.Fault.{Fault}
use Rattle.ecs_model.specs.declared.faults.Refusal.{Refusal}
use Rattle.ecs_model.specs.declared.faults.SchemaFault.{SchemaFault}
use Rattle.ecs_model.specs.Schema.{Schema, schema_fault}
use Rattle.ecs_model.specs.Refusal.{refusal_text, schema_fault_text}
use Rattle.ecs_model.specs.World.{WorldState, ids_of, value_of}
use Rattle.query_model.specs.Query.{Query}
use Rattle.ecs_model.specs.rows.Text.{rows_text}
use Rattle.ecs_model.specs.Query.{query_of}
use Rattle.ecs_model.specs.Print.{fault_text, handle_text, entity_text, id_text, value_text}
use Rattle.ecs_model.specs.Orders.{MakeFresh, MakeComponent, entity_found}
use Rattle.ecs_model.specs.stored.Refusal.{session_refusal_text}
use Rattle.ecs_model.specs.stored.Session.{SessionState, first_session, SessionOrder, InWorld, Answer, apply, events, after_events, kept_query}
use Rattle.ecs_model.specs.stored.Watches.{event_text}
use Rattle.ecs_model.specs.declared.faults.SessionRefusal.{SessionRefusal}
use Rattle.ecs_model.specs.Script.{Form, Nothing, LongLine, BadLine, CarryOut, Define, Show, Ask, AskKept, form_of, lines_of}

-- what a line does: the session after it, what it prints, and whether it was refused
pub record Effect : Type 0 where
  pub session : SessionState
  pub printed : List ℕ
  pub refused : Bool

-- `error LINE KIND`
abbrev pub refused_text : ℕ → List ℕ → List ℕ
refused_text n kind = codes "error " ++ decimal n ++ codes " " ++ kind ++ codes "\n"

-- a line that is refused changes nothing
abbrev pub refused_line : SessionState → ℕ → List ℕ → Effect
refused_line s n kind = record { session = s; printed = refused_text n kind; refused = true }

-- an accepted line, and what it prints
abbrev pub accepted_line : SessionState → List ℕ → Effect
accepted_line s text = record { session = s; printed = text; refused = false }

-- a fact: ` [ID=v,v]`, without a value ` [ID]`
abbrev pub fact_text : WorldState → ℕ → Id → List ℕ
fact_text w e i = codes " [" ++ id_text w i ++ value_text (value_of w e i) ++ codes "]"

-- the line of `show`: the entity and its facts in the order of ids
abbrev pub show_text : WorldState → EntityId → List ℕ
show_text w e = codes "show " ++ entity_text w e ++ flat_map (fact_text w e.index) (ids_of w e.index) ++ codes "\n"

-- what an accepted command prints itself: of `new` the entity born, and else nothing
abbrev pub own_text : SessionOrder → Option EntityId → List ℕ
own_text (InWorld MakeFresh) (Some e) = handle_text e ++ codes "\n"
own_text order born = []

-- what a line of a command does: its events are printed after what it prints itself
abbrev pub order_effect : SessionState → ℕ → SessionOrder → Answer → Effect
order_effect s n order (Err r) = refused_line s n (session_refusal_text r)
order_effect s n order (Ok a) = accepted_line (after_events a.0) (own_text order a.1 ++ flat_map event_text (events a.0))

-- what a line of a new component does: its fields are judged first
abbrev pub define_effect : SessionState → ℕ → List ℕ → Schema → Option SchemaFault → Effect
define_effect s n name fs (Some f) = refused_line s n (schema_fault_text f)
define_effect s n name fs None = let order = InWorld (MakeComponent name fs) in order_effect s n order (apply s order)

-- what a line of `show` does
abbrev pub show_effect : SessionState → ℕ → Result EntityId Refusal → Effect
show_effect s n (Err r) = refused_line s n (refusal_text r)
show_effect s n (Ok e) = accepted_line s (show_text s.world e)

-- what a line of a query does
abbrev pub ask_effect : SessionState → ℕ → Result Query Fault → Effect
ask_effect s n (Err f) = refused_line s n (fault_text f)
ask_effect s n (Ok q) = accepted_line s (rows_text s.world q)

-- what a line of a kept query does
abbrev pub kept_effect : SessionState → ℕ → Result Query SessionRefusal → Effect
kept_effect s n (Err r) = refused_line s n (session_refusal_text r)
kept_effect s n (Ok q) = accepted_line s (rows_text s.world q)

-- what a line of this form does
unfoldable pub effect_of : SessionState → ℕ → Form → Effect
effect_of s n Nothing = accepted_line s []
effect_of s n LongLine = refused_line s n (codes "LineTooLong")
effect_of s n BadLine = refused_line s n (codes "BadLine")
effect_of s n (CarryOut order) = order_effect s n order (apply s order)
effect_of s n (Define name fs) = define_effect s n name fs (schema_fault fs)
effect_of s n (Show r) = show_effect s n (entity_found s.world r)
effect_of s n (Ask text) = ask_effect s n (query_of s.world text)
effect_of s n (AskKept name) = kept_effect s n (kept_query s name)

-- what is done in a row by lines under their numbers
abbrev pub effects : (SessionState → ℕ → List ℕ → Effect) → SessionState → ℕ → List (List ℕ) → List Effect
effects line_effect s n [] = []
effects line_effect s n (l ∷ ls) = let e = line_effect s n l in e ∷ effects line_effect e.session (n + 1) ls

-- what a script does, line by line, from the first session
unfoldable pub effects_of : List ℕ → List Effect
effects_of script = effects (λ s n l. effect_of s n (form_of l)) first_session 1 (lines_of script)

-- what it prints
abbrev pub output_of : List ℕ → List ℕ
output_of script = flat_map (λ e. e.printed) (effects_of script)

-- how many lines it has, and how many are refused
abbrev pub count_of : List ℕ → ℕ × ℕ
count_of script = (length (effects_of script), count_by (λ e. e.refused) (effects_of script))
