-- Whether events wait, in a session and in that of the definitions which it is.
use Rattle.std.proofs.Common.{◌≡◌, ℕ, Bool, true≢false, false, List, [], Option, None, Some, Result, Ok, Err, refl, sym, ◌∙◌, ap}
use Rattle.std.specs.Prelude.{OnOk, IfOk, option_map, is_some}
use Rattle.std.specs.Option.{option_map_or}
use Rattle.std.specs.declared.alloc.AllocError.{AllocError}
use Rattle.std.proofs.lemmas.Option.{none-some}
use Rattle.query_model.specs.declared.faults.Fault.{Fault}
use Rattle.query_model.specs.Query.{Query}
use Rattle.ecs_id.specs.declared.EntityId.{EntityId}
use Rattle.ecs_model.specs.declared.faults.Refusal.{Refusal}
use Rattle.ecs_model.specs.declared.faults.SchemaFault.{SchemaFault}
use Rattle.ecs_model.specs.declared.faults.SessionRefusal.{SessionRefusal}
use Rattle.ecs_model.specs.Orders.{MakeComponent, entity_found}
use Rattle.ecs_model.specs.Query.{query_of}
use Rattle.ecs_model.specs.Schema.{Schema, schema_fault}
use Rattle.ecs_model.specs.Script.{Form, Nothing, LongLine, BadLine, CarryOut, Define, Show, Ask, AskKept, form_of}
use Rattle.ecs_model.specs.Output.{effect_of, order_effect, define_effect, show_effect, ask_effect, kept_effect}
use Rattle.ecs_model.specs.stored.Session.{Answer, InWorld, SessionOrder, SessionState, after_events, apply, events, first_session, kept_query}
use Rattle.ecs_observe.specs.Standing.{Standing, session_of}
use Rattle.world_script.specs.Run.{IsDone, line_effect}

-- there is none
pub none_of : {T : Type 0} (o : Option T) → is_some o ≡ false → o ≡ None
none_of None e = refl
none_of (Some x) e = absurd (true≢false e)

none_made : {A B : Type 0} (f : A → B) (o : Option A) → option_map f o ≡ None → o ≡ None
none_made f None e = refl
none_made f (Some x) e = absurd (none-some (f x) (sym e))

-- ---- a session, and that of the definitions

pub waits-none : (s : Standing) → s.waiting ≡ None → (session_of s).waiting ≡ None
unfolding session_of
waits-none s e = ap (option_map _) e

pub none-waits : (s : Standing) → (session_of s).waiting ≡ None → s.waiting ≡ None
unfolding session_of
none-waits s e = none_made _ s.waiting e

-- in the first session no events wait
pub none_waits-first : (s : Standing) → session_of s ≡ first_session → s.waiting ≡ None
none_waits-first s e = none-waits s (ap (λ t. t.waiting) e)

-- ---- no events are delivered where none wait

events-none : (s : SessionState) → s.waiting ≡ None → events s ≡ []
events-none s e = ap (λ o. option_map_or (λ es. es) o []) e

after_events-none : (s : SessionState) → s.waiting ≡ None → s ≡ after_events s
after_events-none s e = ap (λ o. record s { waiting = o }) e

pub no_events : (s : Standing) → is_some s.waiting ≡ false → events (session_of s) ≡ []
no_events s none = events-none (session_of s) (waits-none s (none_of s.waiting none))

pub as_after_events : (s : Standing) → is_some s.waiting ≡ false → session_of s ≡ after_events (session_of s)
as_after_events s none = after_events-none (session_of s) (waits-none s (none_of s.waiting none))

-- ---- no events wait after a line

module _ (s : SessionState) (n : ℕ) (none : s.waiting ≡ None) where
  behind_order : (order : SessionOrder) (answer : Answer) → (order_effect s n order answer).session.waiting ≡ None
  behind_order order (Err reason) = none
  behind_order order (Ok a) = refl

  behind_component : (name : List ℕ) (fields : Schema) (fault : Option SchemaFault) → (define_effect s n name fields fault).session.waiting ≡ None
  behind_component name fields (Some fault) = none
  behind_component name fields None = let order = InWorld (MakeComponent name fields) in behind_order order (apply s order)

  behind_show : (found : Result EntityId Refusal) → (show_effect s n found).session.waiting ≡ None
  behind_show (Err reason) = none
  behind_show (Ok e) = none

  behind_query : (asked : Result Query Fault) → (ask_effect s n asked).session.waiting ≡ None
  behind_query (Err fault) = none
  behind_query (Ok q) = none

  behind_rows : (kept : Result Query SessionRefusal) → (kept_effect s n kept).session.waiting ≡ None
  behind_rows (Err reason) = none
  behind_rows (Ok q) = none

  behind_form : (form : Form) → (effect_of s n form).session.waiting ≡ None
  unfolding effect_of
  behind_form Nothing = none
  behind_form LongLine = none
  behind_form BadLine = none
  behind_form (CarryOut order) = behind_order order (apply s order)
  behind_form (Define name fields) = behind_component name fields (schema_fault fields)
  behind_form (Show r) = behind_show (entity_found s.world r)
  behind_form (Ask text) = behind_query (query_of s.world text)
  behind_form (AskKept name) = behind_rows (kept_query s name)

-- a line that was run where none waited
pub none_waits-line : (r : Result Bool AllocError) (old new : Standing) (n : ℕ) (line before after : List ℕ) → old.waiting ≡ None
    → IfOk r (IsDone (line_effect (session_of old) n line) (session_of new) before after) → OnOk r (new.waiting ≡ None)
none_waits-line (Ok refused) old new n line before after none done =
    none-waits new (ap (λ s. s.waiting) done.session_left ∙ behind_form (session_of old) n (waits-none old none) (form_of line))
none_waits-line (Err e) old new n line before after none done = tt
