-- A refused line changes nothing.
use Rattle.std.specs.Prelude.{◌≡◌, ℕ, List, IsTrue, Option, Some, None, Result, Ok, Err}
use Rattle.std.proofs.Common.{refl, sym, true≢false}
use Rattle.ecs_id.specs.declared.EntityId.{EntityId}
use Rattle.query_model.specs.declared.faults.Fault.{Fault}
use Rattle.ecs_model.specs.declared.faults.Refusal.{Refusal}
use Rattle.ecs_model.specs.declared.faults.SchemaFault.{SchemaFault}
use Rattle.ecs_model.specs.Schema.{Schema, schema_fault}
use Rattle.query_model.specs.Query.{Query}
use Rattle.ecs_model.specs.Query.{query_of}
use Rattle.ecs_model.specs.Orders.{MakeComponent, entity_found}
use Rattle.ecs_model.specs.stored.Session.{SessionState, SessionOrder, InWorld, Answer, apply, kept_query}
use Rattle.ecs_model.specs.declared.faults.SessionRefusal.{SessionRefusal}
use Rattle.ecs_model.specs.Script.{Nothing, LongLine, BadLine, CarryOut, Define, Show, Ask, AskKept}
use Rattle.ecs_model.specs.Output.{Effect, order_effect, define_effect, show_effect, ask_effect, kept_effect, effect_of}
use Rattle.ecs_model.specs.LineLaws.{RefusedLinesChangeNothing}

-- the line is accepted, or leaves the session as it was
abbrev IsStill : SessionState → Effect → Type 0
IsStill s e = IsTrue e.refused → e.session ≡ s

of_order : (s : SessionState) (n : ℕ) (order : SessionOrder) (r : Answer) → IsStill s (order_effect s n order r)
of_order s n order (Err r) h = refl
of_order s n order (Ok a) h = absurd (true≢false (sym h))

of_define : (s : SessionState) (n : ℕ) (name : List ℕ) (fs : Schema) (o : Option SchemaFault) → IsStill s (define_effect s n name fs o)
of_define s n name fs (Some f) h = refl
of_define s n name fs None h = of_order s n (InWorld (MakeComponent name fs)) (apply s (InWorld (MakeComponent name fs))) h

of_show : (s : SessionState) (n : ℕ) (r : Result EntityId Refusal) → IsStill s (show_effect s n r)
of_show s n (Err r) h = refl
of_show s n (Ok e) h = refl

of_ask : (s : SessionState) (n : ℕ) (r : Result Query Fault) → IsStill s (ask_effect s n r)
of_ask s n (Err f) h = refl
of_ask s n (Ok q) h = refl

of_kept : (s : SessionState) (n : ℕ) (r : Result Query SessionRefusal) → IsStill s (kept_effect s n r)
of_kept s n (Err r) h = refl
of_kept s n (Ok q) h = refl

pub refused_lines_change_nothing : RefusedLinesChangeNothing
unfolding effect_of
refused_lines_change_nothing s n Nothing h = refl
refused_lines_change_nothing s n LongLine h = refl
refused_lines_change_nothing s n BadLine h = refl
refused_lines_change_nothing s n (CarryOut order) h = of_order s n order (apply s order) h
refused_lines_change_nothing s n (Define name fs) h = of_define s n name fs (schema_fault fs) h
refused_lines_change_nothing s n (Show r) h = of_show s n (entity_found s.world r) h
refused_lines_change_nothing s n (Ask text) h = of_ask s n (query_of s.world text) h
refused_lines_change_nothing s n (AskKept name) h = of_kept s n (kept_query s name) h
