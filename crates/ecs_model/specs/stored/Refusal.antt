-- Why a command of a session with stored queries is refused.
use Rattle.std.specs.Prelude.{ℕ, List, codes}
use Rattle.ecs_model.specs.declared.faults.SessionRefusal.{SessionRefusal}
use Rattle.ecs_model.specs.declared.faults.SessionRefusal.TheVariants.{OfWorld, EventsPending, UnknownQuery, QueryTaken, TooManyStored, Faulty}
use Rattle.ecs_model.specs.Refusal.{refusal_text}
use Rattle.ecs_model.specs.Print.{fault_text}

-- the word of a refusal; of a query's fault its kind and its span
abbrev pub session_refusal_text : SessionRefusal → List ℕ
session_refusal_text (OfWorld r) = refusal_text r
session_refusal_text EventsPending = codes "EventsPending"
session_refusal_text UnknownQuery = codes "UnknownQuery"
session_refusal_text QueryTaken = codes "QueryTaken"
session_refusal_text TooManyStored = codes "TooManyStored"
session_refusal_text (Faulty f) = fault_text f
