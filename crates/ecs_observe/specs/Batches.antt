-- Commands one after another, where the events of each are delivered before the next.
use Rattle.std.specs.Prelude.{◌≡◌, ◌⊎◌, ⊤, ℕ, ◌+◌, List, ◌++◌, flat_map, fold, take, Result, Ok, Err}
use Rattle.ecs_model.specs.declared.faults.SessionRefusal.{SessionRefusal}
use Rattle.ecs_model.specs.stored.Session.{Answer, InWorld, SessionOrder, SessionState, after_events, apply, events}
use Rattle.ecs_model.specs.stored.Watches.{event_text}
use Rattle.ecs_observe.specs.declared.errors.ApplyAllError.{ApplyAllError}
use Rattle.ecs_observe.specs.declared.errors.SessionError.{SessionError}
use Rattle.ecs_observe.specs.declared.errors.SessionError.TheVariants.{Refused, Memory}

-- a session, and what was written
abbrev pub Written : Type 0
Written = SessionState × List ℕ

-- the events that wait are delivered: their lines come behind what was written
abbrev pub delivered : Written → Written
delivered w = (after_events w.0, w.1 ++ flat_map event_text (events w.0))

-- an accepted command's events are delivered
abbrev pub delivered_if_accepted : List ℕ → Answer → Result Written SessionRefusal
delivered_if_accepted lines (Ok answer) = Ok (delivered (answer.0, lines))
delivered_if_accepted lines (Err reason) = Err reason

-- one command more: it is carried out unless one before it was refused
abbrev pub one_more : Result Written SessionRefusal → SessionOrder → Result Written SessionRefusal
one_more (Ok w) order = delivered_if_accepted w.1 (apply w.0 order)
one_more (Err reason) order = Err reason

-- all of them, one after another; or the reason of the first that is refused
abbrev pub all_applied : Written → List SessionOrder → Result Written SessionRefusal
all_applied before orders = fold one_more (Ok before) orders

-- the first so many were carried out, and with the next comes this refusal. Where memory was refused, the events of the
-- last that was carried out may still wait, and none of their lines is written
abbrev pub StopsAt : ℕ → SessionError → List SessionOrder → Written → Written → Type 0
StopsAt done (Refused reason) orders before after =
    (all_applied before (take done orders) ≡ Ok after) × (all_applied before (take (done + 1) orders) ≡ Err reason)
StopsAt done Memory orders before after =
    (all_applied before (take done orders) ≡ Ok after) ⊎ (all_applied before (take done orders) ≡ Ok (delivered after))

-- all were carried out, or the first so many
abbrev pub AnswersAll : {T : Type 0} → Result T ApplyAllError → List SessionOrder → Written → Written → Type 0
AnswersAll (Ok _) orders before after = all_applied before orders ≡ Ok after
AnswersAll (Err stop) orders before after = StopsAt stop.done stop.error orders before after

-- a command of the world: it stores and drops no query
abbrev pub IsOfWorld : SessionOrder → Type 0
IsOfWorld (InWorld order) = ⊤
IsOfWorld order = ⊥
