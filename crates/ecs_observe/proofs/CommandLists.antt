-- What commands one after another leave.
use Rattle.std.specs.Prelude.{◌≡◌, ℕ, ◌+◌, ◌<◌, true, false, List, [], ◌++◌, All, flat_map, length, map, take}
use Rattle.std.specs.Prelude.{Option, None, Some, is_some, option_map, Result, Ok, Err, OnErr, OnOk, is_err}
use Rattle.std.specs.Option.{option_map_or}
use Rattle.std.proofs.Common.{ap, append-nil, get_or, inl, inr, refl, subst, sym, true≢false, ◌∙◌}
use Rattle.std.proofs.lemmas.List.{get_or-map, length-map}
use Rattle.std.proofs.lemmas.List.Sums.{fold_more}
use Rattle.ecs_id.specs.declared.EntityId.{EntityId}
use Rattle.ecs_model.specs.stored.Session.{Drop, InWorld, SessionOrder, SessionState, Store, after_events, apply, events}
use Rattle.ecs_model.specs.stored.Watches.{event_text}
use Rattle.ecs_observe.specs.Answers.{AnswersApply}
use Rattle.ecs_observe.specs.Batches.{IsOfWorld, StopsAt, Written, all_applied, delivered, delivered_if_accepted, one_more}
use Rattle.ecs_observe.specs.Commands.{ListsApply, order_of}
use Rattle.ecs_observe.specs.Following.{lists_of}
use Rattle.ecs_observe.specs.Standing.{Standing, session_of}
use Rattle.ecs_observe.specs.declared.applying.Answer.{Answer as CommandAnswer}
use Rattle.ecs_observe.specs.declared.applying.Command.{Command}
use Rattle.ecs_observe.specs.declared.errors.SessionError.{SessionError}
use Rattle.ecs_observe.specs.declared.errors.SessionError.TheVariants.{Refused, Memory}
use Rattle.watch_stored.specs.Held.{Held}

-- ---- one command more
module _ {A : Type 0} (before : Written) (commands : List (Command A)) (i : ℕ) (command : Command A) (within : i < length commands)
    (here : command ≡ get_or commands i command) (s : SessionState) (lines : List ℕ)
    (so_far : all_applied before (take i (map order_of commands)) ≡ Ok (s, lines)) where
  -- with the next command
  applied_more : all_applied before (take (i + 1) (map order_of commands)) ≡ delivered_if_accepted lines (apply s (order_of command))
  applied_more =
      let orders = map order_of commands in
      let few : i < length orders = rw length-map within in
      fold_more one_more (Ok before) orders i (order_of command) few
      ∙ (ap (λ r. one_more r (get_or orders i (order_of command))) so_far
      ∙ ap (λ o. delivered_if_accepted lines (apply s o)) (get_or-map order_of commands i command (order_of command) within ∙ ap order_of (sym here)))

  -- it was carried out
  accepted : (born : Option EntityId) (t : SessionState) → apply s (order_of command) ≡ Ok (t, born)
      → all_applied before (take (i + 1) (map order_of commands)) ≡ Ok (delivered (t, lines))
  accepted born t e = applied_more ∙ ap (delivered_if_accepted lines) e

  -- and its events were delivered
  pub one_more_told : (born : Option EntityId) (mid new : Standing) (after : List ℕ) → apply s (order_of command) ≡ Ok (session_of mid, born)
      → session_of new ≡ after_events (session_of mid) → after ≡ lines ++ flat_map event_text (events (session_of mid))
      → all_applied before (take (i + 1) (map order_of commands)) ≡ Ok (session_of new, after)
  one_more_told born mid new after e left told =
      accepted born (session_of mid) e ∙ ap Ok (ap (λ t. (t, lines ++ flat_map event_text (events (session_of mid)))) (sym left) ∙ ap (λ ls. (session_of new, ls)) (sym told))

  -- or they wait
  pub one_more_waits : (born : Option EntityId) (mid new : Standing) (after : List ℕ) → apply s (order_of command) ≡ Ok (session_of mid, born) → new ≡ mid
      → after ≡ lines → StopsAt (i + 1) Memory (map order_of commands) before (session_of new, after)
  one_more_waits born mid new after e same untold =
      inr (accepted born (session_of mid) e ∙ ap Ok (ap (λ (t : Standing). delivered (session_of t, lines)) (sym same) ∙ ap (λ ls. delivered (session_of new, ls)) (sym untold)))

  -- it wasn't
  pub stops_here : (error : SessionError) (old new : Standing) → session_of old ≡ s
      → AnswersApply (Err error) (apply s (order_of command)) old new → StopsAt i error (map order_of commands) before (session_of new, lines)
  stops_here (Refused reason) old new from h =
      let same : (s, lines) ≡ (session_of new, lines) = ap (λ t. (t, lines)) (sym from ∙ sym h.1) in
      (so_far ∙ ap Ok same, applied_more ∙ ap (delivered_if_accepted lines) h.0)
  stops_here Memory old new from h =
      let same : (s, lines) ≡ (session_of new, lines) = ap (λ t. (t, lines)) (sym from ∙ sym h) in
      inl (so_far ∙ ap Ok same)

-- ---- what a call for a command and one for its events answer together
module _ {T E : Type 0} where
  pub of_done : {P : Type 0} (r : Result T E) → is_err r ≡ false → OnOk r P → P
  of_done (Ok x) e h = h
  of_done (Err x) e h = absurd (true≢false e)

  pub of_refused : {P : Type 0} (r : Result T E) → is_err r ≡ true → OnErr r P → P
  of_refused (Ok x) e h = absurd (true≢false (sym e))
  of_refused (Err x) e h = h

-- no events wait
none_of : {T : Type 0} (o : Option T) → is_some o ≡ false → o ≡ None
none_of None e = refl
none_of (Some x) e = absurd (true≢false e)

waits_none : (s : Standing) → is_some s.waiting ≡ false → (session_of s).waiting ≡ None
unfolding session_of
waits_none s e = ap (option_map _) (none_of s.waiting e)

pub nothing_told : (s : Standing) (lines : List ℕ) → is_some s.waiting ≡ false → lines ≡ lines ++ flat_map event_text (events (session_of s))
nothing_told s lines e = sym (ap (λ o. lines ++ flat_map event_text (option_map_or (λ es. es) o [])) (waits_none s e) ∙ append-nil lines)

pub nothing_left : (s : Standing) → is_some s.waiting ≡ false → session_of s ≡ after_events (session_of s)
nothing_left s e = ap (λ o. record (session_of s) { waiting = o }) (waits_none s e)

-- ---- the lists of kept queries
-- they stay where nothing is done
pub lists_apply_none : (order : SessionOrder) (error : SessionError) (s : Standing) → ListsApply {T = CommandAnswer} order (Err error) s s
lists_apply_none (InWorld order) error s = refl
lists_apply_none (Store kind n text) error s = (refl, refl)
lists_apply_none (Drop n) error s = (refl, refl)

-- and where a command of the world is carried out
pub lists_stay : {T E : Type 0} (order : SessionOrder) (r : Result T E) (old new : Standing) → IsOfWorld order → ListsApply order r old new
    → lists_of new ≡ lists_of old
lists_stay (InWorld order) r old new of_world h = ap (map (λ (held : Held). (held.name, held.list, held.steps, held.planned_at))) h
lists_stay (Store kind n text) r old new of_world h = absurd of_world
lists_stay (Drop n) r old new of_world h = absurd of_world

-- one of some commands of the world is one
pub one_of_world : {A : Type 0} (commands : List (Command A)) (i : ℕ) (command : Command A) → i < length commands → command ≡ get_or commands i command
    → All IsOfWorld (map order_of commands) → IsOfWorld (order_of command)
one_of_world commands i command within here all =
    let few : i < length (map order_of commands) = rw length-map within in
    let same : get_or (map order_of commands) i (order_of command) ≡ order_of command =
    get_or-map order_of commands i command (order_of command) within ∙ ap order_of (sym here) in
    subst IsOfWorld same (all i (order_of command) few)
