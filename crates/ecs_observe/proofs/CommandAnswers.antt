-- What commands leave of a session, and how they answer.
use Rattle.std.specs.Prelude.{◌≡◌, Bool, true, false, All, map, flat_map, Option, None, Some, is_some, option_map, Result, Ok, Err, IfSome, if◌then◌else◌}
use Rattle.std.specs.List.{list_any}
use Rattle.std.proofs.Common.{refl, ap, sym, subst, ◌∙◌, arith}
use Rattle.ecs_id.specs.declared.EntityId.{EntityId}
use Rattle.ecs_model.specs.declared.faults.CommandError.{CommandError}
use Rattle.ecs_model.specs.declared.faults.CommandError.TheVariants as world
use Rattle.ecs_model.specs.declared.faults.SessionRefusal.TheVariants.{EventsPending}
use Rattle.ecs_model.specs.steps.Outcomes.{AnswersStep, Changed}
use Rattle.ecs_model.specs.Map.{count_at}
use Rattle.ecs_model.specs.World.{WorldState}
use Rattle.ecs_model.specs.stored.Session.{in_world, world_answer}
use Rattle.ecs_model.specs.stored.Watches.{is_told, is_watch, told}
use Rattle.ecs_model.specs.steps.Step.{Command, step}
use Rattle.ecs_model.specs.steps.WellFormed.{IsWellFormed}
use Rattle.ecs_world.specs.Standing as store
use Rattle.query_meaning.proofs.StandingQueries.{steps_keep_pins, steps_keep_queries_current}
use Rattle.watch_touched.proofs.UnconcernedCommands.{queries_matched_before}
use Rattle.watch_concerns.specs.Since.{IsAfter}
use Rattle.ecs_observe.specs.Answers.{AnswersApply, AnswersCommand, awaited, carried_out}
use Rattle.watch_stored.specs.Held.{IsHeld, IsNow, WasNow, told_to}
use Rattle.ecs_observe.specs.Standing.{IsSession, Standing, session_of, stored_of}
use Rattle.ecs_observe.specs.declared.errors.SessionError.{SessionError}
use Rattle.ecs_observe.specs.declared.errors.SessionError.TheVariants.{Refused}
use Rattle.ecs_observe.proofs.PinnedCounts.{all_pinned}
use Rattle.ecs_observe.proofs.Tellings.{any_watch, none_now, told_all}

-- whether something waits is seen of the session
waits : (s : Standing) → is_some (session_of s).waiting ≡ is_some s.waiting
unfolding session_of
waits s = by s.waiting
  where
    by : (o : Option Changed) → is_some (option_map (λ changed. flat_map (told_to (s.world).state changed) s.stored) o) ≡ is_some o
    by None = refl
    by (Some changed) = refl

-- a command is refused while events wait
pub pending : (s : Standing) (c : Command) → is_some s.waiting ≡ true → AnswersApply (Err (Refused EventsPending)) (carried_out (session_of s) c) s s
pending s c waiting = (ap (λ b. if b then Err EventsPending else in_world (session_of s) (Ok c)) (waits s ∙ waiting), refl)

-- and else the world carries it out
free : (s : Standing) (c : Command) → is_some s.waiting ≡ false → carried_out (session_of s) c ≡ world_answer (session_of s) (step (s.world).state c)
unfolding session_of
free s c none = ap (λ b. if b then Err EventsPending else in_world (session_of s) (Ok c)) (waits s ∙ none)

-- the session whose world stands so, and where this waits
abbrev pub left_by : Standing → store.Standing → Option Changed → Standing
left_by s v waiting = record { world = v; stored = s.stored; waiting = waiting; compared = s.compared }

module _ (s : Standing) (session : IsSession s) (none : is_some s.waiting ≡ false) where
  pub none_waits : s.waiting ≡ None
  none_waits = by s.waiting none
    where
      by : (o : Option Changed) → is_some o ≡ false → o ≡ None
      by None e = refl
      by (Some x) e = cc

  all_now : All (IsNow (s.world).state) s.stored
  all_now = session.now none_waits

  -- ---- an accepted command
  module _ (v : store.Standing) (c : Command) (changed : Changed) (kept : IsWellFormed (s.world).state) (stepped : step (s.world).state c ≡ Ok (v.state, changed)) where
    still_held : All (IsHeld v.state) s.stored
    still_held = λ k d l.
        let pinned = all_pinned (s.world).state s.stored (λ i. omega (arith, session.pinned i)) k d l in
        let held = session.held k d l in
        record { current = steps_keep_queries_current (s.world).state v.state c changed _ kept stepped pinned held.current; fit = held.fit; ascends = held.ascends }

    still_now : (b : Bool) → list_any (λ h. is_told h.kind) s.stored ≡ b → (if b then Some changed else None) ≡ None → All (IsNow v.state) s.stored
    still_now true e waiting = cc
    still_now false e waiting = none_now v.state s.stored e

    is_after : (b : Bool) → IfSome (if b then Some changed else None) (IsAfter v.state)
    is_after true = record { before = (s.world).state; command = c; kept = kept; stepped = stepped }
    is_after false = tt

    -- what monitors were notified of before the command
    was_now : All (WasNow v.state changed) s.stored
    was_now = λ k d l m other. all_now k d l m other ∙ sym (queries_matched_before (s.world).state v.state c changed _ kept stepped)

    is_before : (b : Bool) → IfSome (if b then Some changed else None) (λ done. All (WasNow v.state done) s.stored)
    is_before true = was_now
    is_before false = tt

    pub accepted_session : IsSession (left_by s v (awaited s.stored changed))
    accepted_session = record {
      held = still_held;
      pinned = λ i. ap (λ pins. count_at pins i) (steps_keep_pins (s.world).state v.state c changed stepped) ∙ session.pinned i;
      few = session.few;
      once = session.once;
      now = still_now (list_any (λ h. is_told h.kind) s.stored) refl;
      after = is_after (list_any (λ h. is_told h.kind) s.stored);
      before = is_before (list_any (λ h. is_told h.kind) s.stored);
    }

    waiting_same : (b : Bool)
        → (if b then Some (flat_map (told (s.world).state v.state changed) (map stored_of s.stored)) else None)
        ≡ option_map (λ done. flat_map (told_to v.state done) s.stored) (if b then Some changed else None)
    waiting_same true = ap Some (told_all (s.world).state v.state c changed kept stepped s.stored all_now)
    waiting_same false = refl

    waiting_then : (if list_any is_watch (map stored_of s.stored) then Some (flat_map (told (s.world).state v.state changed) (map stored_of s.stored)) else None)
        ≡ option_map (λ done. flat_map (told_to v.state done) s.stored) (awaited s.stored changed)
    waiting_then =
        ap (λ b. if b then Some (flat_map (told (s.world).state v.state changed) (map stored_of s.stored)) else None) (any_watch s.stored)
        ∙ waiting_same (list_any (λ h. is_told h.kind) s.stored)

    pub accepted_answer : carried_out (session_of s) c ≡ Ok (session_of (left_by s v (awaited s.stored changed)), changed.born)
    unfolding session_of
    accepted_answer =
        free s c none
        ∙ (ap (world_answer (session_of s)) stepped
        ∙ ap (λ waiting. Ok (record { world = v.state; stored = map stored_of s.stored; waiting = waiting }, changed.born)) waiting_then)

  -- ---- a refused one
  module _ (v : store.Standing) (same : v.state ≡ (s.world).state) where
    pub refused_session : IsSession (left_by s v s.waiting)
    refused_session =
        let after : IfSome s.waiting (IsAfter v.state) = subst (λ w. IfSome s.waiting (IsAfter w)) (sym same) session.after in
        let before : IfSome s.waiting (λ changed. All (WasNow v.state changed) s.stored)
        = subst (λ w. IfSome s.waiting (λ changed. All (WasNow w changed) s.stored)) (sym same) session.before in
        let now : s.waiting ≡ None → All (IsNow v.state) s.stored = λ e. subst (λ w. All (IsNow w) s.stored) (sym same) (session.now e) in
        record {
          held = subst (λ w. All (IsHeld w) s.stored) (sym same) session.held;
          pinned = λ i. ap (λ (w : WorldState). count_at w.pins i) same ∙ session.pinned i;
          few = session.few;
          once = session.once;
          now = now;
          after = after;
          before = before;
        }

    pub refused_state : session_of (left_by s v s.waiting) ≡ session_of s
    unfolding session_of
    refused_state = ap (λ w. record { world = w; stored = map stored_of s.stored; waiting = option_map (λ changed. flat_map (told_to w changed) s.stored) s.waiting }) same

  -- ---- whatever the world answers
  module _ (v : store.Standing) (c : Command) (kept : IsWellFormed (s.world).state) where
    pub session_after : (done : Result Changed CommandError) (answer : Result (Option EntityId) SessionError) (waiting : Option Changed)
        → AnswersStep done (step (s.world).state c) (s.world).state v.state → AnswersCommand s.stored s.waiting done answer waiting
        → IsSession (left_by s v waiting)
    session_after (Ok changed) answer waiting stepped told = subst (λ o. IsSession (left_by s v o)) (sym told.1) (accepted_session v c changed kept stepped)
    session_after (Err (world.Refused reason)) answer waiting stepped told = subst (λ o. IsSession (left_by s v o)) (sym told.1) (refused_session v stepped.1)
    session_after (Err world.Memory) answer waiting stepped told = subst (λ o. IsSession (left_by s v o)) (sym told.1) (refused_session v stepped)

    pub answer_after : (done : Result Changed CommandError) (answer : Result (Option EntityId) SessionError) (waiting : Option Changed)
        → AnswersStep done (step (s.world).state c) (s.world).state v.state → AnswersCommand s.stored s.waiting done answer waiting
        → AnswersApply answer (carried_out (session_of s) c) s (left_by s v waiting)
    answer_after (Ok changed) answer waiting stepped told =
        subst (λ o. AnswersApply answer (carried_out (session_of s) c) s (left_by s v o)) (sym told.1)
        (subst (λ a. AnswersApply a (carried_out (session_of s) c) s (left_by s v (awaited s.stored changed))) (sym told.0) (accepted_answer v c changed kept stepped))
    answer_after (Err (world.Refused reason)) answer waiting stepped told =
        subst (λ o. AnswersApply answer (carried_out (session_of s) c) s (left_by s v o)) (sym told.1)
        (subst (λ a. AnswersApply a (carried_out (session_of s) c) s (left_by s v s.waiting)) (sym told.0)
        (free s c none ∙ ap (world_answer (session_of s)) stepped.0, refused_state v stepped.1))
    answer_after (Err world.Memory) answer waiting stepped told =
        subst (λ o. AnswersApply answer (carried_out (session_of s) c) s (left_by s v o)) (sym told.1)
        (subst (λ a. AnswersApply a (carried_out (session_of s) c) s (left_by s v s.waiting)) (sym told.0) (refused_state v stepped))

-- ---- the same of a session as a call takes it
module _ (s now : Standing) (view_is : s ≡ now) (waits : Bool) (is_waiting : waits ≡ is_some now.waiting) where
  -- a command is refused while events wait
  pub pending_now : (c : Command) → waits ≡ true → AnswersApply (Err (Refused EventsPending)) (carried_out (session_of now) c) now now
  pending_now c true_now = pending now c (sym is_waiting ∙ true_now)

  module _ (session : IsSession s) (none : waits ≡ false) (v : store.Standing) (c : Command) (kept : IsWellFormed (s.world).state)
      (done : Result Changed CommandError) (answer : Result (Option EntityId) SessionError) (waiting : Option Changed)
      (stepped : AnswersStep done (step (s.world).state c) (s.world).state v.state) (told : AnswersCommand s.stored s.waiting done answer waiting) where
    none_then : is_some s.waiting ≡ false
    none_then = ap (λ (x : Standing). is_some x.waiting) view_is ∙ (sym is_waiting ∙ none)

    pub session_left : IsSession (left_by s v waiting)
    session_left = session_after s session none_then v c kept done answer waiting stepped told

    pub answer_left : AnswersApply answer (carried_out (session_of now) c) now (left_by s v waiting)
    answer_left =
        subst (λ x. AnswersApply answer (carried_out (session_of x) c) x (left_by s v waiting)) view_is
        (answer_after s session none_then v c kept done answer waiting stepped told)
