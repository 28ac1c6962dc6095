-- From what a session answers to a command to what a stepper does.
use Rattle.std.proofs.Common.{◌≡◌, Option, None, Result, Ok, Err, inl, inr, refl, sym, ◌∙◌, ap, subst}
use Rattle.std.specs.Prelude.{OnErr, OnOk, is_some, if◌then◌else◌}
use Rattle.ecs_id.specs.declared.EntityId.{EntityId}
use Rattle.ecs_model.specs.declared.faults.SessionRefusal.TheVariants.{EventsPending}
use Rattle.ecs_model.specs.steps.Step.{Command}
use Rattle.ecs_model.specs.stored.Session.{SessionState, after_events, in_world}
use Rattle.ecs_observe.specs.Answers.{AnswersApply, carried_out}
use Rattle.ecs_observe.specs.Standing.{Standing, session_of}
use Rattle.ecs_observe.specs.declared.errors.SessionError.{SessionError}
use Rattle.ecs_observe.specs.declared.errors.SessionError.TheVariants.{Memory, Refused}
use Rattle.world_script.specs.Commanding.{Commands, TellsPrinted, told}
use Rattle.world_script.specs.Stepping.{Stepping}
use Rattle.world_script.proofs.WaitingEvents.{none-waits, waits-none}

-- where no events wait, a command goes to the world
carried_free : (s : SessionState) (command : Command) → s.waiting ≡ None → carried_out s command ≡ in_world s (Ok command)
carried_free s command none = ap (λ o. if is_some o then Err EventsPending else in_world s (Ok command)) none

-- the world of a session is that of the definitions
pub world_of : (s : Standing) → (session_of s).world ≡ (s.world).state
unfolding session_of
world_of s = refl

pub on_ok_anyway : {T E P : Type 0} (r : Result T E) → P → OnOk r P
on_ok_anyway (Ok x) p = p
on_ok_anyway (Err e) p = tt

-- none wait after events were delivered
pub after_waits : (s t : Standing) → session_of t ≡ after_events (session_of s) → t.waiting ≡ None
after_waits s t after = none-waits t (ap (λ u. u.waiting) after)

-- nor after a command that was not carried out, where none did
same_waits : (s t : Standing) → s.waiting ≡ None → session_of t ≡ session_of s → t.waiting ≡ None
same_waits s t none same = none-waits t (ap (λ u. u.waiting) same ∙ waits-none s none)

module _ {T : Type 0} (view : Result T SessionError → Result (Option EntityId) SessionError) (f : T → Option EntityId) (of_ok : (x : T) → view (Ok x) ≡ Ok (f x))
    (of_err : (e : SessionError) → view (Err e) ≡ Err e) (command : Command) (s t : Standing) (none : s.waiting ≡ None) where
  abbrev Answered : Result (Option EntityId) SessionError → Type 0
  Answered r = AnswersApply r (carried_out (session_of s) command) s t

  waits_at : (e : SessionError) → Answered (Err e) → t.waiting ≡ None
  waits_at (Refused reason) answers = same_waits s t none answers.1
  waits_at Memory answers = same_waits s t none answers

  pub waits_err : (answer : Result T SessionError) → Answered (view answer) → OnErr answer (t.waiting ≡ None)
  waits_err (Ok x) answers = tt
  waits_err (Err e) answers = waits_at e (subst Answered (of_err e) answers)

  module _ (old new : Stepping) (u : SessionState) (was : old.session ≡ session_of s) (is : new.session ≡ u) (lines : new.lines ≡ old.lines) (refused : new.refused ≡ old.refused) where
    -- a stepper with the same parts is the same
    same : new.session ≡ old.session → new.printed ≡ old.printed → new.broken ≡ old.broken → new ≡ old
    same session printed broken = λ i. record { session = session i; lines = lines i; refused = refused i; printed = printed i; broken = broken i }

    unchanged : (e : SessionError) → Answered (Err e) → new ≡ old → Commands command old new (Err e)
    unchanged (Refused reason) answers kept =
        (ap (λ o. in_world o (Ok command)) was ∙ sym (carried_free (session_of s) command (waits-none s none)) ∙ answers.0, kept)
    unchanged Memory answers kept = inl kept

    refused_as : (e g : SessionError) → g ≡ e → Commands command old new (Err e) → Commands command old new (Err g)
    refused_as e g eq done = subst (λ x. Commands command old new (Err x)) (sym eq) done

    commanded : (answer result : Result T SessionError) → Answered (view answer) → TellsPrinted answer result (session_of t) u old.printed new.printed old.broken new.broken
        → Commands command old new (view result)
    commanded (Ok x) (Ok y) answers tells =
        let left = session_of t in
        let done : in_world old.session (Ok command) ≡ Ok (left, f x) =
        ap (λ o. in_world o (Ok command)) was ∙ sym (carried_free (session_of s) command (waits-none s none)) ∙ subst Answered (of_ok x) answers in
        let kept : new ≡ told old left = λ i. record { session = (is ∙ tells.1) i; lines = lines i; refused = refused i; printed = tells.2 i; broken = tells.3 i } in
        subst (λ r. Commands command old new r) (sym (of_ok y)) (left, done ∙ ap (λ z. Ok (left, f z)) (sym tells.0), kept)
    commanded (Ok x) (Err g) answers tells = subst (λ r. Commands command old new r) (sym (of_err g)) (refused_as Memory g tells.0 (inr (tells.1, tells.2)))
    commanded (Err e) (Ok y) answers tells = absurd tells
    commanded (Err e) (Err g) answers tells =
        let told_e = subst Answered (of_err e) answers in
        let kept = same (is ∙ tells.1 ∙ back e told_e ∙ sym was) tells.2 tells.3 in
        subst (λ r. Commands command old new r) (sym (of_err g)) (refused_as e g tells.0 (unchanged e told_e kept))
      where
        back : (x : SessionError) → Answered (Err x) → session_of t ≡ session_of s
        back (Refused reason) a = a.1
        back Memory a = a

    -- what a stepper has done, as it is seen
    pub commands : (seen : Stepping) → old ≡ seen → (answer result : Result T SessionError) → Answered (view answer)
        → TellsPrinted answer result (session_of t) u old.printed new.printed old.broken new.broken → Commands command seen new (view result)
    commands seen e answer result answers tells = subst (λ o. Commands command o new (view result)) e (commanded answer result answers tells)
