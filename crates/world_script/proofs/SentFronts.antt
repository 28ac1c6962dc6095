-- What a line does where a prefix of what it prints is sent before it ends.
use Rattle.std.proofs.Common.{◌≡◌, ◌⊎◌, ℕ, ◌+◌, Bool, true, inl, inr, cond, take, List, [], ◌++◌, length, Option, refl, sym, ◌∙◌, ap, subst, append_assoc, arith, length-append}
use Rattle.std.specs.Prelude.{IfErr, Result, Ok, Err, IsErrAnd, None, OnErr, OnOk, ⊤}
use Rattle.std.specs.Io.KnownBytes.{Appends}
use Rattle.std.proofs.KnownBytes.{Appends-nil, Appends-trans}
use Rattle.std.proofs.Math.Seq.{take-append_seam}
use Rattle.std.specs.declared.alloc.AllocError.{AllocError}
use Rattle.query_model.specs.Query.{Query}
use Rattle.ecs_model.specs.Output.{Effect, effect_of}
use Rattle.ecs_model.specs.Query.{query_of}
use Rattle.ecs_model.specs.Script.{Ask, AskKept, Form}
use Rattle.ecs_model.specs.rows.Text.{rows_text}
use Rattle.ecs_world.specs.Standing.{Standing as World}
use Rattle.ecs_observe.specs.Answers.{FailsAtSend, SendsKept}
use Rattle.ecs_observe.specs.Standing.{Standing, session_of}
use Rattle.ecs_observe.specs.declared.errors.SendRowsError.{SendRowsError}
use Rattle.ecs_observe.specs.declared.errors.SendRowsError.TheVariants as rows
use Rattle.ecs_observe.proofs.SentRows.{memory_apart}
use Rattle.ecs_model.specs.declared.faults.SessionRefusal.{SessionRefusal}
use Rattle.ecs_model.specs.stored.Session.{SessionState, kept_query}
use Rattle.script_streams.specs.declared.streams.Calls.{Calls}
use Rattle.script_streams.specs.Lines.{Held, TakesLine}
use Rattle.script_streams.specs.Streams.{IsCalm, TakesFront}
use Rattle.world_query.specs.declared.sending.SendError.{SendError}
use Rattle.world_query.specs.declared.sending.SendError.TheVariants as send
use Rattle.world_query.specs.Sent.{FailsAtWrite, StopsSending, most_usize}
use Rattle.world_query.proofs.SentTexts.{calm_memory, taken_front}
use Rattle.world_script.specs.declared.errors.RunError.{RunError}
use Rattle.world_script.specs.declared.errors.RunError.TheVariants as run
use Rattle.world_script.specs.declared.lines.Summary.{Summary}
use Rattle.world_script.specs.declared.interpreters.Interpreter.{Interpreter}
use Rattle.world_script.specs.Run.{Does, DoesLine, Obeys, form_effect, line_effect, unsent}
use Rattle.world_script.specs.Running.{HasEnded, HasRun, IsRunning, RunsLine, send_error}
use Rattle.world_script.specs.Whole.{FaultyAt, WroteFront}
use Rattle.world_script.proofs.AnswerWays.{apart, err_is}
use Rattle.world_script.proofs.Faults.{TakesFront-none, WroteFront-at}
use Rattle.world_script.proofs.Orders.{IsDone-kept, IsDone-rows}
use Rattle.world_script.proofs.RunSteps.{IsRunning-line}
use Rattle.world_script.proofs.WaitingEvents.{none_waits-line}

-- ---- answers that differ

abbrev IsMemory : SendError → Type 0
IsMemory send.Memory = ⊤
IsMemory send.Write = ⊥

ok_apart : {T : Type 0} (x : T) → ¬ (Ok x ≡ Err send.Write)
ok_apart x is = let P : Result _ SendError → Type 0 = λ r. OnErr r ⊥ in subst P is tt

-- ---- one line

-- the writer has taken nothing
module _ {A W : Type 0} (form : Form) (i j : Interpreter A) (contents : W → Option (List ℕ)) (calls : W → Calls) (old new : W) (most : ℕ)
    (same : contents new ≡ contents old) (calms : IsCalm (calls old) → IsCalm (calls new)) (kept : most ≡ most_usize → new ≡ old) where
  does_unsent : (r : Result Bool AllocError) → Obeys form i j r → DoesLine form i j contents calls old new most (unsent r)
  does_unsent (Ok refused) done = record {
    does = ([], subst (λ bytes. Appends (contents old) bytes []) (sym same) (Appends-nil (contents old)), done);
    writes = λ calm. (λ is. absurd (ok_apart refused is), λ _. calms calm);
    kept = kept;
  }
  does_unsent (Err error) done =
      let text = i.output.items ++ (form_effect i form).printed in
      record {
        does = subst (λ bytes. TakesFront (contents old) bytes text) (sym same) (TakesFront-none (contents old) text);
        writes = λ calm. (λ is. absurd (memory_apart (Err send.Memory) refl is), λ _. calms calm);
        kept = kept;
      }

  -- so it is answered
  pub does_nothing_as : (r : Result Bool AllocError) (a : Result Bool SendError) → a ≡ unsent r → Obeys form i j r → DoesLine form i j contents calls old new most a
  does_nothing_as r a is done = subst (DoesLine form i j contents calls old new most) (sym is) (does_unsent r done)

-- where nothing is sent it is the same
pub does_as : {A W : Type 0} {form : Form} {i j : Interpreter A} {contents : W → Option (List ℕ)} {calls : W → Calls} {writer : W} {most : ℕ}
    → (r : Result Bool AllocError) (a : Result Bool SendError) → a ≡ unsent r → Obeys form i j r → DoesLine form i j contents calls writer writer most a
does_as {A} {W} {form} {i} {j} {contents} {calls} {writer} {most} r a is done = does_nothing_as form i j contents calls writer writer most refl (λ calm. calm) (λ _. refl) r a is done

-- memory was refused, and nothing is sent
pub does_memory : {A W : Type 0} {form : Form} {i j : Interpreter A} {contents : W → Option (List ℕ)} {calls : W → Calls} {writer : W} {most : ℕ} (r : Result Bool SendError)
    → IsErrAnd r (λ x. x ≡ send.Memory) → DoesLine form i j contents calls writer writer most r
does_memory {A} {W} {form} {i} {j} {contents} {calls} {writer} (Ok refused) is = absurd is
does_memory {A} {W} {form} {i} {j} {contents} {calls} {writer} (Err error) is = record {
  does = TakesFront-none (contents writer) (i.output.items ++ (form_effect i form).printed);
  writes = calm_memory (calls writer) (calls writer) (Err error) (λ calm. calm) is;
  kept = λ _. refl;
}

-- a prefix of the rows is sent
pub takes_stopped : {P : Type 0} (a b : Option (List ℕ)) (before after text : List ℕ) → StopsSending P a b before after text → TakesFront a b (before ++ text)
takes_stopped a b before after text so =
    let taken = so.sent ++ so.part in
    let rest = so.unsent ++ so.stops.rest in
    let front = taken_front a b before after text so in (
      length taken,
      omega (arith, ap length front, length-append taken rest),
      subst (Appends a b) (sym (ap (take (length taken)) front ∙ take-append_seam taken rest)) so.wrote,
    )

-- a line that stops
pub does_err : (error : SendError) (e : Effect) (s : SessionState) (old new : Option (List ℕ)) (before after : List ℕ) (r : Result Bool SendError) → IsErrAnd r (λ x. x ≡ error)
    → TakesFront old new (before ++ e.printed) → Does e s old new before after r
does_err error e s old new before after (Ok x) is front = absurd is
does_err error e s old new before after (Err x) is front = front

-- so the rows of a query that a text asks are sent
pub asked_stops : {P : Type 0} (s : Standing) (n : ℕ) (a b : Option (List ℕ)) (before after : List ℕ) (w : World) (text : List ℕ) (q : Query) → w ≡ s.world → query_of w.state text ≡ Ok q
    → StopsSending P a b before after (rows_text w.state q) → TakesFront a b (before ++ (effect_of (session_of s) n (Ask text)).printed)
asked_stops s n a b before after w text q same asked stops =
    let done = IsDone-rows s n before (before ++ rows_text w.state q) w text q same asked refl in
    subst (TakesFront a b) done.printed (takes_stopped a b before after (rows_text w.state q) stops)

-- and those of a kept query
pub kept_stops : {P : Type 0} (s : Standing) (n : ℕ) (a b : Option (List ℕ)) (before after name : List ℕ) (q : Query) → kept_query (session_of s) name ≡ Ok q
    → StopsSending P a b before after (rows_text (session_of s).world q) → TakesFront a b (before ++ (effect_of (session_of s) n (AskKept name)).printed)
kept_stops s n a b before after name q asked stops =
    let done = IsDone-kept s n before (before ++ rows_text (session_of s).world q) name q asked refl in
    subst (TakesFront a b) done.printed (takes_stopped a b before after (rows_text (session_of s).world q) stops)

pub rows_stop : (error : SendError) (most : ℕ) (s : Standing) (n : ℕ) (a b : Option (List ℕ)) (before after name : List ℕ) → SendsKept {T = ⊤} most (Err (rows.Unsent error)) (session_of s) name a b before after
    → TakesFront a b (before ++ (effect_of (session_of s) n (AskKept name)).printed)
rows_stop send.Memory most s n a b before after name so = kept_stops s n a b before after name so.0 so.1 so.2
rows_stop send.Write most s n a b before after name so = kept_stops s n a b before after name so.0 so.1 so.2

-- ---- calls of the writer after the rows of a kept query

abbrev IsUnsent : SendRowsError → Type 0
IsUnsent (rows.Refused reason) = ⊥
IsUnsent (rows.Unsent send.Memory) = ⊥
IsUnsent (rows.Unsent send.Write) = ⊤

other : {T : Type 0} (r : Result T SendRowsError) → ¬ IsErrAnd r IsUnsent → ¬ (r ≡ Err (rows.Unsent send.Write))
other r none is = let P : Result _ SendRowsError → Type 0 = λ g. IsErrAnd g IsUnsent in none (subst P (sym is) tt)

pub rows_calm : {T : Type 0} (old new : Calls) (x : T) → FailsAtSend old (Ok x) new → IsCalm old → IsCalm new
rows_calm old new x told calm = (told calm).1 (other (Ok x) (λ none. none))

pub refused_calm : (T : Type 0) (old new : Calls) (reason : SessionRefusal) → FailsAtSend {T = T} old (Err (rows.Refused reason)) new → IsCalm old → IsCalm new
refused_calm T old new reason told calm = (told calm).1 (other {T = T} (Err (rows.Refused reason)) (λ none. none))

pub rows_fail : (T U : Type 0) (error : SendError) (old new : Calls) → FailsAtSend {T = T} old (Err (rows.Unsent error)) new → FailsAtWrite {T = U} old (Err error) new
rows_fail T U send.Memory old new told = λ calm. (
  λ is. absurd (memory_apart {T = U} (Err send.Memory) refl is),
  λ _. (told calm).1 (other {T = T} (Err (rows.Unsent send.Memory)) (λ none. none)),
)
rows_fail T U send.Write old new told = λ calm. (λ _. (told calm).0 refl, λ none. absurd (none refl))

-- no events wait after a line
pub none_waits-sent : (r : Result Bool SendError) (a b : Option (List ℕ)) (old new : Standing) (n : ℕ) (line before after : List ℕ) → old.waiting ≡ None
    → Does (line_effect (session_of old) n line) (session_of new) a b before after r → OnOk r (new.waiting ≡ None)
none_waits-sent (Ok refused) a b old new n line before after none does = none_waits-line (Ok refused) old new n line before (does.0 ++ after) none does.2
none_waits-sent (Err error) a b old new n line before after none does = tt

-- ---- the lines of a script

-- of the output a front was sent
pub IsRunning-sent : (told left old new newer : Option (List ℕ)) (h : Held) (s : SessionState) (a : Summary) (sent after : List ℕ) → Appends new newer sent
    → IsRunning told left old new h s a (sent ++ after) → IsRunning told left old newer h s a after
IsRunning-sent told left old new newer h s a sent after more so =
    let P : List ℕ → Type 0 = λ l. HasRun so.whole l a in
    record {
      whole = so.whole;
      part = so.part;
      written = so.written ++ sent;
      bytes = so.bytes;
      counted = so.counted;
      fits = so.fits;
      ends = so.ends;
      inside = so.inside;
      front = so.front;
      wrote = Appends-trans old new newer so.written sent so.wrote more;
      goes_on = so.goes_on;
      has_run = subst P (sym (append_assoc so.written sent after)) so.has_run;
    }

pub HasEnded-sent : (told left old new newer : Option (List ℕ)) (a : Summary) (sent after : List ℕ) → Appends new newer sent → HasEnded told left old new a (sent ++ after) → HasEnded told left old newer a after
HasEnded-sent told left old new newer a sent after more so =
    let P : List ℕ → Type 0 = λ l. HasRun so.script l a in
    record {
      script = so.script;
      written = so.written ++ sent;
      bytes = so.bytes;
      fits = so.fits;
      wrote = Appends-trans old new newer so.written sent so.wrote more;
      has_run = subst P (sym (append_assoc so.written sent after)) so.has_run;
    }

-- a line stopped: what was sent is a prefix of what it would have printed
pub WroteFront-line : (told left old new newer : Option (List ℕ)) (h k : Held) (s : SessionState) (a : Summary) (before : List ℕ) → TakesLine true h k → k.read ≡ h.read
    → IsRunning told left old new h s a before → TakesFront new newer (before ++ (line_effect s (a.lines + 1) k.line).printed) → WroteFront told left old newer
WroteFront-line told left old new newer h k s a before taken same so front =
    let e = line_effect s (a.lines + 1) k.line in
    let b : Summary = record { lines = a.lines + 1; refused = a.refused + cond e.refused 1 0 } in
    let run : RunsLine e e.session before (before ++ e.printed) a b = record { session_left = refl; printed = refl; counted = refl } in
    WroteFront-at told left old new newer k e.session b (before ++ e.printed) (IsRunning-line told left old new h k s e.session a b before (before ++ e.printed) taken same run so) front

-- the calls say the same of a run that ends with the line
pub FaultyAt-send : {T U : Type 0} (error : SendError) (old mid new : Calls) (given : Result T SendError) (r : Result U RunError) → (IsCalm old → IsCalm mid) → given ≡ Err error
    → IsErrAnd r (λ x. x ≡ send_error error) → FailsAtWrite mid given new → FaultyAt run.Write old r new
FaultyAt-send error old mid new given (Ok x) before was passed told = absurd passed
FaultyAt-send send.Memory old mid new given (Err d) before was passed told = λ calm. (
  λ is. absurd (apart run.Memory run.Write refl (sym passed ∙ err_is (λ x. d ≡ x) (Err d) run.Write refl is)),
  λ _. (told (before calm)).1 (λ is. memory_apart given was is),
)
FaultyAt-send send.Write old mid new given (Err d) before was passed told = λ calm. (
  λ _. (told (before calm)).0 was,
  λ other. absurd (other (ap (λ x. Err x) passed)),
)

-- ---- how a run ends with the line

pub send_fault : {T : Type 0} (error : SendError) (r : Result T RunError) → IsErrAnd r (λ x. x ≡ send_error error) → IfErr r (λ x. (x ≡ run.Memory) ⊎ (x ≡ run.Write))
send_fault error (Ok x) passed = absurd passed
send_fault send.Memory (Err d) passed = inl passed
send_fault send.Write (Err d) passed = inr passed

sends_read : (error : SendError) → ¬ (run.Read ≡ send_error error)
sends_read send.Memory = apart run.Read run.Memory refl
sends_read send.Write = apart run.Read run.Write refl

sends_too_long : (error : SendError) → ¬ (run.TooLong ≡ send_error error)
sends_too_long send.Memory = apart run.TooLong run.Memory refl
sends_too_long send.Write = apart run.TooLong run.Write refl

pub send_not_read : {T : Type 0} (error : SendError) (r : Result T RunError) → IsErrAnd r (λ x. x ≡ send_error error) → ¬ (r ≡ Err run.Read)
send_not_read error r passed is = sends_read error (err_is (λ x. x ≡ send_error error) r run.Read passed is)

pub send_not_too_long : {T : Type 0} (error : SendError) (r : Result T RunError) → IsErrAnd r (λ x. x ≡ send_error error) → ¬ (r ≡ Err run.TooLong)
send_not_too_long error r passed is = sends_too_long error (err_is (λ x. x ≡ send_error error) r run.TooLong passed is)
