-- One more text after what was sent and what is still to be.
use Rattle.std.proofs.Common.{◌≡◌, ◌≤◌, ℕ, List, [], ◌∷◌, ◌++◌, length, take, drop, refl, sym, ap, ◌∙◌, subst, append_assoc, arith}
use Rattle.std.specs.Prelude.{Contains, Option, Some, Result, Ok, Err, IsErrAnd, OnErr}
use Rattle.std.specs.Io.KnownBytes.{Appends}
use Rattle.std.proofs.KnownBytes.{Appends-nil, Appends-trans}
use Rattle.std.proofs.lemmas.List.{take-append-drop}
use Rattle.ecs_print.specs.Stops.{StopsWithin}
use Rattle.ecs_print.proofs.Stops.{stops_behind, stops_past, stops_same, stops_sooner}
use Rattle.script_streams.specs.declared.streams.Calls.{Calls}
use Rattle.script_streams.specs.Streams.{IsCalm, TakesFront}
use Rattle.world_query.specs.declared.sending.SendError.{SendError}
use Rattle.world_query.specs.declared.sending.SendError.TheVariants.{Memory, Write}
use Rattle.world_query.specs.Sent.{FailsAtWrite, HoldsAtFault, HoldsOneLine, IsMemory, IsRefused, IsSent, StopsSending}

-- nothing is sent
pub sent_here : (c : Option (List ℕ)) (before after text : List ℕ) → after ≡ before ++ text → IsSent c c before after text
sent_here c before after text is = record { sent = []; wrote = Appends-nil c; whole = is }

pub stops_here : {P : Type 0} (c : Option (List ℕ)) (before after text : List ℕ) → StopsWithin before after text → StopsSending P c c before after text
stops_here c before after text stops = record { sent = []; part = []; unsent = after; wrote = Appends-nil c; held = refl; none = λ _. refl; stops = stops }

-- all that is written is sent
pub sent_off : (a b : Option (List ℕ)) (before after : List ℕ) → Appends a b before → after ≡ [] → IsSent a b before after []
sent_off a b before after wrote none = record { sent = before; wrote = wrote; whole = ap (λ t. before ++ t) none }

-- or a prefix of it
pub stops_off : {P : Type 0} (a b : Option (List ℕ)) (before after text : List ℕ) → (P → ⊥) → TakesFront a b before → after ≡ before → StopsSending P a b before after text
stops_off a b before after text wrote front same = record {
  sent = [];
  part = take front.0 before;
  unsent = drop front.0 before;
  wrote = front.2;
  held = same ∙ sym (take-append-drop front.0 before);
  none = λ refused. absurd (wrote refused);
  stops = stops_same before after text same;
}

-- s ++ z, where s ++ y is x ++ t and z is what y is after another prefix
through : (s1 s2 x y z t u : List ℕ) → s1 ++ y ≡ x ++ t → s2 ++ z ≡ y ++ u → (s1 ++ s2) ++ z ≡ x ++ (t ++ u)
through s1 s2 x y z t u first second =
    append_assoc s1 s2 z ∙ ap (λ l. s1 ++ l) second ∙ sym (append_assoc s1 y u) ∙ ap (λ l. l ++ u) first ∙ append_assoc x t u

pub sent_then : (a b c : Option (List ℕ)) (x y z t u : List ℕ) → IsSent a b x y t → IsSent b c y z u → IsSent a c x z (t ++ u)
sent_then a b c x y z t u first second = record {
  sent = first.sent ++ second.sent;
  wrote = Appends-trans a b c first.sent second.sent first.wrote second.wrote;
  whole = through first.sent second.sent x y z t u first.whole second.whole;
}

pub stops_then : {P : Type 0} (a b c : Option (List ℕ)) (x y z t u : List ℕ) → IsSent a b x y t → StopsSending P b c y z u → StopsSending P a c x z (t ++ u)
stops_then a b c x y z t u first second =
    let s = first.sent in
    let assoc : (s ++ second.sent) ++ second.part ≡ s ++ (second.sent ++ second.part) = append_assoc s second.sent second.part in
    record {
      sent = s ++ second.sent;
      part = second.part;
      unsent = second.unsent;
      wrote = subst (Appends a c) (sym assoc) (Appends-trans a b c s (second.sent ++ second.part) first.wrote second.wrote);
      held = second.held;
      none = second.none;
      stops = subst (λ l. StopsWithin x l (t ++ u)) (sym (append_assoc s second.sent z))
          (stops_behind x t (s ++ y) (s ++ (second.sent ++ z)) u first.whole (stops_past s y (second.sent ++ z) u second.stops));
    }

-- the same as a prefix of a text
pub stops_within : {P : Type 0} (a b : Option (List ℕ)) (x y t more all : List ℕ) → all ≡ t ++ more → StopsSending P a b x y t → StopsSending P a b x y all
stops_within a b x y t more all is so = record {
  sent = so.sent;
  part = so.part;
  unsent = so.unsent;
  wrote = so.wrote;
  held = so.held;
  none = so.none;
  stops = subst (StopsWithin x (so.sent ++ y)) (sym is) (stops_sooner x (so.sent ++ y) t more so.stops);
}

-- where a text is put down whose front was sent and kept
pub stops_at : {P : Type 0} (a b : Option (List ℕ)) (x y z t more all : List ℕ) → all ≡ t ++ more → StopsWithin y z more → IsSent a b x y t → StopsSending P a b x z all
stops_at {P} a b x y z t more all is stops sent = subst (StopsSending P a b x z) (sym is) (stops_then a b b x y z t more sent (stops_here b y z more stops))

-- the same of lists that are the same
pub sent_as : (a b : Option (List ℕ)) (x y t before after : List ℕ) → before ≡ x → after ≡ y → IsSent a b x y t → IsSent a b before after t
sent_as a b x y t before after first last so =
    record { sent = so.sent; wrote = so.wrote; whole = ap (λ l. so.sent ++ l) last ∙ so.whole ∙ ap (λ l. l ++ t) (sym first) }

pub stops_as : {P : Type 0} (a b : Option (List ℕ)) (x y t before after : List ℕ) → before ≡ x → after ≡ y → StopsSending P a b x y t → StopsSending P a b before after t
stops_as a b x y t before after first last so = record {
  sent = so.sent;
  part = so.part;
  unsent = so.unsent;
  wrote = so.wrote;
  held = last ∙ so.held;
  none = so.none;
  stops = subst (λ l. StopsWithin l (so.sent ++ after) t) (sym first) (subst (λ l. StopsWithin x (so.sent ++ l) t) (sym last) so.stops);
}

-- what the writer has taken is a prefix of all
pub taken_front : {P : Type 0} (a b : Option (List ℕ)) (before after text : List ℕ) (so : StopsSending P a b before after text) → before ++ text ≡ (so.sent ++ so.part) ++ (so.unsent ++ so.stops.rest)
taken_front a b before after text so =
    ap (λ l. before ++ l) so.stops.front ∙ sym (append_assoc before so.stops.more so.stops.rest) ∙ ap (λ l. l ++ so.stops.rest) (sym so.stops.holds)
    ∙ ap (λ l. (so.sent ++ l) ++ so.stops.rest) so.held ∙ ap (λ l. l ++ so.stops.rest) (sym (append_assoc so.sent so.part so.unsent))
    ∙ append_assoc (so.sent ++ so.part) so.unsent so.stops.rest

-- a writer that takes nothing has taken nothing
none_sent : (s part : List ℕ) → [] ≡ s ++ part → s ≡ []
none_sent [] part none = refl
none_sent (x ∷ s) part none = absurd (omega (arith, ap length none))

pub sent_nowhere : (before after text : List ℕ) → IsSent (Some []) (Some []) before after text → after ≡ before ++ text
sent_nowhere before after text so = ap (λ s. s ++ after) so.wrote ∙ so.whole

pub stops_unsent : {P : Type 0} (before after text : List ℕ) → StopsSending P (Some []) (Some []) before after text → StopsWithin before after text
stops_unsent before after text so = subst (λ s. StopsWithin before (s ++ after) text) (none_sent so.sent so.part so.wrote) so.stops

-- calls stay calm where no fault is answered
pub calm_still : {T : Type 0} (old new : Calls) (answer : T) → FailsAtWrite old (Ok answer) new → IsCalm old → IsCalm new
calm_still old new answer told calm =
    let P : Result _ SendError → Type 0 = λ r. OnErr r ⊥ in
    (told calm).1 (λ e. subst P e tt)

err_of : {T : Type 0} (d e : SendError) (r : Result T SendError) → r ≡ Err d → r ≡ Err e → d ≡ e
err_of d e r first second = let P : Result _ SendError → Type 0 = λ q. IsErrAnd q (λ x. x ≡ e) in subst P first (subst P (sym second) refl)

-- an error that is passed on says the same of the calls, also of those before
pub fails_same : {T U : Type 0} (e : SendError) (old mid new : Calls) (given : Result T SendError) (r : Result U SendError) → (IsCalm old → IsCalm mid) → given ≡ Err e
    → IsErrAnd r (λ x. x ≡ e) → FailsAtWrite mid given new → FailsAtWrite old r new
fails_same e old mid new given (Ok x) before was passed told = absurd passed
fails_same e old mid new given (Err d) before was passed told = λ calm. (
  λ is. (told (before calm)).0 (was ∙ ap (λ x. Err x) (sym passed ∙ err_of d Write _ refl is)),
  λ other. (told (before calm)).1 (λ is. other (ap (λ x. Err x) (passed ∙ err_of e Write given was is))),
)

-- so does an answer that is given back as it is
pub fails_after : {T : Type 0} (old mid new : Calls) (r : Result T SendError) → (IsCalm old → IsCalm mid) → FailsAtWrite mid r new → FailsAtWrite old r new
fails_after old mid new r before told = λ calm. told (before calm)

-- and where nothing was written, or all of it
pub calm_memory : {T : Type 0} (old new : Calls) (r : Result T SendError) → (IsCalm old → IsCalm new) → IsErrAnd r (λ x. x ≡ Memory) → FailsAtWrite old r new
calm_memory old new (Ok x) calm is = absurd is
calm_memory old new (Err d) calm is = λ was. (
  λ write. let P : Result _ SendError → Type 0 = λ r. IsErrAnd r IsMemory in absurd (subst P write (subst IsMemory (sym is) tt)),
  λ _. calm was,
)

pub calm_ok : {T : Type 0} (old new : Calls) (x : T) → (IsCalm old → IsCalm new) → FailsAtWrite old (Ok x) new
calm_ok old new x calm = λ was. (
  λ write. let P : Result _ SendError → Type 0 = λ r. OnErr r ⊥ in absurd (subst P write tt),
  λ _. calm was,
)

-- what was answered of a write that failed isn't that memory was refused
pub no_memory : {T : Type 0} (r : Result T SendError) → IsErrAnd r (λ x. x ≡ Write) → IsRefused r → ⊥
no_memory (Ok x) is told = absurd is
no_memory (Err d) is told = subst IsMemory is told

-- an error that is passed on is the one that was answered
pub passed_on : {U : Type 0} (e : SendError) (r : Result U SendError) → IsErrAnd r (λ x. x ≡ e) → IsRefused r → IsMemory e
passed_on e (Ok x) is told = absurd is
passed_on e (Err d) is told = subst IsMemory is told

-- so where it stopped follows from it
pub stops_by : {P Q : Type 0} (a b : Option (List ℕ)) (x y t : List ℕ) → (Q → P) → StopsSending P a b x y t → StopsSending Q a b x y t
stops_by a b x y t passed so = record { sent = so.sent; part = so.part; unsent = so.unsent; wrote = so.wrote; held = so.held; none = λ told. so.none (passed told); stops = so.stops }

-- ---- what a list holds where a write failed

-- nothing is asked of it where memory was refused
pub fault_memory : {T : Type 0} (most : ℕ) (lines : List (List ℕ)) (r : Result T SendError) (after : List ℕ) → IsErrAnd r (λ x. x ≡ Memory) → HoldsAtFault most lines r after
fault_memory most lines (Ok x) after is = absurd is
fault_memory most lines (Err Memory) after is = tt
fault_memory most lines (Err Write) after is = absurd (subst IsMemory (sym is) tt)

pub fault_anyway : {T : Type 0} (most : ℕ) (lines : List (List ℕ)) (r : Result T SendError) (after : List ℕ) → HoldsOneLine most lines after → HoldsAtFault most lines r after
fault_anyway most lines (Ok x) after holds = tt
fault_anyway most lines (Err Memory) after holds = tt
fault_anyway most lines (Err Write) after holds = holds

pub fault_if : {T : Type 0} (most : ℕ) (lines : List (List ℕ)) (r : Result T SendError) (after : List ℕ) → OnErr r (HoldsOneLine most lines after) → HoldsAtFault most lines r after
fault_if most lines (Ok x) after holds = tt
fault_if most lines (Err Memory) after holds = tt
fault_if most lines (Err Write) after holds = holds

-- the same of more bytes and of more lines
pub holds_among : (most more : ℕ) (lines all : List (List ℕ)) (after now : List ℕ) → now ≡ after → most ≤ more → ((line : List ℕ) → Contains lines line → Contains all line)
    → HoldsOneLine most lines after → HoldsOneLine more all now
holds_among most more lines all after now same less among so =
    record { held = so.held; line = so.line; is = same ∙ so.is; few = omega (arith, so.few, less); one = among so.line so.one }

pub fault_among : {T : Type 0} (most more : ℕ) (lines all : List (List ℕ)) (r : Result T SendError) (after now : List ℕ) → now ≡ after → most ≤ more
    → ((line : List ℕ) → Contains lines line → Contains all line) → HoldsAtFault most lines r after → HoldsAtFault more all r now
fault_among most more lines all (Ok x) after now same less among so = tt
fault_among most more lines all (Err Memory) after now same less among so = tt
fault_among most more lines all (Err Write) after now same less among so = holds_among most more lines all after now same less among so

-- an error that is passed on
pub fault_same : {T U : Type 0} (e : SendError) (most : ℕ) (lines : List (List ℕ)) (given : Result T SendError) (r : Result U SendError) (after : List ℕ) → given ≡ Err e → IsErrAnd r (λ x. x ≡ e)
    → HoldsAtFault most lines given after → HoldsAtFault most lines r after
fault_same {T} e most lines given (Ok x) after was passed so = absurd passed
fault_same {T} e most lines given (Err Memory) after was passed so = tt
fault_same {T} e most lines given (Err Write) after was passed so =
    let P : Result T SendError → Type 0 = λ g. HoldsAtFault most lines g after in
    subst P (was ∙ ap (λ x. Err x) (sym passed)) so
