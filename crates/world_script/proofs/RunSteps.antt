-- From one step of a run to the next.
use Rattle.std.proofs.Common.{◌≡◌, ℕ, ◌+◌, ◌<◌, ◌≤◌, ◌==◌, Bool, true, false, List, [], ◌∷◌, ◌++◌, length, Option, refl, sym, ◌∙◌, ap, subst, inl, inr, arith, append_assoc, append-nil, length-append, cond}
use Rattle.std.specs.Io.KnownBytes.{Appends, Consumes}
use Rattle.std.proofs.KnownBytes.{Appends-nil, Appends-trans, Consumes-nil, Consumes-trans}
use Rattle.std.proofs.lemmas.List.{flat_map_more}
use Rattle.std.proofs.lemmas.List.Elements.{All-append, All-nil}
use Rattle.std.proofs.lemmas.List.Sums.{sum_by-append, sum_by-cons}
use Rattle.ecs_model.specs.Output.{Effect, effect_of, effects_of}
use Rattle.ecs_model.specs.Script.{Form}
use Rattle.ecs_model.specs.stored.Session.{SessionState, first_session}
use Rattle.script_streams.specs.Lines.{Held, HasNoEnd, TakesLine, kept, most_bytes}
use Rattle.world_script.specs.declared.lines.Summary.{Summary}
use Rattle.world_script.specs.Run.{effects_from, line_effect, printed_by, refused_among}
use Rattle.world_script.specs.Running.{GoesOn, HasRun, IsRunning, RunsLine}
use Rattle.world_script.proofs.Effects.{effects_from-first, effects_from-line, effects_from-nil}
use Rattle.world_script.proofs.FirstLine.{lines_of-last, lines_of-line}
use Rattle.world_script.proofs.KeptLines.{form_of-kept, kept_front}

-- ---- one more line, of what was run

-- after whole lines, a line does what it does from their session on
ended_line : (whole line : List ℕ) (s : SessionState) (summary : Summary) → HasNoEnd line → GoesOn whole s summary
    → effects_of (whole ++ (line ++ 10 ∷ [])) ≡ effects_of whole ++ line_effect s (summary.lines + 1) line ∷ []
ended_line whole line s summary none on =
    let e = line_effect s (summary.lines + 1) line in
    on (line ++ 10 ∷ []) ∙ ap (λ es. effects_of whole ++ es) (effects_from-line s (summary.lines + 1) (line ++ 10 ∷ []) line [] (lines_of-line line [] none)
    ∙ ap (λ es. e ∷ es) (effects_from-nil e.session (summary.lines + 1 + 1)))

pub last_line : (whole line : List ℕ) (s : SessionState) (summary : Summary) → 0 < length line → HasNoEnd line → GoesOn whole s summary
    → effects_of (whole ++ line) ≡ effects_of whole ++ line_effect s (summary.lines + 1) line ∷ []
last_line whole line s summary some none on =
    let e = line_effect s (summary.lines + 1) line in
    on line ∙ ap (λ es. effects_of whole ++ es) (effects_from-line s (summary.lines + 1) line line [] (lines_of-last line some none)
    ∙ ap (λ es. e ∷ es) (effects_from-nil e.session (summary.lines + 1 + 1)))

-- and what stands after it goes on from there
GoesOn-line : (whole line before after : List ℕ) (s t : SessionState) (old new : Summary) → HasNoEnd line → RunsLine (line_effect s (old.lines + 1) line) t before after old new
    → GoesOn whole s old → GoesOn (whole ++ (line ++ 10 ∷ [])) t new
GoesOn-line whole line before after s t old new none run on = λ rest.
    let e = line_effect s (old.lines + 1) line in
    let later = effects_from t (new.lines + 1) rest in
    let joined : whole ++ (line ++ 10 ∷ []) ++ rest ≡ whole ++ (line ++ 10 ∷ rest) =
    append_assoc whole (line ++ 10 ∷ []) rest ∙ ap (λ l. whole ++ l) (append_assoc line (10 ∷ []) rest) in
    let from : effects_from e.session (old.lines + 1 + 1) rest ≡ later =
    ap (λ u. effects_from u (old.lines + 1 + 1) rest) (sym run.session_left) ∙ ap (λ c. effects_from t (c.lines + 1) rest) (sym run.counted) in
    let split : effects_from s (old.lines + 1) (line ++ 10 ∷ rest) ≡ e ∷ later =
    effects_from-line s (old.lines + 1) (line ++ 10 ∷ rest) line rest (lines_of-line line rest none) ∙ ap (λ es. e ∷ es) from in
    ap effects_of joined ∙ on (line ++ 10 ∷ rest) ∙ ap (λ es. effects_of whole ++ es) split
    ∙ sym (append_assoc (effects_of whole) (e ∷ []) later) ∙ ap (λ es. es ++ later) (sym (ended_line whole line s old none on))

cond-le : (b : Bool) → cond b 1 0 ≤ 1
cond-le true = omega arith
cond-le false = omega arith

pub HasRun-line : (whole script written before after : List ℕ) (t : SessionState) (e : Effect) (old new : Summary) → effects_of script ≡ effects_of whole ++ e ∷ []
    → length whole < length script → RunsLine e t before after old new → HasRun whole (written ++ before) old → HasRun script (written ++ after) new
HasRun-line whole script written before after t e old new split longer run so =
    let refused : refused_among (effects_of script) ≡ refused_among (effects_of whole) + cond e.refused 1 0 =
    ap refused_among split ∙ sum_by-append (λ x. cond x.refused 1 0) (effects_of whole) (e ∷ [])
    ∙ ap (λ n. refused_among (effects_of whole) + n) (sum_by-cons (λ x. cond x.refused 1 0) e []) ∙ omega arith in
    record {
      printed_is =
          ap (λ l. written ++ l) run.printed ∙ sym (append_assoc written before e.printed) ∙ ap (λ l. l ++ e.printed) so.printed_is
          ∙ flat_map_more (λ x. x.printed) [] (effects_of whole) e ∙ ap printed_by (sym split);
      lines_are = ap (λ c. c.lines) run.counted ∙ omega (arith, so.lines_are, ap length split, length-append (effects_of whole) (e ∷ []));
      refused_are = ap (λ c. c.refused) run.counted ∙ omega (arith, so.refused_are, refused);
      few = omega (arith, ap (λ c. c.lines) run.counted, so.few, longer);
      few_refused = omega (arith, ap (λ c. c.lines) run.counted, ap (λ c. c.refused) run.counted, so.few_refused, cond-le e.refused);
    }

-- a line does what is kept of it does
pub RunsLine-kept : (s t : SessionState) (n : ℕ) (a b before after : List ℕ) (old new : Summary) → kept a ≡ kept b
    → RunsLine (line_effect s n a) t before after old new → RunsLine (line_effect s n b) t before after old new
RunsLine-kept s t n a b before after old new same run =
    let P : Form → Type 0 = λ f. RunsLine (effect_of s n f) t before after old new in
    subst P (form_of-kept a b same) run

-- ---- one more step, of what was read and written

-- no line was run yet
pub IsRunning-start : (told old : Option (List ℕ)) (held : Held) (s : SessionState) (summary : Summary) (output : List ℕ)
    → held ≡ record { line = []; front = []; unread = []; read = 0 } → s ≡ first_session → summary ≡ record { lines = 0; refused = 0 } → output ≡ []
    → IsRunning told told old old held s summary output
IsRunning-start told old held s summary output empty first none nothing =
    let P : Held → Type 0 = λ h. IsRunning told told old old h s summary output in
    let Q : SessionState → Type 0 = λ u. IsRunning told told old old (record { line = []; front = []; unread = []; read = 0 }) u summary output in
    let R : Summary → Type 0 = λ c. IsRunning told told old old (record { line = []; front = []; unread = []; read = 0 }) first_session c output in
    let S : List ℕ → Type 0 = λ o. IsRunning told told old old (record { line = []; front = []; unread = []; read = 0 }) first_session (record { lines = 0; refused = 0 }) o in
    subst P (sym empty) (subst Q (sym first) (subst R (sym none) (subst S (sym nothing) start)))
  where
    no_effects : effects_of [] ≡ []
    no_effects = sym (effects_from-first []) ∙ effects_from-nil first_session 1

    start : IsRunning told told old old (record { line = []; front = []; unread = []; read = 0 }) first_session (record { lines = 0; refused = 0 }) []
    start = record {
      whole = [];
      part = [];
      written = [];
      bytes = Consumes-nil told;
      counted = refl;
      fits = omega arith;
      ends = inl refl;
      inside = All-nil (λ x. (x == 10) ≡ false);
      front = refl;
      wrote = Appends-nil old;
      goes_on = λ rest. sym (effects_from-first rest) ∙ ap (λ es. es ++ effects_from first_session 1 rest) (sym no_effects);
      has_run = record {
        printed_is = ap printed_by (sym no_effects);
        lines_are = ap length (sym no_effects);
        refused_are = ap refused_among (sym no_effects);
        few = omega arith;
        few_refused = omega arith;
      };
    }

-- the bytes round a line feed, with the line feed on the other side
around : (whole part rest later : List ℕ) → whole ++ part ++ (rest ++ 10 ∷ later) ≡ whole ++ (part ++ rest ++ 10 ∷ []) ++ [] ++ later
around whole part rest later =
    let line = part ++ rest ++ 10 ∷ [] in
    append_assoc whole part (rest ++ 10 ∷ later) ∙ ap (λ l. whole ++ l) (sym (append_assoc part rest (10 ∷ later)) ∙ sym (append_assoc (part ++ rest) (10 ∷ []) later))
    ∙ sym (append_assoc whole line later) ∙ ap (λ l. l ++ later) (sym (append-nil (whole ++ line)))

-- a line was taken and run
pub IsRunning-line : (told left old new : Option (List ℕ)) (h k : Held) (s t : SessionState) (a b : Summary) (before after : List ℕ) → TakesLine true h k → k.read ≡ h.read
    → RunsLine (line_effect s (a.lines + 1) k.line) t before after a b → IsRunning told left old new h s a before → IsRunning told left old new k t b after
IsRunning-line told left old new h k s t a b before after taken same run so =
    let rest = taken.0 in
    let line = so.part ++ rest in
    let script = so.whole ++ (line ++ 10 ∷ []) in
    let none : HasNoEnd line = All-append (λ x. (x == 10) ≡ false) so.part rest so.inside taken.2 in
    let as_kept : kept k.line ≡ kept line = taken.3 ∙ ap (λ f. kept (f ++ rest)) so.front ∙ kept_front so.part rest in
    let run_line = RunsLine-kept s t (a.lines + 1) k.line line before after a b as_kept run in
    let moved : so.whole ++ so.part ++ h.unread ≡ script ++ [] ++ k.unread = ap (λ l. so.whole ++ so.part ++ l) taken.1 ∙ around so.whole so.part rest k.unread in
    record {
      whole = script;
      part = [];
      written = so.written;
      bytes = subst (Consumes told left) moved so.bytes;
      counted = same ∙ so.counted ∙ ap length moved;
      fits = rw same so.fits;
      ends = inr (so.whole ++ line, sym (append_assoc so.whole line (10 ∷ [])));
      inside = All-nil (λ x. (x == 10) ≡ false);
      front = taken.4;
      wrote = so.wrote;
      goes_on = GoesOn-line so.whole line before after s t a b none run_line so.goes_on;
      has_run =
          HasRun-line so.whole script so.written before after t _ a b (ended_line so.whole line s a none so.goes_on)
          (omega (arith, length-append so.whole (line ++ 10 ∷ []), length-append line (10 ∷ []))) run_line so.has_run;
    }

-- no line was left to take
pub IsRunning-front : (told left old new : Option (List ℕ)) (h k : Held) (s : SessionState) (a : Summary) (output : List ℕ) → TakesLine false h k → k.read ≡ h.read
    → IsRunning told left old new h s a output → IsRunning told left old new k s a output
IsRunning-front told left old new h k s a output taken same so =
    let part = so.part ++ h.unread in
    let moved : so.whole ++ so.part ++ h.unread ≡ so.whole ++ part ++ k.unread =
    append_assoc so.whole so.part h.unread ∙ sym (append-nil (so.whole ++ part)) ∙ ap (λ l. so.whole ++ part ++ l) (sym taken.1) in
    record {
      whole = so.whole;
      part = part;
      written = so.written;
      bytes = subst (Consumes told left) moved so.bytes;
      counted = same ∙ so.counted ∙ ap length moved;
      fits = rw same so.fits;
      ends = so.ends;
      inside = All-append (λ x. (x == 10) ≡ false) so.part h.unread so.inside taken.0;
      front = taken.2 ∙ ap (λ f. kept (f ++ h.unread)) so.front ∙ kept_front so.part h.unread;
      wrote = so.wrote;
      goes_on = so.goes_on;
      has_run = so.has_run;
    }

-- the output was written
pub IsRunning-written : (told left old new newer : Option (List ℕ)) (h : Held) (s : SessionState) (a : Summary) (output rest : List ℕ) → Appends new newer output → rest ≡ []
    → IsRunning told left old new h s a output → IsRunning told left old newer h s a rest
IsRunning-written told left old new newer h s a output rest more none so =
    let P : List ℕ → Type 0 = λ l. HasRun so.whole l a in
    record {
      whole = so.whole;
      part = so.part;
      written = so.written ++ output;
      bytes = so.bytes;
      counted = so.counted;
      fits = so.fits;
      ends = so.ends;
      inside = so.inside;
      front = so.front;
      wrote = Appends-trans old new newer so.written output so.wrote more;
      goes_on = so.goes_on;
      has_run = subst P (sym (ap (λ l. (so.written ++ output) ++ l) none ∙ append-nil (so.written ++ output))) so.has_run;
    }

-- where all bytes are in lines, they are the whole lines and the part
pub all_taken : (told left old new : Option (List ℕ)) (h : Held) (s : SessionState) (a : Summary) (output : List ℕ) (so : IsRunning told left old new h s a output) → h.unread ≡ []
    → so.whole ++ so.part ++ h.unread ≡ so.whole ++ so.part
all_taken told left old new h s a output so none = ap (λ l. so.whole ++ so.part ++ l) none ∙ append-nil (so.whole ++ so.part)

-- bytes came
pub IsRunning-filled : (told left later old new : Option (List ℕ)) (h k : Held) (s : SessionState) (a : Summary) (output : List ℕ) → h.unread ≡ [] → Consumes left later k.unread
    → k.front ≡ h.front → k.read ≡ h.read + length k.unread → k.read ≤ most_bytes → IsRunning told left old new h s a output → IsRunning told later old new k s a output
IsRunning-filled told left later old new h k s a output none came same more fits so =
    let taken = all_taken told left old new h s a output so none in
    record {
      whole = so.whole;
      part = so.part;
      written = so.written;
      bytes = Consumes-trans told left later (so.whole ++ so.part) k.unread (subst (Consumes told left) taken so.bytes) came;
      counted = more ∙ omega (arith, so.counted, ap length taken, length-append (so.whole ++ so.part) k.unread);
      fits = fits;
      ends = so.ends;
      inside = so.inside;
      front = same ∙ so.front;
      wrote = so.wrote;
      goes_on = so.goes_on;
      has_run = so.has_run;
    }

-- and so they are after a line
pub room-line : (h k : Held) (e : Effect) (t : SessionState) (before after : List ℕ) (a b : Summary) → TakesLine true h k → RunsLine e t before after a b
    → a.lines + length h.unread ≤ most_bytes → b.lines + length k.unread ≤ most_bytes
room-line h k e t before after a b taken run room =
    omega (arith, room, ap length taken.1, length-append taken.0 (10 ∷ k.unread), ap (λ c. c.lines) run.counted)

pub few-line : (e : Effect) (t : SessionState) (before after : List ℕ) (a b : Summary) → RunsLine e t before after a b → a.refused ≤ a.lines → b.refused ≤ b.lines
few-line e t before after a b run few = omega (arith, few, ap (λ c. c.lines) run.counted, ap (λ c. c.refused) run.counted, cond-le e.refused)
