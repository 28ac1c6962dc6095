-- What a run has printed and counted at its end.
use Rattle.std.proofs.Common.{◌≡◌, ℕ, ◌+◌, List, [], ◌++◌, length, Option, None, Some, IfSome, sym, ◌∙◌, ap, subst, arith, append-nil, length-append}
use Rattle.std.specs.Io.KnownBytes.{Appends, Consumes, IsAtEnd}
use Rattle.std.proofs.KnownBytes.{Appends-trans}
use Rattle.ecs_model.specs.Output.{count_of, output_of}
use Rattle.ecs_model.specs.stored.Session.{SessionState}
use Rattle.script_streams.specs.Lines.{Held}
use Rattle.world_script.specs.declared.lines.Summary.{Summary}
use Rattle.world_script.specs.Run.{line_effect}
use Rattle.world_script.specs.Running.{HasEnded, IsRunning, RunsLine}
use Rattle.world_script.specs.Whole.{IsCount, IsOutput}
use Rattle.world_script.proofs.KeptLines.{kept-some, kept_again}
use Rattle.world_script.proofs.RunSteps.{HasRun-line, RunsLine-kept, all_taken, last_line}

-- the last line was run
pub HasEnded-line : (told left old new : Option (List ℕ)) (h : Held) (s t : SessionState) (a b : Summary) (before after : List ℕ) → h.unread ≡ [] → ¬ (length h.front ≡ 0)
    → RunsLine (line_effect s (a.lines + 1) h.front) t before after a b → IsRunning told left old new h s a before → HasEnded told left old new b after
HasEnded-line told left old new h s t a b before after taken some run so =
    let there = kept-some so.part (λ e. some (ap length so.front ∙ e)) in
    let script = so.whole ++ so.part in
    let all : so.whole ++ so.part ++ h.unread ≡ script = all_taken told left old new h s a before so taken in
    let run_line = RunsLine-kept s t (a.lines + 1) h.front so.part before after a b (kept_again h.front so.part so.front) run in
    record {
      script = script;
      written = so.written;
      bytes = subst (Consumes told left) all so.bytes;
      fits = omega (arith, so.fits, so.counted, ap length all);
      wrote = so.wrote;
      has_run =
          HasRun-line so.whole script so.written before after t _ a b (last_line so.whole so.part s a there so.inside so.goes_on)
          (omega (arith, there, length-append so.whole so.part)) run_line so.has_run;
    }

-- what was read to the end is all that is known
IfSome-read : (P : List ℕ → Type 0) (told left : Option (List ℕ)) (script : List ℕ) → Consumes told left script → IsAtEnd left → P script → IfSome told P
IfSome-read P None left script read end p = tt
IfSome-read P (Some x) None script read end p = absurd read
IfSome-read P (Some x) (Some y) script read end p = subst P (sym (read ∙ ap (λ l. script ++ l) end ∙ append-nil script)) p

-- all output was written
pub IsOutput-ended : (told left old new newer : Option (List ℕ)) (a : Summary) (output : List ℕ) → IsAtEnd left → HasEnded told left old new a output → Appends new newer output
    → IsOutput told old newer
IsOutput-ended told left old new newer a output end so more =
    IfSome-read (λ script. Appends old newer (output_of script)) told left so.script so.bytes end
    (subst (Appends old newer) so.has_run.printed_is (Appends-trans old new newer so.written output so.wrote more))

pub IsCount-ended : (told left old new : Option (List ℕ)) (a : Summary) (output : List ℕ) → IsAtEnd left → HasEnded told left old new a output → IsCount told a
IsCount-ended told left old new a output end so =
    let P : ℕ → ℕ × ℕ = λ l. (l, a.refused) in
    let Q : ℕ → ℕ × ℕ = λ r. ((count_of so.script).0, r) in
    IfSome-read (λ script. (a.lines, a.refused) ≡ count_of script) told left so.script so.bytes end (ap P so.has_run.lines_are ∙ ap Q so.has_run.refused_are)
