-- What `run` says of its output, where all bytes are known.
use Rattle.std.proofs.Common.{◌≡◌, ℕ, ◌≤◌, ◌<◌, List, [], ◌∷◌, ◌++◌, length, take, Option, None, Some, Result, Err, inl, inr, ℤ, to_z, of_z, w32, refl, sym, ◌∙◌, ap, subst, arith, append_assoc, length-append}
use Rattle.std.specs.Prelude.{◌⊎◌, ⊤}
use Rattle.std.proofs.lemmas.List.{take_all}
use Rattle.ecs_model.specs.Output.{output_of}
use Rattle.script_streams.specs.Lines.{most_bytes}
use Rattle.world_script.specs.Whole.{WroteFront, WroteFull, WroteToEnd, WroteWhole}
use Rattle.world_script.specs.declared.errors.RunError.{RunError}
use Rattle.world_script.specs.declared.errors.RunError.TheVariants as run
use Rattle.world_script.specs.declared.lines.Summary.{Summary}
use Rattle.flecsq_c.specs.Memory.{Wrote}
use Rattle.flecsq_c.specs.Runs.{RunsFront, RunsScript}
use Rattle.flecsq_c.specs.Statuses.{run_status}
use Rattle.flecsq_c.specs.declared.Ran.{Ran}

-- a prefix of the output of a script's beginning
pub record IsFront (script written : List ℕ) : Type 0 where
  pub begin : List ℕ
  pub rest : List ℕ
  pub count : ℕ
  pub is : script ≡ begin ++ rest
  pub within : count ≤ length (output_of begin)
  pub bytes : written ≡ take count (output_of begin)

pub IsFront-none : (script : List ℕ) → IsFront script []
IsFront-none script = record { begin = []; rest = script; count = 0; is = refl; within = omega arith; bytes = refl }

pub IsFront-front : (script written : List ℕ) (left : Option (List ℕ)) → WroteFront (Some script) left (Some []) (Some written) → IsFront script written
IsFront-front script written None w = absurd w.2.bytes
IsFront-front script written (Some rest) w = record {
  begin = w.0;
  rest = w.1 ++ rest;
  count = w.3.0;
  is = w.2.bytes ∙ append_assoc w.0 w.1 rest;
  within = w.3.1;
  bytes = w.3.2;
}

pub IsFront-end : (script written : List ℕ) (left : Option (List ℕ)) → WroteToEnd (Some script) left (Some []) (Some written) → IsFront script written
IsFront-end script written None w = absurd w.1
IsFront-end script written (Some rest) w = record { begin = w.0; rest = rest; count = w.3.0; is = w.1; within = w.3.1; bytes = w.3.2 }

pub IsFront-whole : (script written : List ℕ) (left : Option (List ℕ)) → WroteWhole (Some script) left (Some []) (Some written) → IsFront script written
IsFront-whole script written None w = absurd w.2.bytes
IsFront-whole script written (Some rest) w =
    let all = output_of w.0 in
    record {
      begin = w.0;
      rest = w.1 ++ rest;
      count = length all;
      is = w.2.bytes ∙ append_assoc w.0 w.1 rest;
      within = omega arith;
      bytes = w.3 ∙ sym (take_all (length all) all (omega arith));
    }

pub IsFront-full : (script written : List ℕ) (left : Option (List ℕ)) → WroteFull (Some script) left (Some []) (Some written) → IsFront script written
IsFront-full script written None w = absurd w.3
IsFront-full script written (Some rest) w =
    let all = output_of w.0 in
    record {
      begin = w.0;
      rest = w.1 ++ (w.2 ∷ rest);
      count = length all;
      is = w.3 ∙ append_assoc (w.0 ++ w.1) (w.2 ∷ []) rest ∙ append_assoc w.0 w.1 (w.2 ∷ rest);
      within = omega arith;
      bytes = w.7 ∙ sym (take_all (length all) all (omega arith));
    }

pub is_long : (script written : List ℕ) (left : Option (List ℕ)) → WroteFull (Some script) left (Some []) (Some written) → most_bytes < length script
is_long script written None w = absurd w.3
is_long script written (Some rest) w =
    omega (arith, ap length w.3, length-append ((w.0 ++ w.1) ++ w.2 ∷ []) rest, length-append (w.0 ++ w.1) (w.2 ∷ []), w.4)

-- ---- the answers of `flecsq_run`

abbrev pub none_ran : Ran
none_ran = record { written = 0; lines = 0; refused = 0 }

abbrev pub IsShort : RunError → Type 0
IsShort run.Read = ⊤
IsShort run.Write = ⊤
IsShort run.Memory = ⊤
IsShort run.TooLong = ⊥

-- nothing was copied
pub RunsScript-none : (script before after : List ℕ) (ran : Ran) (error : RunError) → IsShort error → after ≡ before → ran ≡ none_ran → RunsScript script before after ran (run_status (Err error))
RunsScript-none script before after ran error short kept none =
    let P : Ran → Type 0 = λ r. RunsScript script before after r (run_status (Err error)) in
    subst P (sym none) (record {
      answer = Err error;
      told = refl;
      whole = tt;
      front = record {
        begin = [];
        rest = script;
        count = 0;
        is = refl;
        within = omega arith;
        wrote = record { many = refl; copied = refl; left = kept };
        uncounted = (refl, refl);
        long = λ e. absurd (subst IsShort e short);
      };
    })

-- what was written was copied
module _ (script given begun written bytes before after : List ℕ) (left : Option (List ℕ)) (n : ℕ) (none : Ran) (whole : given ≡ script) (empty : begun ≡ []) (same : bytes ≡ written)
    (copied : Wrote bytes before after n) (uncounted : none ≡ none_ran) where
  abbrev ran : Ran
  ran = record { written = n; lines = none.lines; refused = none.refused }

  copies : (error : RunError) → IsFront script written → (error ≡ run.TooLong → most_bytes < length script) → RunsFront script before after ran error
  copies error front long =
      let P : List ℕ → Type 0 = λ l. Wrote l before after n in
      record {
        begin = front.begin;
        rest = front.rest;
        count = front.count;
        is = front.is;
        within = front.within;
        wrote = subst P (same ∙ front.bytes) copied;
        uncounted = (ap (λ r. r.lines) uncounted, ap (λ r. r.refused) uncounted);
        long = long;
      }

  -- as bytes that were given and written
  at : (Claim : Option (List ℕ) → Option (List ℕ) → Option (List ℕ) → Option (List ℕ) → Type 0) → Claim (Some given) left (Some begun) (Some written) → Claim (Some script) left (Some []) (Some written)
  at Claim w = subst (λ g. Claim (Some g) left (Some []) (Some written)) whole (subst (λ b. Claim (Some given) left (Some b) (Some written)) empty w)

  front_write : WroteFront (Some given) left (Some begun) (Some written) ⊎ WroteToEnd (Some given) left (Some begun) (Some written) → RunsFront script before after ran run.Write
  front_write (inl w) = copies run.Write (IsFront-front script written left (at WroteFront w)) (λ e. absurd (subst IsShort e tt))
  front_write (inr w) = copies run.Write (IsFront-end script written left (at WroteToEnd w)) (λ e. absurd (subst IsShort e tt))

  front_at : (error : RunError) (r : Result Summary RunError) → r ≡ Err error → (r ≡ Err run.Read → WroteWhole (Some given) left (Some begun) (Some written)) → (r ≡ Err run.TooLong → WroteFull (Some given) left (Some begun) (Some written))
      → (r ≡ Err run.Memory → WroteFront (Some given) left (Some begun) (Some written))
      → (r ≡ Err run.Write → WroteFront (Some given) left (Some begun) (Some written) ⊎ WroteToEnd (Some given) left (Some begun) (Some written))
      → RunsFront script before after ran error
  front_at run.Read r is reads long memory writes = copies run.Read (IsFront-whole script written left (at WroteWhole (reads is))) (λ e. absurd (subst IsShort e tt))
  front_at run.Memory r is reads long memory writes = copies run.Memory (IsFront-front script written left (at WroteFront (memory is))) (λ e. absurd (subst IsShort e tt))
  front_at run.TooLong r is reads long memory writes =
      copies run.TooLong (IsFront-full script written left (at WroteFull (long is))) (λ e. is_long script written left (at WroteFull (long is)))
  front_at run.Write r is reads long memory writes = front_write (writes is)

  -- a write was refused memory
  pub RunsScript-out : (error : RunError) (r : Result Summary RunError) → r ≡ Err error → (r ≡ Err run.Read → WroteWhole (Some given) left (Some begun) (Some written)) → (r ≡ Err run.TooLong → WroteFull (Some given) left (Some begun) (Some written))
      → (r ≡ Err run.Memory → WroteFront (Some given) left (Some begun) (Some written))
      → (r ≡ Err run.Write → WroteFront (Some given) left (Some begun) (Some written) ⊎ WroteToEnd (Some given) left (Some begun) (Some written))
      → RunsScript script before after ran (run_status (Err run.Memory))
  RunsScript-out error r is reads long memory writes =
      let front = front_at error r is reads long memory writes in
      record {
        answer = Err run.Memory;
        told = refl;
        whole = tt;
        front = record {
          begin = front.begin;
          rest = front.rest;
          count = front.count;
          is = front.is;
          within = front.within;
          wrote = front.wrote;
          uncounted = front.uncounted;
          long = λ e. absurd (subst IsShort e tt);
        };
      }

  pub RunsScript-err : (error : RunError) (status : ℤ) (r : Result Summary RunError) → r ≡ Err error → status ≡ run_status (Err error)
      → (r ≡ Err run.Read → WroteWhole (Some given) left (Some begun) (Some written)) → (r ≡ Err run.TooLong → WroteFull (Some given) left (Some begun) (Some written))
      → (r ≡ Err run.Memory → WroteFront (Some given) left (Some begun) (Some written))
      → (r ≡ Err run.Write → WroteFront (Some given) left (Some begun) (Some written) ⊎ WroteToEnd (Some given) left (Some begun) (Some written))
      → RunsScript script before after ran status
  RunsScript-err error status r is told reads long memory writes =
      record { answer = Err error; told = told; whole = tt; front = front_at error r is reads long memory writes }

-- a status fits a number
pub status_fits : (error : RunError) (s : ℤ) → s ≡ run_status (Err error) → to_z w32 (of_z w32 s) ≡ run_status (Err error)
status_fits run.Read s e = ap (λ z. to_z w32 (of_z w32 z)) e
status_fits run.Write s e = ap (λ z. to_z w32 (of_z w32 z)) e
status_fits run.Memory s e = ap (λ z. to_z w32 (of_z w32 z)) e
status_fits run.TooLong s e = ap (λ z. to_z w32 (of_z w32 z)) e
