-- A whole script and its output, and what was written where a script was not run to its end.
use Rattle.std.specs.Prelude.{◌≡◌, ◌⊎◌, ℕ, ◌≤◌, List, [], ◌∷◌, ◌++◌, length, Option, IfSome, Result, Err}
use Rattle.std.specs.Io.KnownBytes.{Appends, Consumes, IsAtEnd}
use Rattle.ecs_model.specs.Output.{output_of, count_of}
use Rattle.script_streams.specs.Lines.{HasNoEnd, most_bytes}
use Rattle.script_streams.specs.declared.streams.Calls.{Calls}
use Rattle.script_streams.specs.Streams.{IsCalm, IsFaulty, TakesFront}
use Rattle.world_script.specs.declared.errors.RunError.{RunError}
use Rattle.world_script.specs.declared.lines.Summary.{Summary}

-- the bytes, where they are known, are no more than a script may have
abbrev pub FitsScript : Option (List ℕ) → Type 0
FitsScript told = IfSome told (λ bytes. length bytes ≤ most_bytes)

-- what the writer holds grew by the output of the script
abbrev pub IsOutput : Option (List ℕ) → Option (List ℕ) → Option (List ℕ) → Type 0
IsOutput told old new = IfSome told (λ script. Appends old new (output_of script))

-- the lines of the script, and those of them that are refused, are counted
abbrev pub IsCount : Option (List ℕ) → Summary → Type 0
IsCount told summary = IfSome told (λ script. (summary.lines, summary.refused) ≡ count_of script)

-- no bytes, or bytes whose last is a line feed
abbrev pub EndsInFeed : List ℕ → Type 0
EndsInFeed bytes = (bytes ≡ []) ⊎ ((front : List ℕ) × (bytes ≡ front ++ 10 ∷ []))

-- the bytes that were read are whole lines, and after their last line feed a part of one
pub record IsRead (old new : Option (List ℕ)) (whole part : List ℕ) : Type 0 where
  pub bytes : Consumes old new (whole ++ part)
  pub ends : EndsInFeed whole
  pub inside : HasNoEnd part

-- of the bytes that were read, the output of the whole lines was written
abbrev pub WroteWhole : Option (List ℕ) → Option (List ℕ) → Option (List ℕ) → Option (List ℕ) → Type 0
WroteWhole told left old new = (whole : List ℕ) × (part : List ℕ) × IsRead told left whole part × Appends old new (output_of whole)

-- or a prefix of it
abbrev pub WroteFront : Option (List ℕ) → Option (List ℕ) → Option (List ℕ) → Option (List ℕ) → Type 0
WroteFront told left old new = (whole : List ℕ) × (part : List ℕ) × IsRead told left whole part × TakesFront old new (output_of whole)

-- or, as the reader is at its end, a prefix of the output of all bytes that were read
abbrev pub WroteToEnd : Option (List ℕ) → Option (List ℕ) → Option (List ℕ) → Option (List ℕ) → Type 0
WroteToEnd told left old new = (script : List ℕ) × Consumes told left script × IsAtEnd left × TakesFront old new (output_of script)

-- one byte more than a script may have was read, and of those before it the output of the whole lines was written
abbrev pub WroteFull : Option (List ℕ) → Option (List ℕ) → Option (List ℕ) → Option (List ℕ) → Type 0
WroteFull told left old new =
    (whole : List ℕ) × (part : List ℕ) × (byte : ℕ) × Consumes told left ((whole ++ part) ++ byte ∷ []) × (length (whole ++ part) ≡ most_bytes)
    × EndsInFeed whole × HasNoEnd part × Appends old new (output_of whole)

-- where the calls were calm, they are faulty after this error, and calm after any other answer
abbrev pub FaultyAt : {T : Type 0} → RunError → Calls → Result T RunError → Calls → Type 0
FaultyAt error old answer new = IsCalm old → (answer ≡ Err error → IsFaulty new) × (¬ (answer ≡ Err error) → IsCalm new)
