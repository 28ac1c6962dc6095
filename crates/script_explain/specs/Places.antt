-- Places in a line, and how it is quoted with a mark under a part of it.
use Rattle.std.specs.Prelude.{ℕ, zero, suc, ◌≤◌, ◌+◌, ◌-◌, ◌==◌, Bool, not, ◌&&◌, ◌||◌, List, [], ◌∷◌, ◌++◌, drop, take, length, flat_map, nat_le, nat_lt, if◌then◌else◌}
use Rattle.ecs_model.specs.Script.{word_and_rest}
use Rattle.ecs_model.specs.Text.{trim_front}
use Rattle.script_explain.specs.declared.parts.Part.{Part}

-- a part lies in a line
pub record IsWithin (line : List ℕ) (part : Part) : Type 0 where
  pub ascends : part.start ≤ part.end
  pub within : part.end ≤ length line

-- what stands after so many words of a text, from the next word on
abbrev pub text_behind : ℕ → List ℕ → List ℕ
text_behind zero bs = trim_front bs
text_behind (suc n) bs = text_behind n (word_and_rest bs).1

-- a byte as it is quoted: one that a terminal may obey, and of a line that isn't UTF-8 one beyond ASCII, becomes `?`
abbrev pub shown : Bool → ℕ → ℕ
shown is_text b = if (nat_lt b 32 && not (b == 9)) || b == 127 || (nat_le 128 b && not is_text) then 63 else b

-- whether a byte goes on with a character: it takes no column of its own
abbrev pub goes_on : Bool → ℕ → Bool
goes_on is_text b = is_text && nat_le 128 b && nat_lt b 192

-- what stands under a byte before the marks: a tab under a tab, so that columns stay
abbrev pub gap : Bool → ℕ → List ℕ
gap is_text b = if goes_on is_text b then [] else (if b == 9 then 9 ∷ [] else 32 ∷ [])

-- what stands under a byte that is marked
abbrev pub mark : Bool → ℕ → List ℕ
mark is_text b = if goes_on is_text b then [] else 94 ∷ []

-- the line of marks under a part, at least one
abbrev pub marks : Bool → List ℕ → Part → List ℕ
marks is_text line part =
    flat_map (gap is_text) (take part.start line) ++ 94 ∷ flat_map (mark is_text) (take (part.end - (part.start + 1)) (drop (part.start + 1) line))
