-- The first line of a script, and the lines after it.
use Rattle.std.proofs.Common.{◌≡◌, ℕ, ◌<◌, ◌==◌, List, [], ◌∷◌, ◌++◌, length, refl, ◌∙◌, ap, arith}
use Rattle.std.specs.List.{slice_split}
use Rattle.std.proofs.lemmas.List.Splits.{slice_split_none, slice_split_at, length-slice_split}
use Rattle.ecs_model.specs.Script.{lines_of, without_empty_last}
use Rattle.script_streams.specs.Lines.{HasNoEnd}

-- a part with others after it isn't the last
without_empty_last-cons : (line : List ℕ) (lines : List (List ℕ)) → 0 < length lines → without_empty_last (line ∷ lines) ≡ line ∷ without_empty_last lines
without_empty_last-cons line [] some = absurd (omega arith)
without_empty_last-cons [] (next ∷ lines) some = refl
without_empty_last-cons (b ∷ bs) (next ∷ lines) some = refl

without_empty_last-last : (line : List ℕ) → 0 < length line → without_empty_last (line ∷ []) ≡ line ∷ []
without_empty_last-last [] some = absurd (omega arith)
without_empty_last-last (b ∷ bs) some = refl

-- a line ends at its line feed
pub lines_of-line : (line later : List ℕ) → HasNoEnd line → lines_of (line ++ 10 ∷ later) ≡ line ∷ lines_of later
unfolding lines_of
lines_of-line line later none =
    ap without_empty_last (slice_split_at (λ b. b == 10) line 10 later none refl)
    ∙ without_empty_last-cons line (slice_split (λ b. b == 10) later) (omega (arith, length-slice_split (λ b. b == 10) later))

pub lines_of-nil : lines_of [] ≡ []
unfolding lines_of
lines_of-nil = refl

-- a last line without one counts if it isn't empty
pub lines_of-last : (line : List ℕ) → 0 < length line → HasNoEnd line → lines_of line ≡ line ∷ lines_of []
unfolding lines_of
lines_of-last line some none = ap without_empty_last (slice_split_none (λ b. b == 10) line none) ∙ without_empty_last-last line some
