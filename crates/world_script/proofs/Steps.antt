-- Lines that are run one at a time do what they do in their script.
use Rattle.std.proofs.Common.{◌≡◌, ℕ, ◌+◌, ◌==◌, Bool, true, false, List, [], ◌∷◌, ◌++◌, length, refl, sym, ◌∙◌, ap, arith, append_assoc, append-nil, cond}
use Rattle.std.specs.List.{All, onto_first, slice_split}
use Rattle.std.proofs.lemmas.List.Elements.{All-cons, All-head, All-nil, All-tail}
use Rattle.std.proofs.lemmas.List.Sums.{sum_by-cons}
use Rattle.ecs_model.specs.Output.{Effect, count_of, effects, effects_of}
use Rattle.ecs_model.specs.Script.{lines_of, without_empty_last}
use Rattle.script_streams.specs.Lines.{HasNoEnd}
use Rattle.world_script.specs.Run.{line_effect, printed_by, refused_among}
use Rattle.world_script.specs.Stepping.{IsAsScript, LinesStepAsScript, Stepping, first_stepping, step_effect, stepped, stepped_all}

-- ---- what they print and count

abbrev from : Stepping → List (List ℕ) → List Effect
from s lines = effects line_effect s.session (s.lines + 1) lines

all_printed : (s : Stepping) (lines : List (List ℕ)) → (stepped_all s lines).printed ≡ s.printed ++ printed_by (from s lines)
all_printed s [] = sym (append-nil s.printed)
all_printed s (line ∷ lines) =
    let e = step_effect s line in
    all_printed (stepped s line) lines ∙ append_assoc s.printed e.printed (printed_by (from (stepped s line) lines))

all_counted : (s : Stepping) (lines : List (List ℕ)) → (stepped_all s lines).lines ≡ s.lines + length (from s lines)
all_counted s [] = omega arith
all_counted s (line ∷ lines) = all_counted (stepped s line) lines ∙ omega arith

all_refused : (s : Stepping) (lines : List (List ℕ)) → (stepped_all s lines).refused ≡ s.refused + refused_among (from s lines)
all_refused s [] = omega arith
all_refused s (line ∷ lines) =
    all_refused (stepped s line) lines ∙ omega (arith, sum_by-cons (λ (x : Effect). cond x.refused 1 0) (step_effect s line) (from (stepped s line) lines))

-- from the first session on, they are what the script does
from_first : (script : List ℕ) → from first_stepping (lines_of script) ≡ effects_of script
unfolding effects_of
from_first script = refl

as_script : (script : List ℕ) → IsAsScript script (stepped_all first_stepping (lines_of script))
as_script script =
    let lines = lines_of script in
    let same = from_first script in
    let many : (stepped_all first_stepping lines).lines ≡ (count_of script).0 = omega (arith, all_counted first_stepping lines, ap length same) in
    let refused : (stepped_all first_stepping lines).refused ≡ (count_of script).1 = omega (arith, all_refused first_stepping lines, ap refused_among same) in
    record {
      printed = all_printed first_stepping lines ∙ ap printed_by same;
      counted = ap (λ n. (n, (stepped_all first_stepping lines).refused)) many ∙ ap (λ n. ((count_of script).0, n)) refused;
    }

-- ---- no line has a line feed

abbrev HaveNoEnd : List (List ℕ) → Type 0
HaveNoEnd lines = All HasNoEnd lines

none_inside : HasNoEnd []
none_inside = All-nil (λ b. (b == 10) ≡ false)

onto : (b : ℕ) (parts : List (List ℕ)) → (b == 10) ≡ false → HaveNoEnd parts → HaveNoEnd (onto_first b parts)
onto b [] e none = All-cons HasNoEnd (b ∷ []) [] (All-cons (λ x. (x == 10) ≡ false) b [] e none_inside) (All-nil HasNoEnd)
onto b (part ∷ parts) e none =
    All-cons HasNoEnd (b ∷ part) parts (All-cons (λ x. (x == 10) ≡ false) b part e (All-head HasNoEnd part parts none)) (All-tail HasNoEnd part parts none)

split_at : (b : ℕ) (parts : List (List ℕ)) (is_end : Bool) → (b == 10) ≡ is_end → HaveNoEnd parts → HaveNoEnd (cond is_end ([] ∷ parts) (onto_first b parts))
split_at b parts true e none = All-cons HasNoEnd [] parts none_inside none
split_at b parts false e none = onto b parts e none

split_none : (bytes : List ℕ) → HaveNoEnd (slice_split (λ b. b == 10) bytes)
split_none [] = All-cons HasNoEnd [] [] none_inside (All-nil HasNoEnd)
split_none (b ∷ bs) = split_at b (slice_split (λ c. c == 10) bs) (b == 10) refl (split_none bs)

but_last : (lines : List (List ℕ)) → HaveNoEnd lines → HaveNoEnd (without_empty_last lines)
but_last [] none = none
but_last ([] ∷ []) none = All-nil HasNoEnd
but_last ([] ∷ (next ∷ lines)) none =
    All-cons HasNoEnd [] (without_empty_last (next ∷ lines)) none_inside (but_last (next ∷ lines) (All-tail HasNoEnd [] (next ∷ lines) none))
but_last ((b ∷ bs) ∷ lines) none =
    All-cons HasNoEnd (b ∷ bs) (without_empty_last lines) (All-head HasNoEnd (b ∷ bs) lines none) (but_last lines (All-tail HasNoEnd (b ∷ bs) lines none))

all_inside : (script : List ℕ) → HaveNoEnd (lines_of script)
unfolding lines_of
all_inside script = but_last (slice_split (λ b. b == 10) script) (split_none script)

pub lines_step : LinesStepAsScript
lines_step = λ script. (all_inside script, as_script script)
