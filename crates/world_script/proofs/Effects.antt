-- What the lines of a script do, one after another.
use Rattle.std.proofs.Common.{◌≡◌, ℕ, ◌+◌, List, [], ◌∷◌, refl, ap}
use Rattle.ecs_model.specs.stored.Session.{SessionState, first_session}
use Rattle.ecs_model.specs.Script.{lines_of}
use Rattle.ecs_model.specs.Output.{effects, effects_of}
use Rattle.world_script.specs.Run.{line_effect, effects_from}
use Rattle.world_script.proofs.FirstLine.{lines_of-nil}

pub effects_from-line : (s : SessionState) (n : ℕ) (rest line later : List ℕ) → lines_of rest ≡ line ∷ lines_of later
    → effects_from s n rest ≡ line_effect s n line ∷ effects_from (line_effect s n line).session (n + 1) later
unfolding effects_from
effects_from-line s n rest line later e = ap (effects line_effect s n) e

pub effects_from-nil : (s : SessionState) (n : ℕ) → effects_from s n [] ≡ []
unfolding effects_from
effects_from-nil s n = ap (effects line_effect s n) lines_of-nil

-- from the first session and the first line on, the lines do what the script does
pub effects_from-first : (script : List ℕ) → effects_from first_session 1 script ≡ effects_of script
unfolding effects_from effects_of
effects_from-first script = refl
