-- The laws of these definitions, as statements.
use Rattle.std.specs.Prelude.{◌≡◌, ℕ, IsTrue}
use Rattle.ecs_model.specs.stored.Session.{SessionState}
use Rattle.ecs_model.specs.Script.{Form}
use Rattle.ecs_model.specs.Output.{effect_of}

-- a refused line changes nothing
abbrev pub RefusedLinesChangeNothing : Type 0
RefusedLinesChangeNothing = (s : SessionState) (n : ℕ) (f : Form) → IsTrue (effect_of s n f).refused → (effect_of s n f).session ≡ s
