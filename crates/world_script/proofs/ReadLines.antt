-- A line that was read does what its form says.
use Rattle.std.proofs.Common.{◌≡◌, ℕ, Bool, List, Result, sym, subst}
use Rattle.std.specs.Prelude.{IfOk, codes}
use Rattle.std.specs.declared.alloc.AllocError.{AllocError}
use Rattle.ecs_model.specs.Output.{effect_of}
use Rattle.ecs_model.specs.Script.{Form, BadLine}
use Rattle.ecs_observe.specs.Standing.{Standing, session_of}
use Rattle.world_script.specs.Run.{IsDone}
use Rattle.world_script.specs.Told.{TellsRefusal}
use Rattle.world_script.proofs.Orders.{IfOk-bad}

-- the same form
module _ (r : Result Bool AllocError) (old new : Standing) (n : ℕ) (before after : List ℕ) (form : Form) where
  abbrev Does : Form → Type 0
  Does f = IfOk r (IsDone (effect_of (session_of old) n f) (session_of new) before after)

  pub does_same : (same : Form) → form ≡ same → Does same → Does form
  does_same same e = subst Does (sym e)

-- a line of no form
pub does_bad : (r : Result Bool AllocError) (s : Standing) (n : ℕ) (before after : List ℕ) (form : Form) → form ≡ BadLine → IfOk r (TellsRefusal n (codes "BadLine") before after)
    → IfOk r (IsDone (effect_of (session_of s) n form) (session_of s) before after)
does_bad r s n before after form e told = does_same r s s n before after form BadLine e (IfOk-bad r (session_of s) n before after told)
