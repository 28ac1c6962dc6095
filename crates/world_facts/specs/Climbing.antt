-- What is met on the way up from parent to parent.
use Rattle.std.specs.Prelude.{◌≡◌, ◌<◌, ℕ, Bool, List, [], ◌∷◌, Option, find}
use Rattle.world_facts.specs.declared.climb.Halt.{Halt}
use Rattle.world_facts.specs.declared.climb.Halt.TheVariants.{Ended, Fork as Forked}
use Rattle.world_facts.specs.declared.climb.Start.{Start}
use Rattle.world_facts.specs.declared.climb.Start.TheVariants.{At, Fork, Told}
use Rattle.world_facts.specs.declared.climb.Targets.{Targets}
use Rattle.world_facts.specs.declared.climb.Targets.TheVariants.{Nothing, One, Several}

-- how many targets there are, and which where there is one
abbrev pub targets_as : List ℕ → Targets
targets_as [] = Nothing
targets_as (t ∷ []) = One t
targets_as (t ∷ u ∷ ts) = Several

-- where a climb begins: what it finds is known, or there are several targets, or the same is found from an entity on
abbrev pub IsStart : Start → (ℕ → Option ℕ) → Option ℕ → List ℕ → Type 0
IsStart (Told found) from above targets = found ≡ above
IsStart Fork from above targets = Several ≡ targets_as targets
IsStart (At e) from above targets = from e ≡ above

-- where a climb from an entity halts: what it found, which is found from the mark on too; or an entity below a size from whose line on the same is found as from the start, and from itself
abbrev pub IsHalt : Halt → ℕ → (ℕ → Bool) → (ℕ → List ℕ) → ℕ → Type 0
IsHalt (Ended found mark) size hit line start = (found ≡ find hit (start ∷ line start)) × (found ≡ find hit (mark ∷ line mark))
IsHalt (Forked at) size hit line start = (at < size) × (find hit (line at) ≡ find hit (start ∷ line start)) × (find hit (line at) ≡ find hit (at ∷ line at))
