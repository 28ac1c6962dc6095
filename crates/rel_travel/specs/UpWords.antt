-- Words by entity, which say what is found on the way up from it.
use Rattle.std.specs.Prelude.{ℕ, ◌≡◌, ◌==◌, ◌⊎◌, List, [], ◌∷◌, Option, Some, None, IfSome, if◌then◌else◌}
use Rattle.rel_travel.specs.declared.path.Step.{Step}

-- stands where nobody is found: no entity has this index
abbrev pub nobody : ℕ
nobody = 4294967295

-- what a word says of a way up: 0 says nothing
abbrev pub told : ℕ → Option (Option ℕ)
told word = if word == 0 then None else (if word == nobody then Some None else Some (Some word))

-- what the word of each entity says is found from it on
abbrev pub AreKnown : (ℕ → Option ℕ) → (ℕ → ℕ) → Type 0
AreKnown above words = (e : ℕ) → IfSome (told (words e)) (λ found. found ≡ above e)

-- a word may be noted for an index, and no other changes
abbrev pub MayNote : (ℕ → ℕ) → (ℕ → ℕ) → ℕ → ℕ → Type 0
MayNote old new i word = (e : ℕ) → (new e ≡ old e) ⊎ ((e ≡ i) × (new e ≡ word))

-- this is found from the entity of each step on, but for the first step, which is the last in the list
abbrev pub AllFind : (ℕ → Option ℕ) → Option ℕ → List Step → Type 0
AllFind above found [] = Unit {0}
AllFind above found (f ∷ []) = Unit {0}
AllFind above found (f ∷ g ∷ gs) = (above f.index ≡ found) × AllFind above found (g ∷ gs)
