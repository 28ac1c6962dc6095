-- What a search along a line meets.
use Rattle.std.specs.Prelude.{ℕ, ◌≡◌, Bool, false, List, ◌∷◌, Some, None, find}
use Rattle.rel_travel.specs.declared.line.Met.{Met}
use Rattle.rel_travel.specs.declared.line.Met.TheVariants.{Found, Nothing, Missed}

-- what is met at an entity: what is found from it on, or that it isn't hit itself
abbrev pub IsMet : (ℕ → Bool) → (ℕ → List ℕ) → ℕ → Met → Type 0
IsMet hit line t (Found x) = find hit (t ∷ line t) ≡ Some x
IsMet hit line t Nothing = find hit (t ∷ line t) ≡ None
IsMet hit line t Missed = hit t ≡ false
