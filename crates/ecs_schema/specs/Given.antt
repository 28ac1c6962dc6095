-- What a schema is made of, and what its values are.
use Rattle.std.specs.Prelude.{◌≡◌, ℕ, List, map, length, ℤ, IsTrue}
use Rattle.std.specs.Borrow.{Bor}
use Rattle.ecs_model.specs.declared.Kind.{Kind}
use Rattle.ecs_model.specs.Schema.{Schema, all_fit}

-- the fields that names and kinds give
abbrev pub given : List (Bor (List ℕ) × Kind) → Schema
given fields = map (λ p. record { name = (p.0).now; kind = p.1 }) fields

-- as many numbers as there are fields, each in its field's range
abbrev pub IsValueOf : Schema → List ℤ → Type 0
IsValueOf fs vs = (length vs ≡ length fs) × IsTrue (all_fit fs vs)
