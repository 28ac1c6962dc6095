-- Local queries, and whose rows they have.
use Rattle.std.specs.Prelude.{◌≡◌, ℕ, true, List, ◌∷◌, Contains}
use Rattle.query_model.specs.Query.{Query}
use Rattle.query_model.specs.Local.{is_local}
use Rattle.ecs_model.specs.rows.View.{View}
use Rattle.ecs_model.specs.rows.Rows.{Row, rows}

-- `$this` is the one variable, and every term is on `$this` with self alone and not closed
abbrev pub IsLocal : Query → Type 0
IsLocal q = is_local q ≡ true

-- the entity is `$this` of some row
abbrev pub IsThisOfSome : View → Query → ℕ → Type 0
IsThisOfSome w q e = (r : Row) × (rest : List ℕ) × Contains (rows w q) r × (r.bindings ≡ e ∷ rest)
