-- Values of facts, by their bytes.
use Rattle.std.specs.Prelude.{ℕ, List, ℤ}
use Rattle.ecs_model.specs.Bytes.{values_in}
use Rattle.ecs_model.specs.Schema.{Schema}

-- the fields of an id, and the bytes of a value
pub record ShownValue : Type 0 where
  pub schema : Schema
  pub bytes : List ℕ

-- its numbers
abbrev pub numbers_of : ShownValue → List ℤ
numbers_of v = values_in v.schema v.bytes
