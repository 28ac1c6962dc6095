-- The sizes that the ids of the tests have.
use Rattle.std.specs.Prelude.{◌≡◌, ℕ, ◌==◌, if◌then◌else◌, Some, IsTrue}
use Rattle.std.specs.List.{list_all}
use Rattle.ecs_id.specs.declared.TableKey.{TableKey}
use Rattle.ecs_id.specs.Id.{Id, packed}
use Rattle.table_store.specs.Store.{Shape, Store, shape_at}

-- how many bytes a value of an id has: 4 of plain 64, and every other id is a tag
abbrev pub bytes_of : Id → ℕ
bytes_of i = if packed i == 64 then 4 else 0

-- each id of the shape has its size
abbrev pub IsOfSizes : Shape → Type 0
IsOfSizes f = IsTrue (list_all (λ c. c.1 == bytes_of c.0) f)

-- each id of each table has its size
abbrev pub IsSized : Store → Type 0
IsSized s = (k : TableKey) (f : Shape) → shape_at s k ≡ Some f → IsOfSizes f
