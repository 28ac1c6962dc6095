-- What each call leaves of the tables that stood before.
use Rattle.std.specs.Prelude.{◌≡◌, ◌≤◌, List, Some}
use Rattle.std.proofs.Common.{arith}
use Rattle.ecs_id.specs.declared.TableKey.{TableKey}
use Rattle.ecs_id.specs.Id.{Id}
use Rattle.table_store.specs.Store.{Store, ids_at}

-- a table keeps its key and its ids or is gone for good, and each new one has a greater serial than all before
pub record TablesGoOn (before after : Store) : Type 0 where
  pub last : before.last ≤ after.last
  -- what stands under a serial that was given stood there, with the same ids
  pub stood : (k : TableKey) (ids : List Id) → k.serial ≤ before.last → ids_at after k ≡ Some ids → ids_at before k ≡ Some ids

-- the tables go on where nothing happens, and over two calls
pub goes_on_same : (s : Store) → TablesGoOn s s
goes_on_same s = record { last = omega arith; stood = λ k ids given there. there }

pub goes_on_then : (r s t : Store) → TablesGoOn r s → TablesGoOn s t → TablesGoOn r t
goes_on_then r s t before after = record {
  last = let a = before.last in let b = after.last in omega (arith, a, b);
  stood = λ k ids given there. before.stood k ids given (after.stood k ids (let a = before.last in omega (arith, given, a)) there);
}
