use Rattle.std.proofs.Common.{◌≡◌, length}
use Rattle.std.specs.List.{filter}
use Rattle.table_store.specs.Kept.{is_held}
use Rattle.table_store.proofs.since.SinceIterator.next.Given as goal

abbrev pub invariant-loop-key : goal.invariant-loop-key
invariant-loop-key g l =
    (l.self-inside.tables.now ≡ l.initial.self-inside.tables.now)
    × (filter (is_held l.self-inside.tables.now) l.self-inside.rest.now ≡ filter (is_held l.initial.self-inside.tables.now) l.initial.self-inside.rest.now)

abbrev pub decreases-loop-key : goal.decreases-loop-key
decreases-loop-key g l = length l.self-inside.rest.now
