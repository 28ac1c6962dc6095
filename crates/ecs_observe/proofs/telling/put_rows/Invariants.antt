use Rattle.std.proofs.Common.{◌≡◌, vec_len}
use Rattle.ecs_observe.specs.Lists.{KeepLists}
use Rattle.ecs_observe.specs.Parts.{with_all_kept}
use Rattle.ecs_observe.specs.Stored.{IsStored, entries_of}
use Rattle.ecs_observe.proofs.telling.put_rows.Given as goal

abbrev pub invariant-placed : goal.invariant-placed
invariant-placed g l = record {
  held : with_all_kept l.rows.items (entries_of l.stored) ≡ with_all_kept l.initial.rows.items (entries_of l.initial.stored);
  lists : KeepLists (entries_of l.initial.stored) (entries_of l.stored);
  stored : IsStored l.stored;
}

abbrev pub decreases-placed : goal.decreases-placed
decreases-placed g l = vec_len l.rows
