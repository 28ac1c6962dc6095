use Rattle.std.proofs.Common.{◌≡◌, ℕ, ◌<◌, slice_index_or}
use Rattle.std.specs.declared.cmp.Ordering.TheVariants.{Less}
use Rattle.ecs_id.specs.Id.{Id, id_cmp}
use Rattle.ecs_table.proofs.data_ids.ascend.Given as goal

abbrev pub invariant-loop-k : goal.invariant-loop-k
invariant-loop-k l = (i j : ℕ) (d : Id) → i < j → j < l.k → id_cmp (slice_index_or l.ids i d) (slice_index_or l.ids j d) ≡ Less
