use Rattle.std.proofs.Common.{◌≡◌, ℕ, ◌<◌, slice_index_or}
use Rattle.std.specs.declared.cmp.Ordering.TheVariants.{Less}
use Rattle.ecs_id.specs.Id.{Id, id_cmp}
use Rattle.ecs_table.proofs.data_ids.search_from.Given as goal

-- the ids before this place come before the one that is looked for
abbrev pub invariant-loop-at : goal.invariant-loop-at
invariant-loop-at l = (k : ℕ) (d : Id) → k < l.at → id_cmp (slice_index_or l.ids k d) l.id ≡ Less
