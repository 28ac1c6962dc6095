use Rattle.std.proofs.Common.{ℕ, ◌<◌, ◌≤◌, List, length, slice_index, sym, subst, ◌∙◌}
use Rattle.ecs_table.proofs.ColumnLemmas.{sized_small}
use Rattle.ecs_table.proofs.table_data.TableData.new.Goals as goal

pub new-requires : goal.new-requires
new-requires g c =
    subst (λ (l : List ℕ). (k : ℕ) → k < length l → (0 < slice_index l k) × (slice_index l k ≤ 64)) (sym (c.as_slice.ensures ∙ c.in_ok-sized.ensures)) (sized_small c.args.sizes.now c.requires.small)
