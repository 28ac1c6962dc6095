use Rattle.std.proofs.Common.{[], None, refl}
use Rattle.world_rows.proofs.ChunkRows.{four_of}
use Rattle.world_rows.proofs.columns.FirstColumns.none.Goals as goal

pub returns : goal.returns
returns g c = four_of None None None None [] refl refl refl refl
