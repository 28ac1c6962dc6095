use Rattle.std.proofs.Common.{option_map}
use Rattle.query_chunks.specs.Chunk.{chunk_in, seen_column}
use Rattle.world_rows.proofs.ChunkRows.{four_of}
use Rattle.world_rows.proofs.columns.FirstColumns.of.Goals as goal

pub returns : goal.returns
returns g c =
    four_of (option_map seen_column c.column.result) (option_map seen_column c.column-2.result) (option_map seen_column c.column-3.result) (option_map seen_column c.column-4.result)
    (chunk_in c.args.table.now c.args.query.now).columns c.column.ensures.column c.column-2.ensures.column c.column-3.ensures.column c.column-4.ensures.column
