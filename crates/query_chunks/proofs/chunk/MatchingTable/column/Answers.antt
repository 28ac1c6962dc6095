use Rattle.std.proofs.Common.{map, None, Some, option_map, slice_get, ap, subst, ◌∙◌}
use Rattle.query_check.specs.Seen.{seen_item, seen_piece}
use Rattle.query_chunks.specs.Chunk.{AreWhole, Matching, chunk_in, seen_column}
use Rattle.query_chunks.proofs.Columns.{column_there}
use Rattle.query_chunks.proofs.WholeChunks.{whole_there}
use Rattle.query_chunks.proofs.chunk.MatchingTable.column.Goals as goal

pub returns-in_err-item-clause-column : goal.returns-in_err-item-clause-column
returns-in_err-item-clause-column g c =
    let m : Matching = c.args.self.now in
    let q = c.args.query.now in
    ap (option_map seen_column) c.from_residual.ensures
    ∙ column_there m.state q m.key m.table (map seen_piece c.pieces.result.now) c.args.number None c.pieces.ensures c.in_err-item.ensures

pub returns-clause-column : goal.returns-clause-column
returns-clause-column g c =
    let a = c.self.inside in
    let q = c.args.query.now in
    ap Some c.column_of_item.ensures
    ∙ column_there a.world.now.state q a.key a.table.now (map seen_piece c.pieces.result.now) c.args.number (Some (seen_item c.in_ok-item.item.now)) c.pieces.ensures c.in_ok-item.ensures
    ∙ ap (λ (m : Matching). slice_get (chunk_in m q).columns c.args.number) c.self.view_is

pub returns-clause-whole : goal.returns-clause-whole
returns-clause-whole g c =
    let a = c.self.inside in
    let q = c.args.query.now in
    let there =
    ap Some c.column_of_item.ensures
    ∙ column_there a.world.now.state q a.key a.table.now (map seen_piece c.pieces.result.now) c.args.number (Some (seen_item c.in_ok-item.item.now)) c.pieces.ensures c.in_ok-item.ensures
    ∙ ap (λ (m : Matching). slice_get (chunk_in m q).columns c.args.number) c.self.view_is in
    whole_there (chunk_in c.args.self.now q) c.args.number (seen_column c.column_of_item.result) (subst (λ m. AreWhole (chunk_in m q)) c.self.view_is (c.self.invariant q)) there
