use Rattle.std.proofs.Common.{arith, ap, ◌∙◌, ◌++◌, take}
use Rattle.world_query.proofs.Sheets.{chunk_put}
use Rattle.world_query.proofs.sheet.Sheet.put.Goals as goal

pub returns-then-has_room-clause-text : goal.returns-then-has_room-clause-text
returns-then-has_room-clause-text g c =
    let short = c.is_short.ensures c.if-is_short.true in
    let room = c.has_room.ensures.has c.if-has_room.true in
    let was = c.self.inside in
    chunk_put was.end c.args.count was.bytes.items c.put_chunk.new.list.items c.args.text.now short.0 (omega arith)
    (c.put_chunk.ensures.text ∙ ap (λ t. take was.end was.bytes.items ++ t) c.first_chunk.ensures)
    ∙ ap (λ t. t ++ take c.args.count c.args.text.now) c.self.view_is
