use Rattle.std.proofs.Common.{arith, ap, ◌∙◌, ◌++◌, ◌+◌, take}
use Rattle.std.proofs.lemmas.Result.{on_err_weaker}
use Rattle.ecs_print.proofs.Stops.{on_err_anyway, stops_behind, stops_sooner}
use Rattle.world_query.proofs.Sheets.{pair_put}
use Rattle.world_query.proofs.sheet.Sheet.put_pair.Goals as goal

pub returns-then-has_room-clause-text : goal.returns-then-has_room-clause-text
returns-then-has_room-clause-text g c =
    let short = c.is_short.ensures c.if-is_short.true in
    let room = c.has_room.ensures.has c.if-has_room.true in
    let was = c.self.inside in
    let first = c.put_chunk.new.list.items in
    pair_put was.end c.args.count c.args.more was.bytes.items first c.put_chunk-then-has_room.new.list.items
    c.args.text.now c.args.other.now short.0 (omega arith) (omega arith) c.put_chunk.ensures.long
    (c.put_chunk.ensures.text ∙ ap (λ t. take was.end was.bytes.items ++ t) c.first_chunk.ensures)
    (c.put_chunk-then-has_room.ensures.text ∙ ap (λ t. take (was.end + c.args.count) first ++ t) c.first_chunk-then-has_room.ensures)
    ∙ ap (λ t. (t ++ take c.args.count c.args.text.now) ++ take c.args.more c.args.other.now) c.self.view_is

pub returns-in_err-put_long-clause-front : goal.returns-in_err-put_long-clause-front
returns-in_err-put_long-clause-front g c = on_err_anyway _ (stops_sooner _ _ _ _ c.in_err-put_long.ensures.front)

pub returns-clause-front : goal.returns-clause-front
returns-clause-front g c = on_err_weaker c.put_long-2.result (stops_behind _ _ _ _ _ c.in_ok-put_long.ensures.text) c.put_long-2.ensures.front
