use Rattle.std.proofs.Common.{◌<◌, length, arith}
use Rattle.flecsq_c.proofs.Numbers.{dropped}
use Rattle.flecsq_c.proofs.asking.drop_query.Goals as goal

pub returns : goal.returns
returns c =
    let place = c.in-Some.ensures.some in
    let low : c.in-Some.place < length c.args.queries.now.items = omega (arith, place.1, c.len.ensures) in
    dropped c.args.queries.now.items c.args.number c.in-Some.place c.index.result.now c.is_none.result place.0 low c.index.ensures c.is_none.ensures c.if-is_none.false
