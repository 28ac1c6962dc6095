use Rattle.std.proofs.Common.{◌*◌, ◌<◌, ◌≤◌, drop, length, sym, ap, ◌∙◌, arith}
use lib.ListN.{get_or}
use Rattle.raw_column.specs.Places.{column_resized, over, place_of}
use Rattle.raw_column.proofs.ShiftLemmas.{gathered_end, gathered_start, gathered_step}
use Rattle.raw_column.proofs.places.gather.Goals as goal

pub loop-column-init : goal.loop-column-init
loop-column-init g c = sym (gathered_start c.args.len c.args.from c.args.to c.args.sizes.now c.args.bytes.now)

pub loop-column-preserved : goal.loop-column-preserved
loop-column-preserved g c =
    let ss = c.args.sizes.now in let bs = c.args.bytes.now in let n = c.args.len in let from = c.args.from in let to = c.args.to in let k = c.loop-column.column in
    let s = get_or ss k 0 in let p = place_of to ss k 0 in let i = place_of from ss k 0 in let lt : k < length ss = omega (arith, c.loop-column-test.true, c.count-column-end.ensures) in
    c.place_column.ensures ∙ ap (λ b. over p (to * s) b (column_resized n to s (drop i b))) c.loop-column.invariant
    ∙ gathered_step n from to ss k bs c.requires.rows.0 c.requires.rows.1 lt c.requires.all.0

pub returns : goal.returns
returns g c =
    let ss = c.args.sizes.now in let k = c.loop-column.column in
    let past : length ss ≤ k = omega (arith, c.loop-column-test.false, c.count-column-end.ensures) in let le : k ≤ length ss = omega (arith, c.loop-column.auto.column-end, c.count-column-end.ensures) in
    c.loop-column.invariant ∙ gathered_end c.args.len c.args.from c.args.to ss c.args.bytes.now k past le
