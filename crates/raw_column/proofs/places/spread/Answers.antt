use Rattle.std.proofs.Common.{◌≡◌, ℕ, ◌+◌, ◌-◌, ◌*◌, ◌<◌, drop, length, sym, ap, ◌∙◌, arith}
use lib.ListN.{get_or}
use Rattle.raw_column.specs.Places.{column_resized, over, place_of}
use Rattle.raw_column.proofs.ShiftLemmas.{spread_end, spread_from, spread_start, spread_step}
use Rattle.raw_column.proofs.places.spread.Goals as goal

pub loop-column-init : goal.loop-column-init
loop-column-init g c =
    let ss = c.args.sizes.now in let bs = c.args.bytes.now in
    sym (ap (λ k. spread_from c.args.len c.args.from c.args.to ss k bs) c.count-column.ensures ∙ spread_start c.args.len c.args.from c.args.to ss bs c.requires.all.0)

pub loop-column-preserved : goal.loop-column-preserved
loop-column-preserved g c =
    let ss = c.args.sizes.now in let bs = c.args.bytes.now in let n = c.args.len in let from = c.args.from in let to = c.args.to in let j = c.loop-column.column in let k : ℕ = j - 1 in
    let s = get_or ss k 0 in let p = place_of to ss k 0 in let i = place_of from ss k 0 in
    let next : j ≡ k + 1 = omega (arith, c.loop-column-test.true) in let lt : k < length ss = omega (arith, c.loop-column-test.true, c.loop-column.auto.column, c.count-column.ensures) in
    c.place_column.ensures ∙ ap (λ b. over p (to * s) b (column_resized n to s (drop i b))) (c.loop-column.invariant ∙ ap (λ m. spread_from n from to ss m bs) next)
    ∙ spread_step n from to ss k bs c.requires.rows.0 c.requires.rows.1 lt c.requires.all.0

pub returns : goal.returns
returns g c =
    let ss = c.args.sizes.now in let bs = c.args.bytes.now in let none : c.loop-column.column ≡ 0 = omega (arith, c.loop-column-test.false) in
    c.loop-column.invariant ∙ ap (λ k. spread_from c.args.len c.args.from c.args.to ss k bs) none ∙ spread_end c.args.len c.args.from c.args.to ss bs
