-- One value more was widened.
use Rattle.std.proofs.Common.{rules, ◌≡◌, ◌++◌, [], ◌∷◌, take, arith, sym, ◌∙◌, ap, slice_index_or, pos, to_z, of_z}
use Rattle.std.proofs.lemmas.List.{take_more, take_more_set, length-set}
use mir.Syntax.{w128}
use Rattle.flecsq_c.proofs.commands.widen.Goals as goal

pub loop-count-preserved : goal.loop-count-preserved
loop-count-preserved c =
    let values = c.args.values.now in
    let count = c.loop-count.count in
    let wide = c.loop-count.wide in
    let invariant = c.loop-count.invariant in
    let same : to_z w128 (of_z w128 c.from.result) ≡ slice_index_or values count (pos 0) = search rules in (
      length-set wide count (to_z w128 (of_z w128 c.from.result)) ∙ invariant.0,
      omega (arith, c.loop-count-test.true),
      take_more_set wide count (to_z w128 (of_z w128 c.from.result)) (omega (arith, c.loop-count-test.true, c.requires, invariant.0))
          ∙ ap (λ l. l ++ to_z w128 (of_z w128 c.from.result) ∷ []) invariant.2 ∙ ap (λ v. take count values ++ v ∷ []) same ∙ sym (take_more values count (pos 0) c.loop-count-test.true),
    )
