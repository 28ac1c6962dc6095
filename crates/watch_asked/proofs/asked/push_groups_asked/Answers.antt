use Rattle.std.proofs.Common.{Bool, ◌≡◌, ◌∷◌, ◌+◌, ap, arith, drop, drop-cons, length, map, suc, sym, take, ◌∙◌}
use Rattle.std.specs.Prelude.{◌-◌, ◌||◌, not}
use Rattle.std.proofs.lemmas.List.{drop_all, length-drop, take_all}
use Rattle.query_check.specs.Seen.{seen_piece}
use Rattle.watch_asked.specs.Asked.{any_counts_as, group_idle, groups_idle}
use Rattle.watch_asked.proofs.AskedPatterns.{group_judged, or_false}
use Rattle.watch_asked.proofs.asked.push_groups_asked.Goals as goal

pub loop-at-preserved : goal.loop-at-preserved
loop-at-preserved g c only held i =
    let ts = c.args.terms.now in
    let pieces = c.args.pieces.now in
    let k = c.loop-at.at in
    let piece = c.index-pieces-at.result in
    let before = any_counts_as only c.loop-at.others.items held i in
    let next : suc k ≡ k + 1 = omega arith in
    let step : map seen_piece (drop k pieces) ≡ seen_piece piece ∷ map seen_piece (drop (k + 1) pieces)
    = ap (map seen_piece) (drop-cons pieces k piece c.loop-at-test.true ∙ (λ j. sym c.index-pieces-at.is j ∷ drop (next j) pieces)) in
    let behind = map seen_piece (drop (k + 1) pieces) in
    let whole : take (length pieces - (k + 1)) (drop (k + 1) pieces) ≡ drop (k + 1) pieces = take_all (length pieces - (k + 1)) (drop (k + 1) pieces) (omega (arith, length-drop (k + 1) pieces)) in
    ap (λ (b : Bool). b || not (groups_idle only ts held i behind))
    (c.in_ok-push_group_asked.ensures only held i ∙ ap (λ rest. before || not (group_idle only ts held i (seen_piece piece) (map seen_piece rest))) whole)
    ∙ group_judged before (group_idle only ts held i (seen_piece piece) behind) (groups_idle only ts held i behind)
    ∙ ap (λ ps. before || not (groups_idle only ts held i ps)) (sym step)
    ∙ c.loop-at.invariant only held i

pub returns : goal.returns
returns g c only held i =
    let all = any_counts_as only c.loop-at.others.items held i in
    let end = ap (map seen_piece) (drop_all c.loop-at.at c.args.pieces.now c.loop-at-test.false) in
    sym (or_false all) ∙ ap (λ ps. all || not (groups_idle only c.args.terms.now held i ps)) (sym end) ∙ c.loop-at.invariant only held i
