use Rattle.std.specs.Prelude.{Some, is_some, length}
use Rattle.std.specs.Map.{lookup}
use Rattle.std.proofs.Common.{◌≡◌, ◌≤◌, ap, arith, subst, sym, true≢false, ◌∙◌}
use Rattle.std.proofs.lemmas.List.{take_all}
use Rattle.watch_index.specs.SameOccasion.{occasion_eq, same_occasion}
use Rattle.watch_index.proofs.ListedOccasions.{none_more}
use Rattle.watch_index.proofs.lists.find_among.Goals as goal

pub returns-in_default : goal.returns-in_default
returns-in_default g c = absurd (true≢false (sym (c.get_index.ensures.found.1 (omega arith)) ∙ ap is_some c.in_default.is))

pub returns-then-is_same : goal.returns-then-is_same
returns-then-is_same g c =
    let es = c.args.lists.now.entries in
    let same = same_occasion c.args.occasion.now c.in-Some.other.now (sym c.is_same.ensures ∙ c.if-is_same.true) in
    sym (subst (λ o. lookup (occasion_eq o) es ≡ Some c.in-Some.list.now) (sym same) c.in-Some.ensures.value)

pub loop-at-preserved : goal.loop-at-preserved
loop-at-preserved g c =
    none_more (occasion_eq c.args.occasion.now) c.args.lists.now.entries c.loop-at.at (c.in-Some.other.now, c.in-Some.list.now) (sym c.in-Some.ensures.entry) (sym c.is_same.ensures ∙ c.if-is_same.false) c.loop-at.invariant

pub returns : goal.returns
returns g c =
    let es = c.args.lists.now.entries in
    let over : length es ≤ c.loop-at.at = omega arith in
    sym (ap (lookup (occasion_eq c.args.occasion.now)) (sym (take_all c.loop-at.at es over)) ∙ c.loop-at.invariant)
