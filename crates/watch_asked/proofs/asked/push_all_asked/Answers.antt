use Rattle.std.proofs.Common.{ℕ, ap, false, get_or, sym, ◌∙◌}
use Rattle.std.specs.Prelude.{◌||◌, map, not}
use Rattle.std.specs.List.{list_any}
use Rattle.std.proofs.lemmas.List.{take_all}
use Rattle.std.proofs.lemmas.List.Folds.{list_any_more}
use Rattle.query_check.specs.Seen.{seen_piece}
use Rattle.watch_asked.specs.Asked.{any_counts_as, is_idle_from}
use Rattle.watch_asked.proofs.AskedPatterns.{or_assoc, or_false}
use Rattle.watch_asked.proofs.asked.push_all_asked.Goals as goal

pub loop-variable-init : goal.loop-variable-init
loop-variable-init g c only held i = sym (or_false (any_counts_as only c.args.others.now.items held i))

pub loop-variable-preserved : goal.loop-variable-preserved
loop-variable-preserved g c only held i =
    let busy = λ (v : ℕ). not (is_idle_from only c.args.terms.now false (map seen_piece c.args.pieces.now) held i v) in
    let own = c.args.own.now in
    let k = c.loop-variable.variable-index in
    let first = any_counts_as only c.args.others.now.items held i in
    c.in_ok-push_asked.ensures only held i
    ∙ ap (λ b. b || busy (get_or own k 0)) (c.loop-variable.invariant only held i)
    ∙ or_assoc first _ (busy (get_or own k 0))
    ∙ sym (ap (λ b. first || b) (list_any_more busy own k 0 c.loop-variable-test.true))

pub returns : goal.returns
returns g c only held i =
    let busy = λ (v : ℕ). not (is_idle_from only c.args.terms.now false (map seen_piece c.args.pieces.now) held i v) in
    c.loop-variable.invariant only held i ∙ ap (λ own. any_counts_as only c.args.others.now.items held i || list_any busy own) (take_all c.loop-variable.variable-index c.args.own.now c.loop-variable-test.false)
