use Rattle.std.proofs.Common.{ℕ, ap, sym, ◌∙◌}
use Rattle.std.specs.Prelude.{◌||◌, map, not, true}
use Rattle.query_check.specs.Seen.{seen_piece}
use Rattle.watch_asked.specs.Asked.{any_counts_as, is_idle_from}
use Rattle.watch_asked.proofs.AskedPatterns.{counted_all, counted_more, or_assoc, or_false}
use Rattle.watch_asked.proofs.asked.push_visible_asked.Goals as goal

pub loop-variable-init : goal.loop-variable-init
loop-variable-init g c only held i = sym (or_false (any_counts_as only c.args.others.now.items held i))

pub loop-variable-preserved : goal.loop-variable-preserved
loop-variable-preserved g c only held i =
    let busy = λ (v : ℕ). not (is_idle_from only c.args.terms.now true (map seen_piece c.args.pieces.now) held i v) in
    let first = any_counts_as only c.args.others.now.items held i in
    c.in_ok-push_asked.ensures only held i
    ∙ ap (λ b. b || busy c.loop-variable.variable) (c.loop-variable.invariant only held i)
    ∙ or_assoc first _ (busy c.loop-variable.variable)
    ∙ sym (ap (λ b. first || b) (counted_more busy c.args.visible c.loop-variable.variable c.loop-variable-test.true))

pub returns : goal.returns
returns g c only held i =
    let busy = λ (v : ℕ). not (is_idle_from only c.args.terms.now true (map seen_piece c.args.pieces.now) held i v) in
    c.loop-variable.invariant only held i ∙ ap (λ b. any_counts_as only c.args.others.now.items held i || b) (counted_all busy c.args.visible c.loop-variable.variable c.loop-variable-test.false)
