use Rattle.std.proofs.Common.{arith, subst, take_all}
use Rattle.std.specs.List.{All}
use Rattle.std.proofs.lemmas.List.Elements.{All-more}
use Rattle.test_store.specs.Closed.{MentionsInside}
use Rattle.test_store.proofs.list_graph.are_closed.Goals as goal

pub loop-row-preserved : goal.loop-row-preserved
loop-row-preserved c =
    let inside = subst (λ xs. All (MentionsInside c.args.count) xs) c.deref.ensures.value (c.are_inside.ensures c.if-not-are_inside.false) in
    All-more (λ v. All (MentionsInside c.args.count) v.items) c.args.rows.now c.loop-row.row-index c.row-item.result (omega arith) c.loop-row.invariant (rw (← c.row-item.is) inside)

pub returns : goal.returns
returns c = λ t. rw (take_all c.loop-row.row-index c.args.rows.now (omega arith)) at c.loop-row.invariant
