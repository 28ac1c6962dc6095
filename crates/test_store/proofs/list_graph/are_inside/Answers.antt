use Rattle.std.proofs.Common.{arith, take_all}
use Rattle.std.proofs.lemmas.List.Elements.{All-more}
use Rattle.test_store.specs.Closed.{MentionsInside}
use Rattle.test_store.proofs.list_graph.are_inside.Goals as goal

pub loop-id-preserved : goal.loop-id-preserved
loop-id-preserved c = All-more (MentionsInside c.args.count) c.args.row.now c.loop-id.id-index c.id-item.result (omega arith) c.loop-id.invariant (rw (← c.id-item.is) (c.is_inside.ensures c.if-not-is_inside.false))

pub returns : goal.returns
returns c = λ t. rw (take_all c.loop-id.id-index c.args.row.now (omega arith)) at c.loop-id.invariant
