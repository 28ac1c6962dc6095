use Rattle.std.proofs.Common.{◌<◌, arith, take_all}
use Rattle.std.specs.Prelude.{IfSome}
use Rattle.std.proofs.lemmas.List.Elements.{All-more}
use Rattle.ecs_id.specs.Id.{second_of}
use Rattle.test_store.proofs.list_graph.fall_below.Goals as goal

pub loop-id-preserved : goal.loop-id-preserved
loop-id-preserved c = All-more (λ i. IfSome (second_of i) (λ t. t < c.args.index)) c.args.row.now c.loop-id.id-index c.id-item.result (omega arith) c.loop-id.invariant (rw (← c.id-item.is) (c.falls_below.ensures c.if-not-falls_below.false))

pub returns : goal.returns
returns c = λ t. rw (take_all c.loop-id.id-index c.args.row.now (omega arith)) at c.loop-id.invariant
