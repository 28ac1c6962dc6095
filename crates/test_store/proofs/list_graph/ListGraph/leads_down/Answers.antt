use Rattle.std.proofs.Common.{◌≡◌, ◌≤◌, ◌∙◌, length, ap, arith, subst}
use Rattle.std.proofs.lemmas.List.{length-map}
use Rattle.test_store.specs.Closed.{FallBelow, rows_in}
use Rattle.test_store.proofs.Graphs.{fallen_more, no_way_back}
use Rattle.test_store.proofs.list_graph.ListGraph.leads_down.Goals as goal

pub loop-index-preserved : goal.loop-index-preserved
loop-index-preserved c k m =
    let slice = c.as_slice-rows in
    let same : rows_in slice.result.now ≡ c.args.self.now = ap (λ vs. rows_in vs) slice.ensures.value ∙ c.self.view_is in
    let below = subst (λ is. FallBelow c.loop-index.index is) c.deref.ensures.value (c.fall_below.ensures c.if-not-fall_below.false) in
    fallen_more c.args.self.now slice.result.now k c.loop-index.index c.index-rows-index.result same (omega arith) c.index-rows-index.is below c.loop-index.invariant m

pub returns : goal.returns
returns c =
    let slice = c.as_slice-rows in
    let same : rows_in slice.result.now ≡ c.args.self.now = ap (λ vs. rows_in vs) slice.ensures.value ∙ c.self.view_is in
    let over : length c.args.self.now ≤ c.loop-index.index = omega (arith, ap length same, length-map slice.result.now (λ v. v.items)) in
    λ t. no_way_back c.args.self.now (λ k l. c.loop-index.invariant k (omega (arith, l, over)))
