use Rattle.std.proofs.Common.{◌≡◌, ◌∙◌, ◌<◌, ap, rules, arith}
use Rattle.ecs_id.specs.Id.{first_of}
use Rattle.ecs_model.specs.Added.{is_symmetric}
use Rattle.rel_travel.proofs.Growth.{IsGrownBy-none}
use Rattle.rel_traits.proofs.AddedSets.{grown_by_other, grown_by_symmetric}
use Rattle.rel_traits.proofs.closure.add_symmetric.Goals as goal
use Rattle.rel_traits.proofs.closure.add_symmetric.Goals.{then-contains, else-contains}

pub loop-fact-init : goal.loop-fact-init
loop-fact-init g c = record { size = search rules; grown = IsGrownBy-none c.args.scratch.now.found }

pub loop-fact-preserved : goal.loop-fact-preserved
loop-fact-preserved g c =
    let ids = g.G.Graph.ids c.args.graph.now in
    let k = c.fact-item.result in
    let x = c.first-first.result in
    let first : x ≡ first_of k.1 = c.first-first.ensures.value ∙ ap first_of c.id.ensures in
    let tells : is_symmetric ids x ≡ c.contains.result = rw (c.contains.ensures.value, c.ids.ensures, c.plain.ensures) in
    let so_far = c.loop-fact.invariant.grown in
    elim c.if-contains.branch [
      | then-contains w ↦
          rw w.scratch-is (record {
            size = w.add.ensures.size ∙ c.loop-fact.invariant.size;
            grown = rw w.add.ensures.found (grown_by_symmetric ids c.args.facts.now c.loop-fact.fact-index x k _ _ (omega arith) c.fact-item.is first (tells ∙ w.if-contains.true) so_far);
          })
      | else-contains w ↦
          rw w.scratch-is (record {
            size = c.loop-fact.invariant.size;
            grown = grown_by_other ids c.args.facts.now c.loop-fact.fact-index x k _ _ (omega arith) c.fact-item.is first (tells ∙ w.if-contains.false) so_far;
          })
    ]

pub add-requires : goal.add-requires
add-requires g c =
    let k = c.fact-item.result in
    let first : c.first-first.result ≡ first_of k.1 = c.first-first.ensures.value ∙ ap first_of c.id.ensures in
    let below : first_of k.1 < c.args.scratch.now.size = rw c.fact-item.is (c.requires c.loop-fact.fact-index k (omega arith)) in
    rw (first, c.loop-fact.invariant.size) below
