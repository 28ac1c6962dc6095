-- The pairs of a relationship to which PairIsTag comes go, fact by fact.
use Rattle.std.proofs.Common.{◌+◌, ◌∙◌, sym, subst, arith}
use Rattle.ecs_world.proofs.ReleasedTables.{IsLeftTo, left_matched, left_next, left_skipped, left_tag, left_tagged, no_rows, other_fact, pairs_of, tag_fact, tags_none, tags_with, unheld_tag}
use Rattle.ecs_world.proofs.releases.release_tag_pairs.Goals as goal
use Rattle.ecs_world.proofs.releases.release_tag_pairs.Goals.{then-eq, else-eq}

pub release_matched-requires : goal.release_matched-requires
release_matched-requires g c =
    let tag = tag_fact c.fact-item.result c.key.result c.id.result c.plain.result c.key.ensures c.id.ensures c.plain.ensures c.key-then-eq.result c.entity.result (sym c.eq.ensures ∙ c.if-eq.true) c.key-then-eq.ensures c.entity.ensures in
    record {
      empty = no_rows c.loop-fact.archetypes (pairs_of c.entity.result) c.loop-fact.invariant.whole
          (unheld_tag c.args.came.now c.args.archetypes.now c.loop-fact.archetypes c.loop-fact.fact-index c.fact-item.result c.entity.result c.loop-fact-test.true c.fact-item.is tag c.loop-fact.invariant c.requires.unheld);
    }

pub loop-fact-preserved : goal.loop-fact-preserved
loop-fact-preserved g c = elim c.if-eq.branch [
  | then-eq w ↦
      let tag = tag_fact c.fact-item.result c.key.result c.id.result c.plain.result c.key.ensures c.id.ensures c.plain.ensures w.key-then-eq.result w.entity.result (sym c.eq.ensures ∙ w.if-eq.true) w.key-then-eq.ensures w.entity.ensures in
      subst (λ z. IsLeftTo tags_with c.args.came.now c.args.archetypes.now (c.loop-fact.fact-index + 1) z) (sym w.archetypes-is)
      (left_next tags_with c.args.came.now c.args.archetypes.now c.loop-fact.fact-index c.fact-item.result c.fact-item.result c.loop-fact.archetypes w.release_matched.new.self c.loop-fact-test.true c.fact-item.is c.loop-fact.invariant
      (left_tag c.fact-item.result w.entity.result c.loop-fact.archetypes w.release_matched.new.self tag
      (left_matched (pairs_of w.entity.result) c.loop-fact.archetypes w.release_matched.new.self w.release_matched.ensures.whole w.release_matched.ensures.held w.release_matched.ensures.gone w.release_matched.ensures.others)))
  | else-eq w ↦
      let apart = other_fact c.fact-item.result c.key.result c.id.result c.plain.result c.key.ensures c.id.ensures c.plain.ensures (sym c.eq.ensures ∙ w.if-eq.false) in
      subst (λ z. IsLeftTo tags_with c.args.came.now c.args.archetypes.now (c.loop-fact.fact-index + 1) z) (sym w.archetypes-is)
      (left_next tags_with c.args.came.now c.args.archetypes.now c.loop-fact.fact-index c.fact-item.result c.fact-item.result c.loop-fact.archetypes c.loop-fact.archetypes c.loop-fact-test.true c.fact-item.is c.loop-fact.invariant
      (left_skipped tags_with c.args.came.now c.args.archetypes.now c.fact-item.result c.loop-fact.archetypes (tags_none c.fact-item.result apart) c.loop-fact.invariant.whole))
]

pub returns : goal.returns
returns g c = left_tagged c.args.came.now c.args.archetypes.now c.loop-fact.archetypes c.loop-fact.fact-index (omega arith) c.loop-fact.invariant
