use Rattle.std.proofs.Common.{◌∙◌, arith, sym}
use Rattle.ecs_id.specs.declared.EntityId.{EntityId}
use Rattle.rel_travel.proofs.Mentions.{inside_skipped, outside_added}
use Rattle.rel_travel.proofs.referrers.add_rows_outside.Goals as goal
use Rattle.rel_travel.proofs.referrers.add_rows_outside.Goals.{then-not-is_found, else-not-is_found}

pub add-requires : goal.add-requires
add-requires g c =
    let none : EntityId = record { index = 0; generation = 0 } in
    rw c.loop-entity.invariant.size (c.requires.covered c.loop-entity.entity-index none (omega arith))

pub loop-entity-preserved : goal.loop-entity-preserved
loop-entity-preserved g c =
    let none : EntityId = record { index = 0; generation = 0 } in
    let index = λ (e : EntityId). e.index in
    let members = c.args.members.now.items in
    let rows = c.args.rows.now in
    let k = c.loop-entity.entity-index in
    elim c.if-not-is_found.branch [
      | then-not-is_found w ↦
          rw w.found-is (record {
            size = w.add.ensures.size ∙ c.loop-entity.invariant.size;
            grown = rw w.add.ensures.items (outside_added index members rows k none c.args.found.now.items c.loop-entity.found.items (omega arith) (sym c.is_found.ensures ∙ w.if-not-is_found.true) c.loop-entity.invariant.grown);
          })
      | else-not-is_found w ↦
          rw w.found-is (record {
            size = c.loop-entity.invariant.size;
            grown = inside_skipped index members rows k none c.args.found.now.items c.loop-entity.found.items (omega arith) (sym c.is_found.ensures ∙ w.if-not-is_found.false) c.loop-entity.invariant.grown;
          })
    ]
