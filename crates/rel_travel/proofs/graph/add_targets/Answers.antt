use Rattle.std.proofs.Common.{◌∙◌, ◌<◌, List, sym, arith}
use Rattle.std.proofs.lemmas.List.Elements.{All-contains}
use Rattle.ecs_id.specs.Id.{Id}
use Rattle.ecs_model.specs.Links.{targets_in}
use Rattle.rel_travel.proofs.AddedLists.{found_all, found_no_target, found_target}
use Rattle.ecs_model.proofs.LivePairs.{target_there}
use Rattle.rel_travel.proofs.graph.add_targets.Goals as goal
use Rattle.rel_travel.proofs.graph.add_targets.Goals.{in-Some, in_default}

pub loop-id-preserved : goal.loop-id-preserved
loop-id-preserved g c =
    let ids = c.args.ids.now in
    let old = c.args.found.now.items in
    let mid = c.loop-id.found.items in
    elim c.match-target_under.branch [
      | in-Some w ↦
          rw w.found-is (record {
            size = w.add.ensures.size ∙ c.loop-id.invariant.size;
            items = found_target ids c.args.relationship c.loop-id.id-index c.id-item.result w.in-Some.target old mid _ (omega arith) c.id-item.is (sym w.in-Some.ensures) c.loop-id.invariant.items w.add.ensures.items;
          })
      | in_default w ↦
          rw w.found-is (record {
            size = c.loop-id.invariant.size;
            items = found_no_target ids c.args.relationship c.loop-id.id-index c.id-item.result old mid (omega arith) c.id-item.is (sym w.in_default.ensures) c.loop-id.invariant.items;
          })
    ]

pub add-requires : goal.add-requires
add-requires g c =
    let there = target_there c.args.ids.now c.args.relationship c.loop-id.id-index c.in-Some.target c.id-item.result (omega arith) c.id-item.is (sym c.in-Some.ensures) in
    rw c.loop-id.invariant.size (All-contains (λ t. t < c.args.found.now.size) (targets_in c.args.ids.now c.args.relationship) c.in-Some.target c.requires there)

pub returns-clause-items : goal.returns-clause-items
returns-clause-items g c =
    found_all (λ (xs : List Id). targets_in xs c.args.relationship) c.args.ids.now c.loop-id.id-index c.args.found.now.items c.loop-id.found.items (omega arith) c.loop-id.invariant.items
