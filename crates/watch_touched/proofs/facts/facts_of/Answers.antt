use Rattle.std.proofs.Common.{ltb, leb, rules, of_calls}
use Rattle.std.proofs.lemmas.Fn.{always_returns_same}
use Rattle.std.proofs.lemmas.List.Sorted.{IsPartitionedBy-leb, IsPartitionedBy-ltb}
use Rattle.ecs_model.specs.World.{Key}
use Rattle.watch_touched.proofs.FactSearches.{by_entity, entity_run, rest_by_entity}
use Rattle.watch_touched.proofs.facts.facts_of.Goals as goal

pub returns : goal.returns
returns c =
    let facts = c.args.facts.now in
    let e = c.args.entity in
    let start = c.partition_point-start.result in
    let count = c.partition_point-count.result in
    let within = c.partition_point-start.ensures.bound in
    entity_run facts c.requires e start count within c.partition_point-count.ensures.bound
    (c.partition_point-start.ensures.partitioned (λ (k : Key). ltb k.0 e) (always_returns_same _ _ _ (λ a r f k. search (rules, of_calls)))
    (IsPartitionedBy-ltb (λ k. k.0) facts e (by_entity facts c.requires)))
    (c.partition_point-count.ensures.partitioned (λ (k : Key). leb k.0 e) (always_returns_same _ _ _ (λ a r f k. search (rules, of_calls)))
    (IsPartitionedBy-leb (λ k. k.0) _ e (rest_by_entity facts c.requires e start count within)))
