use Rattle.std.proofs.Common.{◌≡◌, take}
use Rattle.std.specs.Prelude.{filter, map}
use Rattle.query_local.specs.Telling.{enters, leaves}
use Rattle.query_local.specs.Touched.{touch_of}
use Rattle.query_local.proofs.told.told_of.Given as goal

abbrev pub invariant-loop-entity : goal.invariant-loop-entity
invariant-loop-entity g l = record {
  left : l.left.items ≡ map (λ t. t.index) (filter (λ t. leaves l.query (touch_of t)) (take l.entity-index l.touched));
  entered : l.entered.items ≡ map (λ t. t.index) (filter (λ t. enters l.query (touch_of t)) (take l.entity-index l.touched));
}
