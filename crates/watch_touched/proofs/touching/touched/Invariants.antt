use Rattle.std.proofs.Common.{◌≡◌, take, map}
use Rattle.ecs_model.specs.rows.View.{view_of}
use Rattle.query_local.specs.Touched.{touch_of}
use Rattle.watch_touched.specs.Before.{view_before}
use Rattle.watch_touched.specs.Indexes.{touch_at}
use Rattle.watch_touched.proofs.touching.touched.Given as goal

abbrev pub invariant-loop-index : goal.invariant-loop-index
invariant-loop-index g l = map touch_of l.touched.items ≡ map (touch_at (view_before l.world.state l.changes) (view_of l.world.state)) (take l.index-index l.items)
