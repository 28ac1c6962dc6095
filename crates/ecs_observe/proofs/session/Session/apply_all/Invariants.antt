use Rattle.std.proofs.Common.{◌≡◌, ◌≤◌, take}
use Rattle.std.specs.Prelude.{All, Ok, map}
use Rattle.ecs_observe.specs.Batches.{IsOfWorld, all_applied}
use Rattle.ecs_observe.specs.Commands.{order_of}
use Rattle.ecs_observe.specs.Following.{lists_of}
use Rattle.ecs_observe.specs.Standing.{session_of}
use Rattle.table_store.specs.Going.{TablesGoOn}
use Rattle.ecs_observe.proofs.session.Session.apply_all.Given as goal

-- those before this one were carried out, and their events delivered
abbrev pub invariant-loop-done : goal.invariant-loop-done
invariant-loop-done g l = record {
  applied : all_applied (session_of l.fn.self, l.fn.output.items) (take l.done (map order_of l.commands)) ≡ Ok (session_of l.self, l.output.items);
  lists : All IsOfWorld (map order_of l.commands) → lists_of l.self ≡ lists_of l.fn.self;
  goes_on : TablesGoOn (l.fn.self).world.tables (l.self).world.tables;
  grows : (l.fn.self).compared ≤ (l.self).compared;
}
