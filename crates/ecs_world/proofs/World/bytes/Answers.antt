use Rattle.std.proofs.Common.{◌≡◌, ◌≤◌, length}
use Rattle.ecs_model.specs.World.{type_of_id}
use Rattle.ecs_world.specs.State.{byte_count}
use Rattle.ecs_world.proofs.States.{bytes_told, few_told, known_few, of_copied}
use Rattle.ecs_world.proofs.Standings.{state_is}
use Rattle.ecs_world.proofs.World.bytes.Goals as goal

pub returns-clause-value : goal.returns-clause-value
returns-clause-value g c = rw (← state_is c.self.view_is) (bytes_told c.self.invariant c.args.index c.args.id _ c.bytes.ensures).0

pub returns-clause-size : goal.returns-clause-size
returns-clause-size g c = of_copied _ (λ bytes. length bytes ≡ byte_count (type_of_id c.args.self.now.state c.args.id)) c.bytes.result
    (rw (← state_is c.self.view_is) (bytes_told c.self.invariant c.args.index c.args.id _ c.bytes.ensures).1)

pub returns-clause-few : goal.returns-clause-few
returns-clause-few g c = of_copied _ (λ bytes. length bytes ≤ 64) c.bytes.result (few_told c.self.invariant (known_few _ (rw c.graph-graph.ensures at c.index.ensures.whole)) c.args.index c.args.id _ c.bytes.ensures)
