-- The copies before this one have the base's values.
use Rattle.std.proofs.Common.{◌≡◌, take}
use Rattle.ecs_archetypes.specs.Staying.{TablesStay, none_goes}
use Rattle.table_store.specs.Going.{TablesGoOn}
use Rattle.ecs_world.specs.Changes.{with_copies}
use Rattle.ecs_world.proofs.World.write_copies.Given as goal

abbrev pub invariant-loop-copy : goal.invariant-loop-copy
invariant-loop-copy g l = record { state : l.self.state ≡ with_copies l.initial.self.state l.base (take l.copy-index l.copies); tables : TablesGoOn l.initial.self.tables l.self.tables; stay : TablesStay none_goes l.initial.self.tables l.self.tables }
