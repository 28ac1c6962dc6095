use Rattle.std.proofs.Common.{◌≡◌, ◌++◌, take}
use Rattle.std.specs.Prelude.{filter}
use Rattle.watch_stored.specs.Moves.{is_untold}
use Rattle.watch_stored.proofs.moves.push_untold.Given as goal

abbrev pub invariant-loop-entity : goal.invariant-loop-entity
invariant-loop-entity g l = l.untold.items ≡ l.initial.untold.items ++ filter (is_untold l.asked l.world.state) (take l.entity-index l.entities)
