use Rattle.std.proofs.Common.{◌≡◌, ◌++◌, take}
use Rattle.std.specs.Prelude.{All, flat_map}
use Rattle.std.specs.List.{zip}
use Rattle.world_query.specs.Lines.{IsKept, started, starts_in}
use Rattle.world_query.proofs.row_lines.write_bindings.Given as goal

abbrev pub invariant-loop-place : goal.invariant-loop-place
invariant-loop-place g l = record {
  texts : All (IsKept l.world.state) l.texts;
  text : l.sheet ≡ l.initial.sheet ++ flat_map (started l.world.state) (take l.place (zip (starts_in l.starts) l.entities));
}
