use Rattle.std.proofs.Common.{◌≡◌, take}
use Rattle.std.specs.Prelude.{map}
use Rattle.std.specs.List.{filter}
use Rattle.rel_travel.specs.Growing.{IsGrownBy}
use Rattle.rel_travel.specs.Outside.{is_outside}
use Rattle.rel_travel.proofs.referrers.add_rows_outside.Given as goal

abbrev pub invariant-loop-entity : goal.invariant-loop-entity
invariant-loop-entity g l = record {
  size : l.found.size ≡ l.initial.found.size;
  grown : IsGrownBy (filter (is_outside l.members.items) (map (λ e. e.index) (take l.entity-index l.rows))) l.initial.found.items l.found.items;
}
