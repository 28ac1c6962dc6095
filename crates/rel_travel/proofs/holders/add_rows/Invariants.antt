use Rattle.std.proofs.Common.{◌≡◌, take}
use Rattle.std.specs.Prelude.{map}
use Rattle.rel_travel.specs.Coming.{with_finds}
use Rattle.rel_travel.proofs.holders.add_rows.Given as goal

abbrev pub invariant-loop-entity : goal.invariant-loop-entity
invariant-loop-entity g l = record {
  size : l.found.size ≡ l.initial.found.size;
  items : l.found.items ≡ with_finds l.initial.found.items (map (λ e. e.index) (take l.entity-index l.rows));
}
