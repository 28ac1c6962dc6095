use Rattle.std.proofs.Common.{◌≡◌, ◌+◌, ◌*◌, ◌≤◌, ◌++◌, drop, length}
use Rattle.std.specs.Prelude.{flat_map}
use Rattle.ecs_model.specs.Bytes.{values_in}
use Rattle.ecs_print.specs.Values.{behind_comma}
use Rattle.ecs_print.proofs.facts.put_fields.Given as goal

abbrev pub invariant-loop-field : goal.invariant-loop-field
invariant-loop-field g l = record {
  numbers : drop l.start l.text ≡ flat_map behind_comma (drop l.field (values_in l.schema l.bytes)) ++ drop 176 l.fn.text;
  room : 22 * l.field ≤ l.start;
  some : l.start + l.count ≤ 176 + l.field;
  within : l.field ≤ l.count;
  long : length l.text ≡ length l.fn.text;
}

abbrev pub decreases-loop-field : goal.decreases-loop-field
decreases-loop-field g l = l.field
