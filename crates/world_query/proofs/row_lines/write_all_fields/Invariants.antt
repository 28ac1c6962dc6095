use Rattle.std.proofs.Common.{◌≡◌, ◌<◌, ◌≤◌, ◌++◌, take, length}
use Rattle.std.specs.Prelude.{codes, flat_map}
use Rattle.ecs_model.specs.Print.{field_text}
use Rattle.ecs_model.specs.rows.View.{view_of}
use Rattle.plan_fields.specs.Fields.{shown_field}
use Rattle.world_query.specs.Lines.{AreTexts}
use Rattle.world_query.proofs.row_lines.write_all_fields.Given as goal

abbrev pub invariant-loop-number : goal.invariant-loop-number
invariant-loop-number g l = record {
  texts : AreTexts l.world.state l.columns (length l.fields.items) l.texts;
  more : l.number < length l.fields.current → l.sheet ≡ l.initial.sheet ++ flat_map (λ s. field_text l.world.state (shown_field (view_of l.world.state) s)) (take l.number l.fields.current);
  all : length l.fields.current ≤ l.number → l.sheet ≡ l.initial.sheet ++ flat_map (λ s. field_text l.world.state (shown_field (view_of l.world.state) s)) l.fields.current ++ codes "\n";
}
