-- By cases of the forms.
use Rattle.ecs_model.proofs.RefusedLines.{refused_lines_change_nothing}
use Rattle.ecs_model.proofs.laws.a_refused_line_changes_nothing.Goals as goal

pub returns : goal.returns
returns c = refused_lines_change_nothing
