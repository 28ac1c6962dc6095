use Rattle.std.proofs.Common.{sym, ◌∙◌, true≢false}
use Rattle.ecs_observe.proofs.telling.touched_if_asked.Goals as goal

pub returns-else-is_told_locally_at : goal.returns-else-is_told_locally_at
returns-else-is_told_locally_at g c = record { touched = λ asked. absurd (true≢false (sym asked ∙ (sym c.is_told_locally_at.ensures ∙ c.if-is_told_locally_at.false))) }
