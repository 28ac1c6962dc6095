use Rattle.std.proofs.Common.{◌+◌, ◌*◌, ◌≤◌, ℕ, take}
use Rattle.std.specs.Prelude.{flat_map}
use Rattle.watch_touched.specs.Leaning.{Adds}
use Rattle.watch_touched.specs.Steps.{behind_gone, behind_target}
use Rattle.watch_touched.specs.Searches.{this_behind}
use Rattle.watch_touched.proofs.RoleWalks.{behind_step}
use Rattle.watch_touched.proofs.roles.Walk.+behind.Given as goal

-- each step leads to a variable before
abbrev pub decreases-push_behind : goal.decreases-push_behind
decreases-push_behind g l = 5 * l.variable

abbrev pub decreases-push_by_step : goal.decreases-push_by_step
decreases-push_by_step g l = 5 * l.back.step.now.from + 4

abbrev pub decreases-push_behind_holders : goal.decreases-push_behind_holders
decreases-push_behind_holders g l = 5 * l.back.step.now.from + 3

abbrev pub decreases-push_behind_targets : goal.decreases-push_behind_targets
decreases-push_behind_targets g l = 5 * l.step.now.from + 3

abbrev pub decreases-push_behind_gone : goal.decreases-push_behind_gone
decreases-push_behind_gone g l = 5 * l.back.step.now.from + 3

abbrev pub decreases-push_behind_target : goal.decreases-push_behind_target
decreases-push_behind_target g l = 5 * l.step.now.from + 2

abbrev pub decreases-push_behind_all : goal.decreases-push_behind_all
decreases-push_behind_all g l = 5 * l.variable + 1

abbrev pub invariant-push_behind-each : goal.invariant-push_behind-each
invariant-push_behind-each g l = (n : ℕ) → l.variable ≤ n + 1 → Adds (flat_map (behind_step l.self.query.now l.self.world.now.state l.self.changes.now (l.self.asked.now).others.items n l.variable l.entity) (take l.step-index (l.self.asked.now).steps.items)) l.initial.moving.items l.moving.items

abbrev pub invariant-push_behind_all-loop-entity : goal.invariant-push_behind_all-loop-entity
invariant-push_behind_all-loop-entity g l = (n : ℕ) → l.variable ≤ n → Adds (flat_map (this_behind l.self n l.variable) (take l.entity-index l.entities)) l.initial.moving.items l.moving.items

abbrev pub invariant-push_behind_targets-loop-id : goal.invariant-push_behind_targets-loop-id
invariant-push_behind_targets-loop-id g l = (n : ℕ) → (l.step).from ≤ n → Adds (flat_map (behind_target l.self.query.now l.self.world.now.state l.self.changes.now n l.step) (take l.id-index l.ids)) l.initial.moving.items l.moving.items

abbrev pub invariant-push_behind_gone-facts : goal.invariant-push_behind_gone-facts
invariant-push_behind_gone-facts g l = (n : ℕ) → l.back.step.now.from ≤ n → Adds (flat_map (behind_gone l.self.query.now l.self.world.now.state l.self.changes.now n l.back.step.now l.back.entity) (take l.fact-index l.went)) l.initial.moving.items l.moving.items
