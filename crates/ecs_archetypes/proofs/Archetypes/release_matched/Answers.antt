-- Rows stay as they are where empty tables go.
use Rattle.ecs_archetypes.proofs.Soundness.{sound_same}
use Rattle.std.proofs.Common.{subst}
use Rattle.std.specs.List.{list_any}
use Rattle.id_pattern.specs.Patterns.{matches}
use Rattle.ecs_archetypes.specs.Staying.{TablesStay}
use Rattle.ecs_archetypes.proofs.StandingTables.{stay_apart}
use Rattle.ecs_archetypes.proofs.Archetypes.release_matched.Goals as goal

pub invariant_of-self : goal.invariant_of-self
invariant_of-self g c = sound_same c.self.inside.entities c.self.inside.tables c.release_matched.new.self c.self.invariant c.release_matched.ensures.rows c.release_matched.ensures.whole

pub returns-clause-stay : goal.returns-clause-stay
returns-clause-stay g c = subst (λ h. TablesStay (list_any (matches c.args.pattern)) h.tables c.release_matched.new.self) c.self.view_is (stay_apart c.args.pattern c.self.inside.tables c.release_matched.new.self c.release_matched.ensures.others)
