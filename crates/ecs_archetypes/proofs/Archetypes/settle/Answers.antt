-- The entity enters the table that is found or made.
use Rattle.std.proofs.Common.{ap}
use Rattle.ecs_archetypes.specs.Housing.{holdings_of}
use Rattle.ecs_archetypes.proofs.Soundness.{alike_same}
use Rattle.ecs_archetypes.proofs.ArchetypeCalls.{alike_with, unsettled_nowhere}
use Rattle.ecs_archetypes.proofs.StandingTables.{last_room, last_rows}
use Rattle.ecs_archetypes.proofs.Archetypes.settle.Goals as goal

pub enter-requires-clause-nowhere : goal.enter-requires-clause-nowhere
enter-requires-clause-nowhere g c = unsettled_nowhere c.self.inside.entities c.self.inside.tables c.self.invariant (holdings_of c.args.self.now) (ap holdings_of c.self.view_is) c.args.entity c.requires.alive c.requires.unsettled

pub returns-clause-settled : goal.returns-clause-settled
returns-clause-settled g c =
    alike_with _ _ _ _ c.args.entity.index _ (c.enter.ensures.held c.args.ids.now c.in_ok-key.ensures.shape) (alike_same c.self.inside.entities c.self.inside.tables c.table_for.new.self c.self.invariant c.table_for.ensures.kept.grown.rows c.table_for.ensures.kept.whole) (ap holdings_of c.self.view_is)

pub returns-in_err-key-clause-kept : goal.returns-in_err-key-clause-kept
returns-in_err-key-clause-kept g c = last_room c.self.inside.entities c.self.inside.tables c.args.self.now c.self.view_is c.self.invariant c.args.ids.now c.table_for.new.self c.table_for.ensures.kept

pub returns-clause-kept : goal.returns-clause-kept
returns-clause-kept g c = last_rows c.self.inside.entities c.self.inside.tables c.args.self.now c.self.view_is c.self.invariant c.args.ids.now c.table_for.new.self c.table_for.ensures.kept
    c.enter.new.entities c.enter.new.tables c.enter.ensures.alike c.enter.ensures.sound
