-- The values are written, and counted as one command for each row.
use Rattle.std.proofs.Common.{◌+◌, ap, subst, arith}
use Rattle.ecs_archetypes.specs.Scans.{HaveRows}
use Rattle.ecs_archetypes.specs.Tables.{StandAlike}
use Rattle.ecs_world.specs.Standing.{Standing}
use Rattle.ecs_world.proofs.WholeColumns.{are_values, column_left, fits}
use Rattle.ecs_world.proofs.Standings.{going_on, staying_on}
use Rattle.ecs_world.proofs.World.set_column.Goals as goal

pub set_column-requires : goal.set_column-requires
set_column-requires g c =
    let a = c.self.inside in
    are_values a.archetypes a.names a.schemas.entries a.pins a.accepted c.self.invariant (subst HaveRows c.graph-graph.ensures c.store.ensures.rows) c.args.self.now c.self.view_is
    c.args.key c.args.id c.args.bytes.now c.in_ok-rows.ensures.judged c.in_ok-rows.ensures.some

pub overflow_add-self : goal.overflow_add-self
overflow_add-self g c =
    let a = c.self.inside in
    omega (
      arith,
      c.in_ok-rows.ensures.rows,
      fits a.archetypes a.names a.schemas.entries a.pins a.accepted c.self.invariant (subst HaveRows c.graph-graph.ensures c.store.ensures.rows) c.args.self.now c.self.view_is
          c.args.key c.args.id c.args.bytes.now c.in_ok-rows.ensures.judged,
    )

pub invariant_of-self : goal.invariant_of-self
invariant_of-self g c =
    let a = c.self.inside in
    (column_left a.archetypes a.names a.schemas.entries a.pins a.accepted c.self.invariant (subst HaveRows c.graph-graph.ensures c.store.ensures.rows) c.args.self.now c.self.view_is
    c.args.key c.args.id c.args.bytes.now c.in_ok-rows.ensures.judged (λ k. (c.type_inv.bytes k).fits)
    c.set_column.new.self c.set_column.ensures.kept.holdings c.set_column.ensures.kept.sizes c.set_column.ensures.written _ (ap (λ n. a.accepted + n) c.in_ok-rows.ensures.rows)).0

pub returns-clause-set : goal.returns-clause-set
returns-clause-set g c =
    let a = c.self.inside in
    (column_left a.archetypes a.names a.schemas.entries a.pins a.accepted c.self.invariant (subst HaveRows c.graph-graph.ensures c.store.ensures.rows) c.args.self.now c.self.view_is
    c.args.key c.args.id c.args.bytes.now c.in_ok-rows.ensures.judged (λ k. (c.type_inv.bytes k).fits)
    c.set_column.new.self c.set_column.ensures.kept.holdings c.set_column.ensures.kept.sizes c.set_column.ensures.written _ (ap (λ n. a.accepted + n) c.in_ok-rows.ensures.rows)).1

pub returns-clause-alike : goal.returns-clause-alike
returns-clause-alike g c = subst (λ (s : Standing). StandAlike s.tables c.set_column.new.self.tables) c.self.view_is c.set_column.ensures.alike

pub returns-clause-goes_on : goal.returns-clause-goes_on
returns-clause-goes_on g c = going_on c.self.view_is c.set_column.ensures.kept.goes_on

pub returns-clause-stay : goal.returns-clause-stay
returns-clause-stay g c = staying_on c.self.view_is c.set_column.ensures.kept.stay
