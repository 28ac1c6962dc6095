-- The tables are kept in what is read of the world, and a query without answers there has none in the world.
use Rattle.std.proofs.Common.{◌≡◌, [], arith, rules, subst, sym, ◌∙◌}
use Rattle.std.proofs.lemmas.Bool.{and_from, false≢true}
use Rattle.ecs_model.specs.rows.Rows.{answers}
use Rattle.ecs_model.specs.rows.View.{view_of}
use Rattle.ecs_world.specs.Standing.{Standing}
use Rattle.plan_steps.proofs.EmptyTables.{nobody_answers}
use Rattle.query_meaning.specs.Names.{AreNamesLive}
use Rattle.query_meaning.specs.Plan.{IsValidPlan}
use Rattle.query_meaning.specs.Sound.{IsSound}
use Rattle.query_model.specs.Query.{Query}
use Rattle.world_facts.specs.Kept.{AreFilledTablesOf}
use Rattle.world_facts.specs.Shown.{reading_of}
use Rattle.ecs_observe.proofs.kept.has_nobody.Goals as goal

pub returns-then-not-begins_with_this-clause-none : goal.returns-then-not-begins_with_this-clause-none
returns-then-not-begins_with_this-clause-none g c = λ e. absurd (false≢true e)

pub returns-then-not-begins_with_this-clause-probes : goal.returns-then-not-begins_with_this-clause-probes
returns-then-not-begins_with_this-clause-probes g c = λ e. absurd (false≢true e)

pub returns-clause-none : goal.returns-clause-none
returns-clause-none g c = λ e.
    let q = c.query.result.now in
    let tables = c.args.tables.now in
    let sound = subst IsSound (sym c.query.ensures) c.requires.answerable.sound in
    let valid =
    subst (IsValidPlan q) (sym c.steps.ensures.steps) (subst (λ (x : Query). IsValidPlan x (c.args.plan.now).steps) (sym c.query.ensures) c.steps.ensures.valid) in
    let live =
    subst (λ (x : Standing). AreNamesLive (view_of x.state) q) (sym c.new-facts.ensures)
    (subst (λ (x : Query). AreNamesLive (view_of c.args.world.now.state) x) (sym c.query.ensures) c.requires.answerable.names) in
    let kept =
    c.keeps_tables.ensures q tables
    (subst (λ (x : Standing). AreFilledTablesOf q x.tables tables) (sym c.new-facts.ensures)
    (subst (λ (x : Query). AreFilledTablesOf x (c.args.world.now).tables tables) (sym c.query.ensures) c.requires.tables)) in
    let found = and_from _ _ (sym c.begins_with_this.ensures ∙ c.if-not-begins_with_this.false) (sym c.are_empty.ensures ∙ e) in
    subst (λ (x : Query). answers (view_of c.args.world.now.state) x ≡ []) c.query.ensures
    (subst (λ (x : Standing). answers (view_of x.state) q ≡ []) c.new-facts.ensures
    (nobody_answers (reading_of c.new-facts.result) c.keeps.ensures tables q c.steps.result.now sound valid live kept found))

-- no probe is made where no entity stands there
pub returns-clause-probes : goal.returns-clause-probes
returns-clause-probes g c = λ e. record { shown = c.new-facts.result; world = c.new-facts.ensures; links = search rules; lists = c.keeps_lists.ensures; within = omega arith }
