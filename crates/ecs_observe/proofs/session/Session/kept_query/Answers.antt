-- There is a kept query of the name, or none of the name, or it is no kept query.
use Rattle.std.specs.Prelude.{Ok}
use Rattle.std.proofs.Common.{ap, subst, sym, ◌∙◌}
use Rattle.std.proofs.lemmas.Bool.{false≢true}
use Rattle.query_meaning.specs.Standing.{IsCurrentIn, WasAsked}
use Rattle.ecs_observe.proofs.KeptQueries.{current_found, kept_found, none_kept, other_kind}
use Rattle.ecs_observe.specs.Stored.{entries_of}
use Rattle.ecs_observe.proofs.session.Session.kept_query.Goals as goal

pub returns-in_default-clause-named : goal.returns-in_default-clause-named
returns-in_default-clause-named g c =
    none_kept c.args.self.now c.self.inside.world (entries_of c.self.inside.stored) c.self.inside.waiting c.self.inside.compared c.args.name.now (sym c.self.view_is) (sym c.in_default.ensures)

pub returns-then-not-is_kept-clause-named : goal.returns-then-not-is_kept-clause-named
returns-then-not-is_kept-clause-named g c =
    other_kind c.args.self.now c.self.inside.world (entries_of c.self.inside.stored) c.self.inside.waiting c.self.inside.compared c.args.name.now (sym c.self.view_is) c.in-Some.stored.now (sym c.in-Some.ensures)
    (λ kind. false≢true (sym c.if-not-is_kept.true ∙ c.is_kept.ensures.1 kind))

pub returns-clause-named : goal.returns-clause-named
returns-clause-named g c =
    kept_found c.args.self.now c.self.inside.world (entries_of c.self.inside.stored) c.self.inside.waiting c.self.inside.compared c.args.name.now (sym c.self.view_is) c.in-Some.stored.now (sym c.in-Some.ensures)
    (c.is_kept.ensures.0 c.if-not-is_kept.false)
    ∙ ap Ok (sym c.query.ensures)

-- it is current, so some text asked it
pub returns-clause-current : goal.returns-clause-current
returns-clause-current g c =
    subst (IsCurrentIn (c.args.self.now).world.state) (sym c.query.ensures)
    (current_found c.args.self.now c.self.inside.world (entries_of c.self.inside.stored) c.self.inside.waiting c.self.inside.compared c.args.name.now (sym c.self.view_is) c.in-Some.stored.now (sym c.in-Some.ensures) c.self.invariant.0)

pub returns-clause-asked : goal.returns-clause-asked
returns-clause-asked g c =
    subst WasAsked (sym c.query.ensures)
    (current_found c.args.self.now c.self.inside.world (entries_of c.self.inside.stored) c.self.inside.waiting c.self.inside.compared c.args.name.now (sym c.self.view_is) c.in-Some.stored.now (sym c.in-Some.ensures) c.self.invariant.0).asked
