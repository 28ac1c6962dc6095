-- There is a kept query of the name, and it has its list; or there is none of the name, or it is no kept query.
use Rattle.std.specs.Prelude.{option_and_then}
use Rattle.std.proofs.Common.{ap, sym, ◌∙◌}
use Rattle.ecs_observe.specs.Following.{list_at}
use Rattle.watch_stored.specs.Held.{Held}
use Rattle.ecs_observe.specs.Standing.{Standing}
use Rattle.ecs_observe.specs.Stored.{entries_of}
use Rattle.ecs_observe.proofs.KeptQueries.{none_kept, other_kind}
use Rattle.ecs_observe.proofs.KeptLists.{list_found, not_kept}
use Rattle.ecs_observe.proofs.DroppedQueries.{first_named}
use Rattle.ecs_observe.proofs.session.Session.kept_list.Goals as goal

pub returns-in_default : goal.returns-in_default
returns-in_default g c =
    none_kept c.args.self.now c.self.inside.world (entries_of c.self.inside.stored) c.self.inside.waiting c.self.inside.compared c.args.name.now (sym c.self.view_is) (sym c.in_default.ensures)

pub returns-in-Some-list : goal.returns-in-Some-list
returns-in-Some-list g c =
    ap (λ (s : Standing). list_at s c.args.name.now) (sym c.self.view_is)
    ∙ (ap (option_and_then (λ (h : Held). h.list)) (first_named c.args.name.now (entries_of c.self.inside.stored) c.in-Some.stored.now (sym c.in-Some.ensures)) ∙ c.in-Some-list.is)

pub returns-in-None : goal.returns-in-None
returns-in-None g c =
    let there = sym c.in-Some.ensures in
    other_kind c.args.self.now c.self.inside.world (entries_of c.self.inside.stored) c.self.inside.waiting c.self.inside.compared c.args.name.now (sym c.self.view_is) c.in-Some.stored.now there
    (not_kept c.self.inside.world.tables c.in-Some.stored.now (list_found c.self.inside.world.tables c.args.name.now (entries_of c.self.inside.stored) c.in-Some.stored.now c.self.invariant.1 there) c.in-None.is)
