-- The list of the stored query of the name is brought up to date; or there is none of the name.
use Rattle.std.specs.Prelude.{option_map}
use Rattle.std.specs.Box.{with_value}
use Rattle.std.specs.Vec.{with_item}
use Rattle.std.proofs.Common.{ap, inl, refl, subst, sym, ◌∙◌}
use Rattle.watch_index.specs.declared.name_order.Named.{Named}
use Rattle.watch_index.specs.WatchOrder.{Boxed}
use Rattle.watch_index.specs.declared.watch_order.Watcher.{Watcher}
use Rattle.ecs_observe.specs.Following.{FollowsIfSome, SyncsList}
use Rattle.watch_stored.specs.Lists.{HasList}
use Rattle.ecs_observe.specs.Stored.{entries_of, made_of}
use Rattle.ecs_observe.specs.declared.queries.StoredQueries.{StoredQueries}
use Rattle.watch_stored.specs.declared.stored.StoredQuery.{StoredQuery}
use Rattle.ecs_observe.proofs.Entries.{look_stored, stored_in}
use Rattle.ecs_observe.proofs.KeptQueries.{none_kept}
use Rattle.ecs_observe.proofs.WrittenQueries.{follows_then, here_as, list_there, refused_then, rewritten_session, same_plan, same_then, still_lists, synced_then}
use Rattle.ecs_observe.proofs.Watches.{still_stored}
use Rattle.ecs_observe.proofs.session.Session.sync_kept.Goals as goal

abbrev Entry : Type 0 → Type 0
Entry A = Named (Watcher (StoredQuery A) A) A

abbrev Box : Type 0 → Type 0
Box A = Boxed (StoredQuery A) A

pub returns-in_default-clause-refused : goal.returns-in_default-clause-refused
returns-in_default-clause-refused g c =
    none_kept c.args.self.now c.self.inside.world (entries_of c.self.inside.stored) c.self.inside.waiting c.self.inside.compared c.args.name.now (sym c.self.view_is)
    (look_stored c.args.name.now (made_of c.self.inside.stored) ∙ ap (option_map stored_in) c.in_default.ensures)

pub returns-in_default-clause-lists : goal.returns-in_default-clause-lists
returns-in_default-clause-lists g c = inl refl

pub sync_list_of-requires : goal.sync_list_of-requires
sync_list_of-requires g c =
    let bs = made_of c.self.inside.stored in
    let i = c.in-Some.place in
    let x = c.index_mut-made.result.now in
    let is = c.deref_mut.ensures.value in
    let low = c.in-Some.ensures.0 in
    let here = here_as bs i x low c.index_mut-made.ensures.value in
    record { list = subst (λ (m : Entry g.row.A.Denot). HasList c.self.inside.world.tables (m.value.value)) (sym is) (list_there bs i x low here c.self.inside.world.tables c.self.invariant.1) }

pub invariant_of-self : goal.invariant_of-self
invariant_of-self g c =
    let bs = made_of c.self.inside.stored in
    let i = c.in-Some.place in
    let x = c.index_mut-made.result.now in
    let is = c.deref_mut.ensures.value in
    let low = c.in-Some.ensures.0 in
    let here = here_as bs i x low c.index_mut-made.ensures.value in
    let m = c.deref_mut.result.now in
    let y : Box g.row.A.Denot = with_value x (record { number = m.number; name = m.name; value = record { occasions = m.value.occasions; value = c.sync_list_of.new.query } }) in
    let kind = c.sync_list_of.ensures.kind ∙ ap (λ (m : Entry g.row.A.Denot). (m.value.value).kind) is in
    let query = c.sync_list_of.ensures.query ∙ ap (λ (m : Entry g.row.A.Denot). ((m.value.value).plan).query) is in
    let these = c.sync_list_of.ensures.these ∙ ap (λ (m : Entry g.row.A.Denot). (m.value.value).these) is in
    let name = ap (λ (m : Entry g.row.A.Denot). m.name) is in
    let s = c.self.inside.stored in
    let t : StoredQueries g.row.A.Denot = record {
      all = record { order = record { made = with_item s.all.order.made i y; numbers = s.all.order.numbers }; index = s.all.index };
      watches = s.watches;
    } in (
      rewritten_session c.args.name.now c.self.inside.world s t c.self.inside.waiting c.self.inside.compared i x y c.in-Some.ensures here refl name kind query these c.self.invariant.0,
      still_lists c.args.name.now c.self.inside.world s t c.self.inside.waiting c.self.inside.compared i x y c.in-Some.ensures here refl name kind query these c.self.invariant.0 c.sync_list_of.ensures.list c.self.invariant.1,
      still_stored s t i x y low here name (ap (λ (m : Entry g.row.A.Denot). m.number) is) (ap (λ (m : Entry g.row.A.Denot). (m.value).occasions.items) is) kind query refl refl refl refl c.self.invariant.2,
    )

pub returns : goal.returns
returns g c =
    let bs = made_of c.self.inside.stored in
    let i = c.in-Some.place in
    let x = c.index_mut-made.result.now in
    let is = c.deref_mut.ensures.value in
    let low = c.in-Some.ensures.0 in
    let here = here_as bs i x low c.index_mut-made.ensures.value in
    let m = c.deref_mut.result.now in
    let y : Box g.row.A.Denot = with_value x (record { number = m.number; name = m.name; value = record { occasions = m.value.occasions; value = c.sync_list_of.new.query } }) in
    let kind = c.sync_list_of.ensures.kind ∙ ap (λ (m : Entry g.row.A.Denot). (m.value.value).kind) is in
    let query = c.sync_list_of.ensures.query ∙ ap (λ (m : Entry g.row.A.Denot). ((m.value.value).plan).query) is in
    let these = c.sync_list_of.ensures.these ∙ ap (λ (m : Entry g.row.A.Denot). (m.value.value).these) is in
    let name = ap (λ (m : Entry g.row.A.Denot). m.name) is in
    let s = c.self.inside.stored in
    let t : StoredQueries g.row.A.Denot = record {
      all = record { order = record { made = with_item s.all.order.made i y; numbers = s.all.order.numbers }; index = s.all.index };
      watches = s.watches;
    } in
    record {
      refused = refused_then c.args.name.now c.self.inside.world s t c.self.inside.waiting c.self.inside.compared i x y
          c.in-Some.ensures here refl name kind query these c.self.invariant.0 c.args.self.now c.self.view_is c.sync_list_of.result
          (subst (λ (m : Entry g.row.A.Denot). SyncsList c.sync_list_of.result (m.value.value).kind ((m.value.value).plan).query c.self.inside.world.tables c.sync_list_of.new.query.list) is c.sync_list_of.ensures.synced);
      current = synced_then c.args.name.now c.self.inside.world s t c.self.inside.waiting c.self.inside.compared i x y
          c.in-Some.ensures here refl name kind query these c.self.invariant.0 c.args.self.now c.self.view_is c.sync_list_of.result
          (subst (λ (m : Entry g.row.A.Denot). SyncsList c.sync_list_of.result (m.value.value).kind ((m.value.value).plan).query c.self.inside.world.tables c.sync_list_of.new.query.list) is c.sync_list_of.ensures.synced);
      same = same_then c.args.name.now c.self.inside.world s t c.self.inside.waiting c.self.inside.compared i x y
          c.in-Some.ensures here refl name kind query these c.self.invariant.0 c.args.self.now c.self.view_is;
      lists = follows_then c.args.name.now c.self.inside.world s t c.self.inside.waiting c.self.inside.compared i x y
          c.in-Some.ensures here refl name kind query these c.self.invariant.0 c.args.self.now c.self.view_is
          (subst (λ (m : Entry g.row.A.Denot). FollowsIfSome c.self.inside.world.tables (m.value.value) c.sync_list_of.new.query) is c.sync_list_of.ensures.follows);
      plan = same_plan c.args.name.now c.self.inside.world s t c.self.inside.waiting c.self.inside.compared i x y
          c.in-Some.ensures here refl name kind query these c.self.invariant.0 c.args.self.now c.self.view_is
          (λ j. (
            (c.sync_list_of.ensures.plan ∙ ap (λ (m : Entry g.row.A.Denot). (m.value.value).plan) is) j,
            (c.sync_list_of.ensures.planned_at ∙ ap (λ (m : Entry g.row.A.Denot). (m.value.value).planned_at) is) j,
          ));
    }
