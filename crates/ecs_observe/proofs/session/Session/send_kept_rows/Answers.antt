-- The stored query of the name is asked for its rows, and its list may be another; or there is none of the name.
use Rattle.std.proofs.Common.{arith}
use Rattle.std.specs.Prelude.{option_map}
use Rattle.std.specs.Box.{with_value}
use Rattle.std.specs.Vec.{with_item}
use Rattle.std.proofs.Common.{Some, ap, inl, refl, subst, sym, ◌∙◌}
use Rattle.watch_index.specs.declared.name_order.Named.{Named}
use Rattle.watch_index.specs.WatchOrder.{Boxed}
use Rattle.watch_index.specs.declared.watch_order.Watcher.{Watcher}
use Rattle.ecs_observe.specs.Following.{FollowsIfSome, StaysOrIsPlanned}
use Rattle.watch_stored.specs.Lists.{HasList}
use Rattle.watch_stored.specs.Held.{IsHeld}
use Rattle.ecs_observe.specs.Stored.{entries_of, made_of}
use Rattle.ecs_observe.specs.declared.queries.StoredQueries.{StoredQueries}
use Rattle.watch_stored.specs.declared.stored.StoredQuery.{StoredQuery}
use Rattle.ecs_observe.proofs.Entries.{look_stored, stored_in}
use Rattle.ecs_observe.proofs.NamedQueries.{holds_of_found}
use Rattle.ecs_observe.proofs.KeptQueries.{none_kept, sends_answered}
use Rattle.ecs_observe.proofs.WrittenQueries.{finds_then, fitting_then, follows_then, here_as, list_there, planned_then, query_in, reads_then, rewritten_session, same_then, still_lists}
use Rattle.ecs_observe.proofs.SentRows.{refused_calm}
use Rattle.ecs_observe.proofs.Watches.{still_stored}
use Rattle.ecs_observe.proofs.session.Session.send_kept_rows.Goals as goal

abbrev Entry : Type 0 → Type 0
Entry A = Named (Watcher (StoredQuery A) A) A

abbrev Box : Type 0 → Type 0
Box A = Boxed (StoredQuery A) A

pub returns-in_default-clause-rows : goal.returns-in_default-clause-rows
returns-in_default-clause-rows g c = (
  none_kept c.args.self.now c.self.inside.world (entries_of c.self.inside.stored) c.self.inside.waiting c.self.inside.compared c.args.name.now (sym c.self.view_is)
      (look_stored c.args.name.now (made_of c.self.inside.stored) ∙ ap (option_map stored_in) c.in_default.ensures),
  refl,
  refl,
)

pub returns-in_default-clause-lists : goal.returns-in_default-clause-lists
returns-in_default-clause-lists g c = inl refl

pub send_rows_of-requires-clause-current : goal.send_rows_of-requires-clause-current
send_rows_of-requires-clause-current g c =
    let bs = made_of c.self.inside.stored in
    let i = c.in-Some.place in
    let x = c.index_mut-made.result.now in
    let is = c.deref_mut.ensures.value in
    let low = c.in-Some.ensures.0 in
    let here = here_as bs i x low c.index_mut-made.ensures.value in
    let there = look_stored c.args.name.now bs ∙ ap (option_map stored_in) (c.in-Some.ensures.1 x) ∙ ap (λ (b : Box g.row.A.Denot). Some (query_in b)) (here x)
    ∙ sym (ap (λ (m : Entry g.row.A.Denot). Some (m.value.value)) is) in
    (holds_of_found c.args.name.now (IsHeld c.self.inside.world.state) (entries_of c.self.inside.stored) c.deref_mut.result.now.value.value (c.self.invariant.0).held there).current

pub send_rows_of-requires-clause-list : goal.send_rows_of-requires-clause-list
send_rows_of-requires-clause-list g c =
    let bs = made_of c.self.inside.stored in
    let i = c.in-Some.place in
    let x = c.index_mut-made.result.now in
    let is = c.deref_mut.ensures.value in
    let low = c.in-Some.ensures.0 in
    let here = here_as bs i x low c.index_mut-made.ensures.value in
    subst (λ (m : Entry g.row.A.Denot). HasList c.self.inside.world.tables (m.value.value)) (sym is) (list_there bs i x low here c.self.inside.world.tables c.self.invariant.1)

pub invariant_of-self : goal.invariant_of-self
invariant_of-self g c =
    let bs = made_of c.self.inside.stored in
    let i = c.in-Some.place in
    let x = c.index_mut-made.result.now in
    let is = c.deref_mut.ensures.value in
    let low = c.in-Some.ensures.0 in
    let here = here_as bs i x low c.index_mut-made.ensures.value in
    let m = c.deref_mut.result.now in
    let y : Box g.row.A.Denot = with_value x (record { number = m.number; name = m.name; value = record { occasions = m.value.occasions; value = c.send_rows_of.new.query } }) in
    let kind = c.send_rows_of.ensures.kind ∙ ap (λ (m : Entry g.row.A.Denot). (m.value.value).kind) is in
    let query = c.send_rows_of.ensures.query ∙ ap (λ (m : Entry g.row.A.Denot). ((m.value.value).plan).query) is in
    let these = c.send_rows_of.ensures.these ∙ ap (λ (m : Entry g.row.A.Denot). (m.value.value).these) is in
    let name = ap (λ (m : Entry g.row.A.Denot). m.name) is in
    let s = c.self.inside.stored in
    let t : StoredQueries g.row.A.Denot = record {
      all = record { order = record { made = with_item s.all.order.made i y; numbers = s.all.order.numbers }; index = s.all.index };
      watches = s.watches;
    } in (
      rewritten_session c.args.name.now c.self.inside.world s t c.self.inside.waiting c.self.inside.compared i x y c.in-Some.ensures here refl name kind query these c.self.invariant.0,
      still_lists c.args.name.now c.self.inside.world s t c.self.inside.waiting c.self.inside.compared i x y c.in-Some.ensures here refl name kind query these c.self.invariant.0 c.send_rows_of.ensures.list c.self.invariant.1,
      still_stored s t i x y low here name (ap (λ (m : Entry g.row.A.Denot). m.number) is) (ap (λ (m : Entry g.row.A.Denot). (m.value).occasions.items) is) kind query refl refl refl refl c.self.invariant.2,
    )

pub returns : goal.returns
returns g c =
    let bs = made_of c.self.inside.stored in
    let i = c.in-Some.place in
    let x = c.index_mut-made.result.now in
    let is = c.deref_mut.ensures.value in
    let low = c.in-Some.ensures.0 in
    let here = here_as bs i x low c.index_mut-made.ensures.value in
    let m = c.deref_mut.result.now in
    let y : Box g.row.A.Denot = with_value x (record { number = m.number; name = m.name; value = record { occasions = m.value.occasions; value = c.send_rows_of.new.query } }) in
    let kind = c.send_rows_of.ensures.kind ∙ ap (λ (m : Entry g.row.A.Denot). (m.value.value).kind) is in
    let query = c.send_rows_of.ensures.query ∙ ap (λ (m : Entry g.row.A.Denot). ((m.value.value).plan).query) is in
    let these = c.send_rows_of.ensures.these ∙ ap (λ (m : Entry g.row.A.Denot). (m.value.value).these) is in
    let name = ap (λ (m : Entry g.row.A.Denot). m.name) is in
    let s = c.self.inside.stored in
    let t : StoredQueries g.row.A.Denot = record {
      all = record { order = record { made = with_item s.all.order.made i y; numbers = s.all.order.numbers }; index = s.all.index };
      watches = s.watches;
    } in
    let there = look_stored c.args.name.now bs ∙ ap (option_map stored_in) (c.in-Some.ensures.1 x) ∙ ap (λ (b : Box g.row.A.Denot). Some (query_in b)) (here x)
    ∙ sym (ap (λ (m : Entry g.row.A.Denot). Some (m.value.value)) is) in
    record {
      rows = sends_answered c.args.self.now c.self.inside.world (entries_of c.self.inside.stored) c.self.inside.waiting c.self.inside.compared c.args.name.now (sym c.self.view_is)
          c.deref_mut.result.now.value.value there c.args.most c.send_rows_of.result _ _ c.args.out.now.items c.send_rows_of.new.out.items c.send_rows_of.ensures.rows;
      unsent = c.send_rows_of.ensures.unsent;
      writes = c.send_rows_of.ensures.writes;
      kept = c.send_rows_of.ensures.kept;
      same = same_then c.args.name.now c.self.inside.world s t c.self.inside.waiting c.self.inside.compared i x y
          c.in-Some.ensures here refl name kind query these c.self.invariant.0 c.args.self.now c.self.view_is;
      lists = follows_then c.args.name.now c.self.inside.world s t c.self.inside.waiting c.self.inside.compared i x y
          c.in-Some.ensures here refl name kind query these c.self.invariant.0 c.args.self.now c.self.view_is
          (subst (λ (m : Entry g.row.A.Denot). FollowsIfSome c.self.inside.world.tables (m.value.value) c.send_rows_of.new.query) is c.send_rows_of.ensures.follows);
      planned = planned_then c.args.name.now c.self.inside.world s t c.self.inside.waiting c.self.inside.compared i x y
          c.in-Some.ensures here refl name kind query these c.self.invariant.0 c.args.self.now c.self.view_is
          (subst (λ (m : Entry g.row.A.Denot). StaysOrIsPlanned c.self.inside.world ((m.value.value).plan, (m.value.value).planned_at) ((c.send_rows_of.new.query).plan, (c.send_rows_of.new.query).planned_at)) is c.send_rows_of.ensures.planned);
      fitting = fitting_then c.args.name.now c.self.inside.world s t c.self.inside.waiting c.self.inside.compared i x y
          c.in-Some.ensures here refl name kind query these c.self.invariant.0 c.args.self.now c.self.view_is
          c.send_rows_of.result c.send_rows_of.ensures.fitting;
      reads = reads_then c.args.name.now c.self.inside.world s t c.self.inside.waiting c.self.inside.compared i x y
          c.in-Some.ensures here refl name kind query these c.self.invariant.0 c.args.self.now c.self.view_is
          c.send_rows_of.result c.send_rows_of.ensures.list c.send_rows_of.ensures.reads;
      found = finds_then c.args.name.now c.self.inside.world s t c.self.inside.waiting c.self.inside.compared i x y
          c.in-Some.ensures here refl name kind query these c.self.invariant.0 c.args.self.now c.self.view_is
          c.send_rows_of.result c.send_rows_of.ensures.found;
    }

pub returns-in_default-clause-planned : goal.returns-in_default-clause-planned
returns-in_default-clause-planned g c = inl refl

pub returns-in_default-clause-writes : goal.returns-in_default-clause-writes
returns-in_default-clause-writes g c = refused_calm _ _ _

pub place_of-requires : goal.place_of-requires
place_of-requires g c = grind arith

pub returns-in_default-clause-kept : goal.returns-in_default-clause-kept
returns-in_default-clause-kept g c = grind arith

pub returns-in_default-clause-same : goal.returns-in_default-clause-same
returns-in_default-clause-same g c = grind arith

pub index_mut-made-requires : goal.index_mut-made-requires
index_mut-made-requires g c = grind arith
