-- The stored query at the place is written, if there is one.
use Rattle.std.specs.Box.{with_value}
use Rattle.std.proofs.Common.{◌<◌, ◌∙◌, ap, arith, length, refl}
use Rattle.watch_index.specs.declared.name_order.Named.{Named}
use Rattle.watch_index.specs.NameOrder.{name_in}
use Rattle.watch_index.specs.WatchOrder.{Boxed}
use Rattle.watch_index.specs.declared.watch_order.Watcher.{Watcher}
use Rattle.watch_stored.specs.Parts.{with_kept}
use Rattle.ecs_observe.specs.Stored.{made_of}
use Rattle.watch_stored.specs.declared.stored.StoredQuery.{StoredQuery}
use Rattle.ecs_observe.proofs.Entries.{entry_past, lists_written}
use Rattle.ecs_observe.proofs.KeptLists.{list_kept}
use Rattle.ecs_observe.proofs.WrittenQueries.{here_as, kept_entries, list_there, query_in}
use Rattle.ecs_observe.proofs.Watches.{still_stored}
use Rattle.ecs_observe.proofs.queries.StoredQueries.keep.Goals as goal

pub returns-then-place-len-clause-held : goal.returns-then-place-len-clause-held
returns-then-place-len-clause-held g c =
    let bs = made_of c.args.self.now in
    let i = c.args.place in
    let x = c.index_mut.result.now in
    let y : Boxed (StoredQuery g.row.A.Denot) g.row.A.Denot = with_value x (record { number = c.deref_mut.result.now.number; name = c.deref_mut.result.now.name; value = record { occasions = c.deref_mut.result.now.value.occasions; value = c.keep.new.self } }) in
    let is = c.deref_mut.ensures.value in
    let low : i < length bs = omega arith in
    let here = here_as bs i x low c.index_mut.ensures.value in
    kept_entries bs i x low here y c.args.rows.now (ap (λ (m : Named (Watcher (StoredQuery g.row.A.Denot) g.row.A.Denot) g.row.A.Denot). m.name) is) (c.keep.ensures ∙ ap (λ (m : Named (Watcher (StoredQuery g.row.A.Denot) g.row.A.Denot) g.row.A.Denot). with_kept c.args.rows.now m.value.value) is)

pub returns-then-place-len-clause-lists : goal.returns-then-place-len-clause-lists
returns-then-place-len-clause-lists g c =
    let bs = made_of c.args.self.now in
    let i = c.args.place in
    let x = c.index_mut.result.now in
    let y : Boxed (StoredQuery g.row.A.Denot) g.row.A.Denot = with_value x (record { number = c.deref_mut.result.now.number; name = c.deref_mut.result.now.name; value = record { occasions = c.deref_mut.result.now.value.occasions; value = c.keep.new.self } }) in
    let is = c.deref_mut.ensures.value in
    let low : i < length bs = omega arith in
    let here = here_as bs i x low c.index_mut.ensures.value in
    let kind = ap (λ (q : StoredQuery g.row.A.Denot). q.kind) c.keep.ensures ∙ ap (λ (m : Named (Watcher (StoredQuery g.row.A.Denot) g.row.A.Denot) g.row.A.Denot). (m.value.value).kind) is in
    λ s was.
    lists_written name_in query_in s bs i y
    (list_kept s (query_in x) c.keep.new.self kind (ap (λ (q : StoredQuery g.row.A.Denot). q.plan) c.keep.ensures ∙ ap (λ (m : Named (Watcher (StoredQuery g.row.A.Denot) g.row.A.Denot) g.row.A.Denot). (m.value.value).plan) is) (ap (λ (q : StoredQuery g.row.A.Denot). q.list) c.keep.ensures ∙ ap (λ (m : Named (Watcher (StoredQuery g.row.A.Denot) g.row.A.Denot) g.row.A.Denot). (m.value.value).list) is) (list_there bs i x low here s was)) was

pub returns-then-place-len-clause-stored : goal.returns-then-place-len-clause-stored
returns-then-place-len-clause-stored g c =
    let bs = made_of c.args.self.now in
    let i = c.args.place in
    let x = c.index_mut.result.now in
    let y : Boxed (StoredQuery g.row.A.Denot) g.row.A.Denot = with_value x (record { number = c.deref_mut.result.now.number; name = c.deref_mut.result.now.name; value = record { occasions = c.deref_mut.result.now.value.occasions; value = c.keep.new.self } }) in
    let is = c.deref_mut.ensures.value in
    let low : i < length bs = omega arith in
    let here = here_as bs i x low c.index_mut.ensures.value in
    let kind = ap (λ (q : StoredQuery g.row.A.Denot). q.kind) c.keep.ensures ∙ ap (λ (m : Named (Watcher (StoredQuery g.row.A.Denot) g.row.A.Denot) g.row.A.Denot). (m.value.value).kind) is in
    let query = ap (λ (q : StoredQuery g.row.A.Denot). (q.plan).query) c.keep.ensures ∙ ap (λ (m : Named (Watcher (StoredQuery g.row.A.Denot) g.row.A.Denot) g.row.A.Denot). ((m.value.value).plan).query) is in
    still_stored c.args.self.now _ i x y low here (ap (λ (m : Named (Watcher (StoredQuery g.row.A.Denot) g.row.A.Denot) g.row.A.Denot). m.name) is) (ap (λ (m : Named (Watcher (StoredQuery g.row.A.Denot) g.row.A.Denot) g.row.A.Denot). m.number) is) (ap (λ (m : Named (Watcher (StoredQuery g.row.A.Denot) g.row.A.Denot) g.row.A.Denot). (m.value).occasions.items) is) kind query refl refl refl refl c.requires.stored

pub returns-else-place-len-clause-held : goal.returns-else-place-len-clause-held
returns-else-place-len-clause-held g c = entry_past name_in query_in (made_of c.args.self.now) c.args.place c.args.rows.now (omega arith)
