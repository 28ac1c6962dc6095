-- One more stored query stands after the others, and is counted if it is notified of commands.
use Rattle.std.specs.Prelude.{◌+◌, All, cond}
use Rattle.std.specs.String.{string_bytes}
use Rattle.std.specs.List.{count_by}
use Rattle.std.proofs.Common.{[], ◌∷◌, ap, subst, sym, ◌∙◌}
use Rattle.std.proofs.lemmas.List.{map-append}
use Rattle.std.proofs.lemmas.List.Elements.{All-push}
use Rattle.watch_index.specs.declared.name_order.Named.{Named}
use Rattle.watch_index.specs.WatchOrder.{Boxed}
use Rattle.watch_index.specs.declared.watch_order.Watcher.{Watcher}
use Rattle.ecs_model.specs.stored.Watches.{is_told}
use Rattle.ecs_observe.specs.Stored.{IsFit, entries_in, is_watch_in, made_of}
use Rattle.watch_stored.specs.declared.stored.StoredQuery.{StoredQuery}
use Rattle.ecs_observe.proofs.Entries.{none_stored}
use Rattle.ecs_observe.proofs.Watches.{byte_is, counted_behind}
use Rattle.ecs_observe.proofs.queries.StoredQueries.put.Goals as goal

pub put-requires-clause-free : goal.put-requires-clause-free
put-requires-clause-free g c = none_stored (string_bytes c.args.made.value.name) (made_of c.args.self.now) c.requires.free

pub returns-clause-entries : goal.returns-clause-entries
returns-clause-entries g c =
    let bs = made_of c.args.self.now in
    ap entries_in c.put.ensures.made ∙ map-append (λ (b : Boxed (StoredQuery g.row.A.Denot) g.row.A.Denot). (b.value.name, b.value.value.value)) bs (c.args.made ∷ [])

pub returns-clause-stored : goal.returns-clause-stored
returns-clause-stored g c =
    let bs = made_of c.args.self.now in
    let byte = byte_is c.is_told.result
    ∙ ap (λ b. cond b 1 0) (c.is_told.ensures ∙ ap (λ (m : Named (Watcher (StoredQuery g.row.A.Denot) g.row.A.Denot) g.row.A.Denot). is_told (m.value.value).kind) c.deref.ensures) in
    record {
      watched = c.put.ensures.watched;
      fit = subst (All IsFit) (sym c.put.ensures.made) (All-push IsFit bs c.args.made c.requires.opened.fit c.requires.opened.fits);
      watches = (λ j. c.requires.opened.watches j + byte j) ∙ sym (ap (count_by is_watch_in) c.put.ensures.made ∙ counted_behind is_watch_in bs c.args.made);
    }
