-- What a stored query of its kind and query looks out for is listed, and the box keeps it.
use Rattle.std.specs.Prelude.{All}
use Rattle.std.specs.List.{count_by}
use Rattle.std.proofs.Common.{ap, subst, sym, ◌∙◌}
use Rattle.std.proofs.lemmas.Result.{IfOk-weaker, on_err_weaker}
use Rattle.watch_index.specs.Occasions.{occasions_of}
use Rattle.watch_index.specs.WatchOrder.{IsOpen}
use Rattle.watch_index.specs.declared.watch_order.Watcher.{Watcher}
use Rattle.ecs_observe.specs.Stored.{IsFit, entries_in, is_watch_in}
use Rattle.watch_stored.specs.declared.stored.StoredQuery.{StoredQuery}
use Rattle.ecs_observe.proofs.Watches.{fits_as}
use Rattle.ecs_observe.proofs.queries.StoredQueries.prepare.Goals as goal

pub returns-clause-same : goal.returns-clause-same
returns-clause-same g c = ap entries_in c.prepare.ensures.same

pub returns-clause-opened : goal.returns-clause-opened
returns-clause-opened g c =
    let watcher : Watcher (StoredQuery g.row.A.Denot) g.row.A.Denot = record { occasions = c.in_ok-occasions.occasions; value = c.args.query } in
    IfOk-weaker c.prepare.result (IsOpen c.prepare.new.self c.args.name watcher) _
    (λ r made. record {
      open_one = subst (λ (w : Watcher (StoredQuery g.row.A.Denot) g.row.A.Denot). IsOpen c.prepare.new.self c.args.name w r) (sym made.ready.value) made;
      query = ap (λ (w : Watcher (StoredQuery g.row.A.Denot) g.row.A.Denot). w.value) made.ready.value;
      fits = fits_as r.1 watcher made.ready.value (c.in_ok-occasions.ensures ∙ ap (occasions_of c.args.query.kind) c.query.ensures);
      fit = subst (All IsFit) (sym c.prepare.ensures.same) c.requires.stored.fit;
      watches = c.requires.stored.watches ∙ ap (count_by is_watch_in) (sym c.prepare.ensures.same);
    })
    c.prepare.ensures.open

pub returns-clause-refused : goal.returns-clause-refused
returns-clause-refused g c =
    on_err_weaker c.prepare.result
    (λ watched. record {
      watched = watched;
      fit = subst (All IsFit) (sym c.prepare.ensures.same) c.requires.stored.fit;
      watches = c.requires.stored.watches ∙ ap (count_by is_watch_in) (sym c.prepare.ensures.same);
    })
    c.prepare.ensures.refused
