use Rattle.std.specs.Prelude.{map}
use Rattle.std.proofs.Common.{rules, ◌++◌, ap, subst, sym, ◌∙◌}
use Rattle.std.proofs.lemmas.Result.{on_err_weaker, on_ok_weaker}
use Rattle.ecs_print.specs.Stops.{StopsWithin}
use Rattle.ecs_print.proofs.Stops.{on_err_anyway, stops_before}
use Rattle.ecs_model.specs.stored.Watches.{matching, missing_from}
use Rattle.query_local.specs.Touched.{touch_of}
use Rattle.query_meaning.specs.Local.{IsLocal}
use Rattle.watch_stored.specs.Telling.{held_by}
use Rattle.watch_stored.proofs.LocalMonitors.{is_local_query, told_locally}
use Rattle.watch_stored.proofs.telling.tell_locally.Goals as goal

pub local_told-requires-clause-local : goal.local_told-requires-clause-local
local_told-requires-clause-local g c = subst IsLocal (sym c.query.ensures) (is_local_query (held_by c.args.listener.now) c.requires.local)

-- where memory is refused, the first events stand there
pub returns-in_err-told : goal.returns-in_err-told
returns-in_err-told g c = record { told = search rules; front = on_err_anyway _ (stops_before _ _) }

pub returns : goal.returns
returns g c =
    let told =
    told_locally c.args.effect.now.world.now.state c.args.effect.now.changes.now (held_by c.args.listener.now) c.requires.local c.keeps.ensures c.requires.listening.after
    (map touch_of c.args.touched.now) c.requires.touched.exactly _ _ _ c.as_bytes-name.ensures.value
    (λ a b u v t. c.as_slice.ensures.value ∙ (c.in_ok-told.ensures.left a b u v t ∙ ap (λ q. missing_from (matching a q) (matching b q)) c.query.ensures))
    (λ a b u v t. c.as_slice-2.ensures.value ∙ (c.in_ok-told.ensures.entered a b u v t ∙ ap (λ q. missing_from (matching b q) (matching a q)) c.query.ensures)) in
    record {
      told = on_ok_weaker c.tell_moves.result (λ e. e ∙ ap (λ es. c.args.events.now.items ++ es) told) c.tell_moves.ensures.told;
      front = on_err_weaker c.tell_moves.result (subst (StopsWithin c.args.events.now.items c.tell_moves.new.events.items) told) c.tell_moves.ensures.front;
    }
