-- The stored query of the name is taken out, and counted no more.
use Rattle.std.specs.Prelude.{All, cond, option_map}
use Rattle.std.specs.List.{count_by}
use Rattle.std.proofs.Common.{ap, subst, sym, ◌∙◌}
use Rattle.watch_index.specs.declared.name_order.Named.{Named}
use Rattle.watch_index.specs.declared.watch_order.Watcher.{Watcher}
use Rattle.ecs_model.specs.stored.Watches.{is_told}
use Rattle.watch_stored.specs.declared.stored.StoredQuery.{StoredQuery}
use Rattle.ecs_observe.specs.Stored.{IsFit, is_watch_in, made_of}
use Rattle.ecs_observe.proofs.Entries.{all_left, less_stored, look_stored, stored_in}
use Rattle.ecs_observe.proofs.Watches.{byte_is, count_below, count_less, counted_left}
use Rattle.ecs_observe.proofs.queries.StoredQueries.remove.Goals as goal

pub overflow_sub-self : goal.overflow_sub-self
overflow_sub-self g c =
    let was = c.in-Some.ensures.place in
    let bs = made_of c.args.self.now in
    let byte = byte_is c.is_told.result
    ∙ ap (λ b. cond b 1 0) (c.is_told.ensures ∙ ap (λ (m : Named (Watcher (StoredQuery g.row.A.Denot) g.row.A.Denot) g.row.A.Denot). is_told (m.value.value).kind) c.deref.ensures) in
    let counted = counted_left is_watch_in bs was.place c.in-Some.made was.within was.stood in
    count_below _ _ _ _ _ c.requires.stored.watches byte counted

pub returns-in_default-clause-value : goal.returns-in_default-clause-value
returns-in_default-clause-value g c = ap (option_map stored_in) c.in_default.ensures.value ∙ sym (look_stored c.args.name.now (made_of c.args.self.now))

pub returns-clause-value : goal.returns-clause-value
returns-clause-value g c = ap (option_map stored_in) c.in-Some.ensures.value ∙ sym (look_stored c.args.name.now (made_of c.args.self.now))

pub returns-clause-entries : goal.returns-clause-entries
returns-clause-entries g c = less_stored c.args.name.now (made_of c.args.self.now) (c.remove.new.self).order.made.items c.in-Some.ensures.entries

pub returns-clause-stored : goal.returns-clause-stored
returns-clause-stored g c =
    let was = c.in-Some.ensures.place in
    let bs = made_of c.args.self.now in
    let byte = byte_is c.is_told.result
    ∙ ap (λ b. cond b 1 0) (c.is_told.ensures ∙ ap (λ (m : Named (Watcher (StoredQuery g.row.A.Denot) g.row.A.Denot) g.row.A.Denot). is_told (m.value.value).kind) c.deref.ensures) in
    let counted = counted_left is_watch_in bs was.place c.in-Some.made was.within was.stood in
    record {
      watched = c.remove.ensures.watched;
      fit = subst (All IsFit) (sym was.left) (all_left IsFit bs was.place was.within c.requires.stored.fit);
      watches = count_less _ _ _ _ _ c.requires.stored.watches byte counted ∙ sym (ap (count_by is_watch_in) was.left);
    }
