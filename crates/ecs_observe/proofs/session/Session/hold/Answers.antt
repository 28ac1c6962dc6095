-- One more stored query is held, or nothing has changed.
use Rattle.std.proofs.Common.{List, ◌≡◌, ◌≢◌, ◌<◌, ◌++◌, [], ◌∷◌, All, None, length, sym, ap, subst, ◌∙◌}
use Rattle.std.specs.Map.{lookup}
use Rattle.std.specs.declared.string.String.{String}
use Rattle.std.specs.String.{string_bytes}
use Rattle.watch_index.specs.declared.name_order.Named.{Named}
use Rattle.watch_index.specs.NameOrder.{is_key}
use Rattle.watch_index.specs.declared.watch_order.Watcher.{Watcher}
use Rattle.ecs_model.specs.stored.Session.{most_stored, pinned_by}
use Rattle.query_model.specs.Query.{Query}
use Rattle.watch_concerns.proofs.PinChanges.{AreAlive, current_alive}
use Rattle.ecs_observe.specs.Lists.{HaveLists}
use Rattle.ecs_observe.specs.Parts.{held_of}
use Rattle.watch_stored.specs.Held.{IsHeld, IsNow}
use Rattle.ecs_observe.specs.Standing.{IsSession, Standing}
use Rattle.ecs_observe.specs.Stored.{entries_of}
use Rattle.ecs_observe.specs.Storing.{with_held}
use Rattle.watch_stored.specs.declared.stored.StoredQuery.{StoredQuery}
use Rattle.ecs_observe.proofs.Entries.{none_of_name}
use Rattle.ecs_observe.proofs.NamedQueries.{seen}
use Rattle.ecs_observe.proofs.KeptLists.{lists_more}
use Rattle.ecs_observe.proofs.NewQueries.{one_more_seen, with_held_seen}
use Rattle.ecs_observe.proofs.Watches.{opened_as}
use Rattle.ecs_observe.proofs.session.Session.hold.Goals as goal

-- the query in a box
abbrev queried : {A : Type 0} → Named (Watcher (StoredQuery A) A) A → Query
queried m = (m.value.value.plan).query

pub pin_all-requires : goal.pin_all-requires
pin_all-requires g c =
    let h = subst (λ (s : Standing). IsHeld (s.world).state (held_of (c.args.name, c.args.stored))) (sym c.self.view_is) c.requires.held in
    let same = c.query.ensures ∙ ap queried c.deref.ensures ∙ ap (λ (x : StoredQuery g.row.A.Denot). (x.plan).query) c.in_ok-key.ensures.opened.query in
    subst (AreAlive c.self.inside.world.state) (sym (c.mentions.ensures ∙ ap (λ (q : Query). q.mentions) same)) (current_alive c.self.inside.world.state ((c.args.stored).plan).query h.current)

pub invariant_of-self : goal.invariant_of-self
invariant_of-self g c =
    let same = sym c.prepare.ensures.same in (
      subst (λ (es : List (String g.row.A.Denot × StoredQuery g.row.A.Denot)). IsSession (seen c.self.inside.world es c.self.inside.waiting c.self.inside.compared)) same c.self.invariant.0,
      subst (HaveLists c.self.inside.world.tables) same c.self.invariant.1,
      c.in_err-key.ensures.refused,
    )

pub put-requires : goal.put-requires
put-requires g c = record {
  opened = opened_as c.prepare.new.self c.args.name c.in_ok-key.key c.args.stored c.in_ok-key.made c.in_ok-key.ensures.opened;
  free = subst (λ (k : String g.row.A.Denot). lookup (is_key (string_bytes k)) (entries_of c.prepare.new.self) ≡ None) (sym c.in_ok-key.ensures.opened.open_one.ready.name)
      (ap (lookup (is_key (string_bytes c.args.name))) c.prepare.ensures.same
      ∙ none_of_name (string_bytes c.args.name) (entries_of c.self.inside.stored) (subst (λ (s : Standing). All (λ h. h.name ≢ string_bytes c.args.name) s.stored) (sym c.self.view_is) c.requires.free));
}

pub invariant_of-self-2 : goal.invariant_of-self-2
invariant_of-self-2 g c =
    let seen_as = sym c.self.view_is in
    let ready = c.in_ok-key.ensures.opened in
    let same = c.query.ensures ∙ ap queried c.deref.ensures ∙ ap (λ (x : StoredQuery g.row.A.Denot). (x.plan).query) ready.query in
    let put = c.put.ensures.entries ∙ (λ j. c.prepare.ensures.same j ++ (ready.open_one.ready.name j, ready.query j) ∷ []) in
    let counted = c.pin_all.ensures.pinned ∙ ap (pinned_by c.self.inside.world.state) (c.mentions.ensures ∙ ap (λ (q : Query). q.mentions) same) in
    let free = subst (λ (s : Standing). All (λ h. h.name ≢ string_bytes c.args.name) s.stored) seen_as c.requires.free in (
      one_more_seen c.args.name c.args.stored c.self.inside.world c.pin_all.new.world (entries_of c.self.inside.stored) (entries_of c.put.new.self) c.self.inside.waiting c.self.inside.compared c.self.invariant.0
          free counted put
          (subst (λ (s : Standing). s.waiting ≡ None) seen_as c.requires.idle)
          (subst (λ (s : Standing). length s.stored < most_stored) seen_as c.requires.few)
          (subst (λ (s : Standing). IsHeld (s.world).state (held_of (c.args.name, c.args.stored))) seen_as c.requires.held)
          (subst (λ (s : Standing). IsNow (s.world).state (held_of (c.args.name, c.args.stored))) seen_as c.requires.now)
          c.args.compared,
      subst (λ t. HaveLists t (entries_of c.put.new.self)) (sym c.pin_all.ensures.tables)
          (lists_more c.self.inside.world.tables (entries_of c.self.inside.stored) (entries_of c.put.new.self) c.args.name c.args.stored put (c.requires.list c.self.inside.world.tables) c.self.invariant.1),
      c.put.ensures.stored,
    )

pub returns-clause-held : goal.returns-clause-held
returns-clause-held g c =
    let seen_as = sym c.self.view_is in
    let ready = c.in_ok-key.ensures.opened in
    let same = c.query.ensures ∙ ap queried c.deref.ensures ∙ ap (λ (x : StoredQuery g.row.A.Denot). (x.plan).query) ready.query in
    let put = c.put.ensures.entries ∙ (λ j. c.prepare.ensures.same j ++ (ready.open_one.ready.name j, ready.query j) ∷ []) in
    let counted = c.pin_all.ensures.pinned ∙ ap (pinned_by c.self.inside.world.state) (c.mentions.ensures ∙ ap (λ (q : Query). q.mentions) same) in
    with_held_seen c.args.name c.args.stored c.self.inside.world c.pin_all.new.world (entries_of c.self.inside.stored) (entries_of c.put.new.self) c.self.inside.waiting c.self.inside.compared c.self.invariant.0
    (subst (λ (s : Standing). All (λ h. h.name ≢ string_bytes c.args.name) s.stored) seen_as c.requires.free) counted put c.pin_all.ensures.tables c.args.compared
    ∙ ap (λ s. record (with_held s (held_of (c.args.name, c.args.stored))) { compared = c.args.compared }) c.self.view_is
