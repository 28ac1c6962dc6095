-- The stored query of the name is taken out and counted once less, or there is none.
use Rattle.std.proofs.Common.{arith}
use Rattle.std.proofs.Common.{◌≡◌, false, true, refl, sym, ap, subst, ◌∙◌}
use Rattle.std.specs.Prelude.{ℕ, List, Option, bytes_eq, filter, is_some, map, not}
use Rattle.ecs_model.specs.stored.Session.{unpinned_by, without_stored}
use Rattle.query_cache.specs.Kept.{Kept}
use Rattle.query_meaning.specs.declared.steps.Step.{Step}
use Rattle.query_model.specs.Query.{Query}
use Rattle.watch_index.specs.declared.name_order.Named.{Named}
use Rattle.watch_index.specs.declared.watch_order.Watcher.{Watcher}
use Rattle.watch_stored.specs.declared.stored.StoredQuery.{StoredQuery}
use Rattle.ecs_observe.specs.Following.{lists_of}
use Rattle.ecs_observe.specs.Lists.{HaveLists}
use Rattle.ecs_observe.specs.Parts.{held_of}
use Rattle.ecs_observe.specs.Standing.{IsSession, Standing, session_of, stored_of}
use Rattle.ecs_observe.proofs.NamedQueries.{named, none_found, some_found, waits}
use Rattle.ecs_observe.proofs.KeptQueries.{stored_there}
use Rattle.ecs_observe.proofs.KeptLists.{lists_less}
use Rattle.ecs_observe.proofs.DroppedQueries.{lists_left, one_less_seen, without_seen}
use Rattle.ecs_observe.proofs.NewQueries.{same_seen}
use Rattle.ecs_observe.proofs.StoringAnswers.{drop_done, drop_pending, drop_unknown, none_there}
use Rattle.ecs_observe.specs.Stored.{entries_of}
use Rattle.ecs_observe.proofs.session.Session.drop_stored.Goals as goal

-- the query in a box
abbrev queried : {A : Type 0} → Named (Watcher (StoredQuery A) A) A → Query
queried m = (m.value.value.plan).query

pub returns-then-is_some-clause-answers : goal.returns-then-is_some-clause-answers
returns-then-is_some-clause-answers g c =
    let waiting : is_some c.self.inside.waiting ≡ true = sym c.is_some.ensures ∙ c.if-is_some.true in
    (drop_pending (session_of c.args.self.now) c.args.name.now (waits c.args.self.now ∙ (ap (λ (s : Standing). is_some s.waiting) (sym c.self.view_is) ∙ waiting)), refl)

pub returns-in_default-clause-answers : goal.returns-in_default-clause-answers
returns-in_default-clause-answers g c =
    let idle : is_some c.self.inside.waiting ≡ false = sym c.is_some.ensures ∙ c.if-is_some.false in
    let none = none_found c.args.name.now (entries_of c.self.inside.stored) (sym c.in_default.ensures.value) in (
      drop_unknown (session_of c.args.self.now) c.args.name.now (waits c.args.self.now ∙ (ap (λ (s : Standing). is_some s.waiting) (sym c.self.view_is) ∙ idle))
          (stored_there c.args.self.now c.self.inside.world (entries_of c.self.inside.stored) c.self.inside.waiting c.self.inside.compared c.args.name.now (sym c.self.view_is) ∙ none),
      ap session_of
          (same_seen c.self.inside.world c.self.inside.world (entries_of c.self.inside.stored) (entries_of c.remove.new.self) c.self.inside.waiting c.self.inside.compared refl refl (ap entries_of c.in_default.ensures.none) ∙ c.self.view_is),
    )

pub invariant_of-self : goal.invariant_of-self
invariant_of-self g c =
    let same = ap entries_of (sym c.in_default.ensures.none) in (
      subst (λ es. IsSession (record { world = c.self.inside.world; stored = map held_of es; waiting = c.self.inside.waiting; compared = c.self.inside.compared })) same c.self.invariant.0,
      subst (HaveLists c.self.inside.world.tables) same c.self.invariant.1,
      c.remove.ensures.stored,
    )

pub invariant_of-self-2 : goal.invariant_of-self-2
invariant_of-self-2 g c =
    let idle : is_some c.self.inside.waiting ≡ false = sym c.is_some.ensures ∙ c.if-is_some.false in (
      one_less_seen c.args.name.now c.self.inside.world c.unpin_all.new.world (entries_of c.self.inside.stored) (entries_of c.remove.new.self) c.self.inside.waiting c.self.inside.compared c.self.invariant.0
          (c.in-Some.dropped.value).value.value (sym c.in-Some.ensures.value)
          (c.unpin_all.ensures.state ∙ ap (unpinned_by c.self.inside.world.state) (c.mentions.ensures ∙ ap (λ (q : Query). q.mentions) (c.query.ensures ∙ ap queried c.deref.ensures)))
          c.in-Some.ensures.entries (none_there c.self.inside.waiting idle),
      subst (λ t. HaveLists t (entries_of c.remove.new.self)) (sym c.unpin_all.ensures.tables)
          (subst (HaveLists c.self.inside.world.tables) (sym c.in-Some.ensures.entries) (lists_less c.self.inside.world.tables c.args.name.now (entries_of c.self.inside.stored) c.self.invariant.1)),
      c.remove.ensures.stored,
    )

pub returns-clause-answers : goal.returns-clause-answers
returns-clause-answers g c =
    let idle : is_some c.self.inside.waiting ≡ false = sym c.is_some.ensures ∙ c.if-is_some.false in
    drop_done (session_of c.args.self.now) c.args.name.now (stored_of (named c.args.name.now (c.in-Some.dropped.value).value.value)) _
    (waits c.args.self.now ∙ (ap (λ (s : Standing). is_some s.waiting) (sym c.self.view_is) ∙ idle))
    (stored_there c.args.self.now c.self.inside.world (entries_of c.self.inside.stored) c.self.inside.waiting c.self.inside.compared c.args.name.now (sym c.self.view_is)
    ∙ some_found c.args.name.now (entries_of c.self.inside.stored) (c.in-Some.dropped.value).value.value (sym c.in-Some.ensures.value))
    (without_seen c.args.name.now c.self.inside.world c.unpin_all.new.world (entries_of c.self.inside.stored) (entries_of c.remove.new.self) c.self.inside.waiting c.self.inside.compared c.self.invariant.0
    (c.in-Some.dropped.value).value.value (sym c.in-Some.ensures.value)
    (c.unpin_all.ensures.state ∙ ap (unpinned_by c.self.inside.world.state) (c.mentions.ensures ∙ ap (λ (q : Query). q.mentions) (c.query.ensures ∙ ap queried c.deref.ensures)))
    c.in-Some.ensures.entries (none_there c.self.inside.waiting idle)
    ∙ ap (λ (s : Standing). without_stored (session_of s) (stored_of (named c.args.name.now (c.in-Some.dropped.value).value.value))) c.self.view_is)

pub returns-in_default-clause-lists : goal.returns-in_default-clause-lists
returns-in_default-clause-lists g c =
    same_seen c.self.inside.world c.self.inside.world (entries_of c.self.inside.stored) (entries_of c.remove.new.self) c.self.inside.waiting c.self.inside.compared refl refl (ap entries_of c.in_default.ensures.none) ∙ c.self.view_is

pub returns-clause-lists : goal.returns-clause-lists
returns-clause-lists g c =
    let idle : is_some c.self.inside.waiting ≡ false = sym c.is_some.ensures ∙ c.if-is_some.false in
    lists_left c.args.name.now c.self.inside.world c.unpin_all.new.world (entries_of c.self.inside.stored) (entries_of c.remove.new.self) c.self.inside.waiting c.self.inside.compared c.self.invariant.0
    (c.in-Some.dropped.value).value.value (sym c.in-Some.ensures.value)
    (c.unpin_all.ensures.state ∙ ap (unpinned_by c.self.inside.world.state) (c.mentions.ensures ∙ ap (λ (q : Query). q.mentions) (c.query.ensures ∙ ap queried c.deref.ensures)))
    c.in-Some.ensures.entries (none_there c.self.inside.waiting idle)
    ∙ ap (λ (s : Standing). filter (λ (p : List ℕ × Option Kept × List Step × ℕ). not (bytes_eq c.args.name.now p.0)) (lists_of s)) c.self.view_is

pub returns-clause-tables : goal.returns-clause-tables
returns-clause-tables g c = c.unpin_all.ensures.tables ∙ ap (λ (s : Standing). (s.world).tables) c.self.view_is

pub returns-then-is_some-clause-compared : goal.returns-then-is_some-clause-compared
returns-then-is_some-clause-compared g c = grind arith

pub returns-then-is_some-clause-lists : goal.returns-then-is_some-clause-lists
returns-then-is_some-clause-lists g c = grind arith

pub returns-then-is_some-clause-tables : goal.returns-then-is_some-clause-tables
returns-then-is_some-clause-tables g c = grind arith

pub remove-requires : goal.remove-requires
remove-requires g c = grind arith

pub returns-in_default-clause-compared : goal.returns-in_default-clause-compared
returns-in_default-clause-compared g c = grind arith

pub returns-in_default-clause-tables : goal.returns-in_default-clause-tables
returns-in_default-clause-tables g c = grind arith

pub returns-clause-compared : goal.returns-clause-compared
returns-clause-compared g c = grind arith
