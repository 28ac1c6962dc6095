-- What is against a new stored query is answered, and else it is held.
use Rattle.std.proofs.Common.{◌≡◌, ◌≢◌, All, None, Ok, Err, arith, refl, sym, ap, subst, ◌∙◌}
use Rattle.std.proofs.lemmas.Result.{err_from_is_err_and}
use Rattle.std.specs.Prelude.{◌&&◌, not}
use Rattle.std.specs.List.{list_any}
use Rattle.ecs_model.specs.Query.{query_of}
use Rattle.ecs_world.specs.Standing as world
use Rattle.query_model.specs.Local.{is_local}
use Rattle.query_model.specs.Query.{Query}
use Rattle.world_query.specs.Planned.{IsPlannedIn}
use Rattle.ecs_observe.specs.Following.{plan_of}
use Rattle.ecs_observe.specs.Parts.{held_of}
use Rattle.watch_stored.specs.Held.{Held, IsHeld, IsNow, counted_for, is_compared, is_monitor}
use Rattle.ecs_observe.specs.Standing.{Standing, session_of}
use Rattle.ecs_observe.specs.Storing.{AnswersWatched, with_held}
use Rattle.ecs_observe.proofs.NamedQueries.{same_but_compared}
use Rattle.ecs_observe.proofs.LocalMonitors.{last_isnt}
use Rattle.ecs_observe.proofs.StoringAnswers.{has_room, is_idle, is_new, new_held, new_now, still_fits, store_done, store_refused, told_fault}
use Rattle.query_meaning.proofs.MentionedEntities.{asked_queries_are_current}
use Rattle.ecs_observe.proofs.session.Session.store.Goals as goal

pub returns-in-Some-clause-answers : goal.returns-in-Some-clause-answers
returns-in-Some-clause-answers g c = (store_refused (session_of c.args.self.now) c.args.kind c.args.name.now c.args.text.now c.in-Some.reason (sym c.store_refusal.ensures ∙ c.in-Some.is), refl)

pub returns-in_err-query-clause-answers : goal.returns-in_err-query-clause-answers
returns-in_err-query-clause-answers g c =
    let free = sym c.store_refusal.ensures ∙ c.in_default.is in
    let p = err_from_is_err_and c.from_residual.result c.from_residual.ensures.1 in
    rw (p.1, p.2)
    (told_fault c.args.self.now c.args.kind c.args.name.now c.args.text.now c.in_err-query.field-0.0 free
    (subst (λ (w : world.Standing). AnswersWatched w.state c.args.kind c.args.text.now (Err c.in_err-query.field-0.0)) c.world-world.ensures c.in_err-query.ensures))

pub stored_query-requires : goal.stored_query-requires
stored_query-requires g c = record { current = asked_queries_are_current c.world-world.result.now.state c.args.text.now c.in_ok-query.query c.in_ok-query.ensures.0 }

pub hold-requires-clause-idle : goal.hold-requires-clause-idle
hold-requires-clause-idle g c = is_idle c.args.self.now c.args.name.now (sym c.store_refusal.ensures ∙ c.in_default.is)

pub hold-requires-clause-free : goal.hold-requires-clause-free
hold-requires-clause-free g c =
    subst (λ n. All (λ (h : Held). h.name ≢ n) (c.args.self.now).stored) (sym c.in_ok-name.ensures.ok)
    (is_new c.args.self.now c.args.name.now (sym c.store_refusal.ensures ∙ c.in_default.is))

pub hold-requires-clause-few : goal.hold-requires-clause-few
hold-requires-clause-few g c = has_room c.args.self.now c.args.name.now (sym c.store_refusal.ensures ∙ c.in_default.is)

pub hold-requires-clause-held : goal.hold-requires-clause-held
hold-requires-clause-held g c =
    subst (λ (w : world.Standing). IsHeld w.state (held_of (c.in_ok-name.name, c.in_ok-stored.stored))) c.world-world.ensures
    (new_held c.world-world.result.now.state c.args.kind c.args.text.now c.in_ok-query.query (held_of (c.in_ok-name.name, c.in_ok-stored.stored))
    c.in_ok-stored.ensures.kind c.in_ok-stored.ensures.query c.in_ok-query.ensures.0 c.in_ok-query.ensures.1 c.in_ok-stored.ensures.ascends)

pub hold-requires-clause-list : goal.hold-requires-clause-list
hold-requires-clause-list g c = c.in_ok-stored.ensures.list

pub hold-requires-clause-now : goal.hold-requires-clause-now
hold-requires-clause-now g c =
    subst (λ (w : world.Standing). IsNow w.state (held_of (c.in_ok-name.name, c.in_ok-stored.stored))) c.world-world.ensures
    (new_now c.world-world.result.now.state c.args.kind c.args.text.now c.in_ok-query.query (held_of (c.in_ok-name.name, c.in_ok-stored.stored))
    c.in_ok-stored.ensures.kind c.in_ok-stored.ensures.query c.in_ok-query.ensures.0 c.in_ok-query.ensures.1 c.in_ok-stored.ensures.these)

pub returns-clause-answers : goal.returns-clause-answers
returns-clause-answers g c =
    let h = held_of (c.in_ok-name.name, c.in_ok-stored.stored) in
    store_done c.args.self.now c.args.name.now (sym c.store_refusal.ensures ∙ c.in_default.is) c.args.kind c.args.text.now h c.in_ok-name.ensures.ok c.in_ok-stored.ensures.kind
    (subst (λ (w : world.Standing). query_of w.state c.args.text.now ≡ Ok h.query) c.world-world.ensures (c.in_ok-query.ensures.0 ∙ ap Ok (sym c.in_ok-stored.ensures.query)))
    (still_fits c.world-world.result.now.state c.args.kind c.args.text.now c.in_ok-query.query h c.in_ok-stored.ensures.kind c.in_ok-stored.ensures.query c.in_ok-query.ensures.0 c.in_ok-query.ensures.1)
    ∙ ap (λ s. Ok (s, None)) (sym (ap session_of c.in_ok-hold.ensures.held ∙ same_but_compared (with_held c.args.self.now h) c.stored_query.new.compared))

pub returns-clause-compared : goal.returns-clause-compared
returns-clause-compared g c = λ none.
    let h = held_of (c.in_ok-name.name, c.in_ok-stored.stored) in
    let last = last_isnt (c.args.self.now).stored h (ap (λ (s : Standing). list_any is_compared s.stored) (sym c.in_ok-hold.ensures.held) ∙ none) in
    let one = sym (λ i. is_monitor (c.in_ok-stored.ensures.kind i) && not (is_local (c.in_ok-stored.ensures.query i))) ∙ last in
    ap (λ (s : Standing). s.compared) c.in_ok-hold.ensures.held ∙ (c.stored_query.ensures.compared one ∙ c.compared-compared.ensures)

-- the text asks no other query
pub returns-clause-counted : goal.returns-clause-counted
returns-clause-counted g c = λ q asked.
    let is : Ok c.in_ok-query.query ≡ Ok q = sym c.in_ok-query.ensures.0 ∙ (ap (λ (w : world.Standing). query_of w.state c.args.text.now) c.world-world.ensures ∙ asked) in
    let one : c.in_ok-query.query ≡ q = cc in
    ap (λ (s : Standing). s.compared) c.in_ok-hold.ensures.held
    ∙ (c.in_ok-stored.ensures.counted
    ∙ (λ i. counted_for c.args.kind (one i) (c.compared-compared.ensures i)))

pub returns-clause-grows : goal.returns-clause-grows
returns-clause-grows g c =
    let before = c.compared-compared.ensures in
    let after = ap (λ (s : Standing). s.compared) c.in_ok-hold.ensures.held in
    omega (arith, before, after, c.stored_query.ensures.grows)

pub returns-clause-lists : goal.returns-clause-lists
returns-clause-lists g c =
    let h = held_of (c.in_ok-name.name, c.in_ok-stored.stored) in (
      h,
      ap (λ (s : Standing). s.stored) c.in_ok-hold.ensures.held,
      c.in_ok-name.ensures.ok,
      c.in_ok-stored.ensures.blank,
      subst (λ (w : world.Standing). IsPlannedIn w h.query (plan_of h)) c.world-world.ensures
          (subst (λ (q : Query). IsPlannedIn c.world-world.result.now q (plan_of h)) (sym c.in_ok-stored.ensures.query) c.in_ok-stored.ensures.planned),
      c.in_ok-stored.ensures.planned_at ∙ ap (λ (w : world.Standing). (w.tables).last) c.world-world.ensures,
    )

pub returns-clause-tables : goal.returns-clause-tables
returns-clause-tables g c = ap (λ (s : Standing). (s.world).tables) c.in_ok-hold.ensures.held

pub returns-in-Some-clause-compared : goal.returns-in-Some-clause-compared
returns-in-Some-clause-compared g c = grind arith

pub returns-in-Some-clause-counted : goal.returns-in-Some-clause-counted
returns-in-Some-clause-counted g c = grind arith

pub returns-in-Some-clause-grows : goal.returns-in-Some-clause-grows
returns-in-Some-clause-grows g c = grind arith

pub returns-in-Some-clause-lists : goal.returns-in-Some-clause-lists
returns-in-Some-clause-lists g c = grind arith

pub returns-in-Some-clause-tables : goal.returns-in-Some-clause-tables
returns-in-Some-clause-tables g c = grind arith

pub returns-in_err-query-clause-compared : goal.returns-in_err-query-clause-compared
returns-in_err-query-clause-compared g c = grind arith

pub returns-in_err-query-clause-counted : goal.returns-in_err-query-clause-counted
returns-in_err-query-clause-counted g c = grind arith

pub returns-in_err-query-clause-grows : goal.returns-in_err-query-clause-grows
returns-in_err-query-clause-grows g c = grind arith

pub returns-in_err-query-clause-lists : goal.returns-in_err-query-clause-lists
returns-in_err-query-clause-lists g c = grind arith

pub returns-in_err-query-clause-tables : goal.returns-in_err-query-clause-tables
returns-in_err-query-clause-tables g c = grind arith

pub returns-in_err-stored-clause-answers : goal.returns-in_err-stored-clause-answers
returns-in_err-stored-clause-answers g c = grind arith

pub returns-in_err-stored-clause-compared : goal.returns-in_err-stored-clause-compared
returns-in_err-stored-clause-compared g c = grind arith

pub returns-in_err-stored-clause-counted : goal.returns-in_err-stored-clause-counted
returns-in_err-stored-clause-counted g c = grind arith

pub returns-in_err-stored-clause-grows : goal.returns-in_err-stored-clause-grows
returns-in_err-stored-clause-grows g c = grind arith

pub returns-in_err-stored-clause-lists : goal.returns-in_err-stored-clause-lists
returns-in_err-stored-clause-lists g c = grind arith

pub returns-in_err-stored-clause-tables : goal.returns-in_err-stored-clause-tables
returns-in_err-stored-clause-tables g c = grind arith

pub returns-in_err-name-clause-compared : goal.returns-in_err-name-clause-compared
returns-in_err-name-clause-compared g c = grind arith

pub returns-in_err-name-clause-grows : goal.returns-in_err-name-clause-grows
returns-in_err-name-clause-grows g c = grind arith

pub returns-in_err-name-clause-tables : goal.returns-in_err-name-clause-tables
returns-in_err-name-clause-tables g c = grind arith

pub returns-in_err-hold-clause-answers : goal.returns-in_err-hold-clause-answers
returns-in_err-hold-clause-answers g c = grind arith

pub returns-in_err-hold-clause-compared : goal.returns-in_err-hold-clause-compared
returns-in_err-hold-clause-compared g c = grind arith

pub returns-in_err-hold-clause-counted : goal.returns-in_err-hold-clause-counted
returns-in_err-hold-clause-counted g c = grind arith

pub returns-in_err-hold-clause-grows : goal.returns-in_err-hold-clause-grows
returns-in_err-hold-clause-grows g c = grind arith

pub returns-in_err-hold-clause-lists : goal.returns-in_err-hold-clause-lists
returns-in_err-hold-clause-lists g c = grind arith

pub returns-in_err-hold-clause-tables : goal.returns-in_err-hold-clause-tables
returns-in_err-hold-clause-tables g c = grind arith
