use Rattle.std.specs.Prelude.{◌++◌, ◌∷◌, ◌-◌, [], length}
use Rattle.std.proofs.Common.{◌≡◌, ap, arith, inl, inr, refl, rules, subst, sym, ◌∙◌}
use Rattle.std.proofs.lemmas.List.{length-append, length-set}
use Rattle.std.proofs.lemmas.Result.{on_ok_weaker}
use Rattle.ecs_print.proofs.Stops.{on_err_anyway, stops_before}
use Rattle.watch_stored.specs.Moves.{AreNoMoves}
use Rattle.watch_stored.specs.Parts.{put_in}
use Rattle.watch_stored.specs.Telling.{held_by}
use Rattle.watch_stored.proofs.StayingRows.{isnt_searched, none_put, spared_isnt_taken}
use Rattle.watch_stored.proofs.PlacedMoves.{back, it_is, written}
use Rattle.watch_stored.proofs.telling.tell_one.Goals as goal

-- ---- who isn't compared

pub tell_uncompared-requires-clause-uncompared : goal.tell_uncompared-requires-clause-uncompared
tell_uncompared-requires-clause-uncompared g c = sym c.is_compared.ensures ∙ c.if-not-is_compared.true

pub returns-then-not-is_compared-clause-rows : goal.returns-then-not-is_compared-clause-rows
returns-then-not-is_compared-clause-rows g c =
    let w = c.args.effect.now.world.now.state in
    let changed = c.args.effect.now.changes.now in
    let h = held_by c.args.listener.now in
    let none = sym (none_put w changed h (isnt_searched changed h (sym c.is_compared.ensures ∙ c.if-not-is_compared.true))) in
    on_ok_weaker c.tell_uncompared.result (λ e. inl (none, refl)) c.tell_uncompared.ensures.told

pub returns-then-not-is_compared-clause-taken : goal.returns-then-not-is_compared-clause-taken
returns-then-not-is_compared-clause-taken g c = λ whole.
    let changed = c.args.effect.now.changes.now in
    let h = held_by c.args.listener.now in
    absurd (spared_isnt_taken changed h (isnt_searched changed h (sym c.is_compared.ensures ∙ c.if-not-is_compared.true)) whole)

-- ---- who is

pub tell_compared-requires-clause-compared : goal.tell_compared-requires-clause-compared
tell_compared-requires-clause-compared g c = sym c.is_compared.ensures ∙ c.if-not-is_compared.false

pub tell_compared-requires-clause-none : goal.tell_compared-requires-clause-none
tell_compared-requires-clause-none g c =
    let before = c.args.report.now.rows.items in
    let last : c.len-last.result - 1 ≡ length before = omega (arith, ap length c.in_ok-push.ensures.items, length-append before ((c.args.listener.now.place, c.new.result) ∷ [])) in
    subst (λ p. AreNoMoves p.1) (sym (c.index_mut.ensures.value ∙ it_is before c.push.new.self.items (c.args.listener.now.place, c.new.result) (c.len-last.result - 1) last c.in_ok-push.ensures.items c.index_mut.result.now)) c.new.ensures

-- where memory is refused, the first events stand there
pub returns-in_err-push-clause-told : goal.returns-in_err-push-clause-told
returns-in_err-push-clause-told g c = record { told = search rules; front = on_err_anyway _ (stops_before _ _) }

pub returns-then-put-clause-rows : goal.returns-then-put-clause-rows
returns-then-put-clause-rows g c =
    let before = c.args.report.now.rows.items in
    let rows = c.tell_compared.new.rows in
    let q = c.args.listener.now.query.now in
    let last : c.len-last.result - 1 ≡ length before = omega (arith, ap length c.in_ok-push.ensures.items, length-append before ((c.args.listener.now.place, c.new.result) ∷ [])) in
    let there = c.index_mut.ensures.value ∙ it_is before c.push.new.self.items (c.args.listener.now.place, c.new.result) (c.len-last.result - 1) last c.in_ok-push.ensures.items c.index_mut.result.now in
    inr (
      rows,
      (
        sym c.in_ok-put.ensures.rows ∙ ap (λ o. put_in o rows q.these) c.if-put.true,
        written before c.push.new.self.items (c.args.listener.now.place, c.new.result) (c.len-last.result - 1) last c.in_ok-push.ensures.items (c.index_mut.result.now.0, rows) ∙ ap (λ p. before ++ (p.0, rows) ∷ []) there,
      ),
    )

pub returns-clause-rows : goal.returns-clause-rows
returns-clause-rows g c =
    let before = c.args.report.now.rows.items in
    let rows = c.tell_compared.new.rows in
    let q = c.args.listener.now.query.now in
    let last : c.len-last.result - 1 ≡ length before = omega (arith, ap length c.in_ok-push.ensures.items, length-append before ((c.args.listener.now.place, c.new.result) ∷ [])) in
    inl (
      sym c.in_ok-put.ensures.rows ∙ ap (λ o. put_in o rows q.these) c.if-put.false,
      back before c.push.new.self.items (c.args.listener.now.place, c.new.result) (c.len-last.result - 1) last c.in_ok-push.ensures.items (c.index_mut.result.now.0, rows) c.pop.new.self.items _ c.pop.ensures.rest
          (omega (arith, length-set c.push.new.self.items (c.len-last.result - 1) (c.index_mut.result.now.0, rows))),
    )
