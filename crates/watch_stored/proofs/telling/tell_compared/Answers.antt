use Rattle.std.proofs.Common.{◌++◌, append-nil, ap, rules, subst, sym, ◌∙◌}
use Rattle.std.specs.Prelude.{◌≡◌, ◌&&◌, false}
use Rattle.ecs_print.specs.Stops.{StopsWithin}
use Rattle.ecs_print.proofs.Stops.{on_err_anyway}
use Rattle.watch_touched.specs.Concerned.{is_concerned}
use Rattle.watch_events.specs.Told.{told_of_moves}
use Rattle.watch_stored.specs.Telling.{held_by}
use Rattle.watch_stored.proofs.StayingRows.{none_put, nothing_told, rows_were, some_put, spared_isnt_taken, taken_isnt_followed, told_of_compared}
use Rattle.watch_stored.proofs.telling.tell_compared.Goals as goal

pub rows_after-requires-clause-was : goal.rows_after-requires-clause-was
rows_after-requires-clause-was g c =
    rows_were c.args.effect.now.world.now.state c.args.effect.now.changes.now (held_by c.args.listener.now) c.requires.listening.was c.requires.compared

-- ---- where the command doesn't concern the query

pub returns-then-not-branch-clause-rows : goal.returns-then-not-branch-clause-rows
returns-then-not-branch-clause-rows g c =
    let changed = c.args.effect.now.changes.now in
    let h = held_by c.args.listener.now in
    let spared : is_concerned h.query changed ≡ false = sym c.in_ok-rows_after.ensures.concerned ∙ c.if-not-branch.true in
    none_put c.args.effect.now.world.now.state changed h (ap (λ b. b && is_concerned h.query changed) c.requires.compared ∙ spared)

pub returns-then-not-branch-clause-told : goal.returns-then-not-branch-clause-told
returns-then-not-branch-clause-told g c =
    let changed = c.args.effect.now.changes.now in
    let h = held_by c.args.listener.now in
    let spared = sym c.in_ok-rows_after.ensures.concerned ∙ c.if-not-branch.true in
    let listening = c.requires.listening in
    record {
      told = sym (ap (λ es. c.args.events.now.items ++ es) (nothing_told c.args.effect.now.world.now.state changed h c.keeps.ensures listening.after listening.was c.requires.compared spared)
          ∙ append-nil c.args.events.now.items);
      front = tt;
    }

-- ---- where it does

pub returns-clause-rows : goal.returns-clause-rows
returns-clause-rows g c =
    let h = held_by c.args.listener.now in
    let concerned = sym c.in_ok-rows_after.ensures.concerned ∙ c.if-not-branch.false in
    some_put c.args.effect.now.world.now.state c.args.effect.now.changes.now h c.requires.compared concerned _ (c.in_ok-rows_after.ensures.moves c.if-not-branch.false).these

pub returns-clause-told : goal.returns-clause-told
returns-clause-told g c =
    let w = c.args.effect.now.world.now.state in
    let changed = c.args.effect.now.changes.now in
    let h = held_by c.args.listener.now in
    let left = c.as_slice.ensures ∙ (c.in_ok-rows_after.ensures.moves c.if-not-branch.false).left in
    let entered = c.as_slice-2.ensures ∙ (c.in_ok-rows_after.ensures.moves c.if-not-branch.false).entered in
    let told = (λ i. told_of_moves w changed (c.as_bytes-name.ensures.value i) (left i) (entered i)) ∙ told_of_compared w changed h c.requires.listening.was c.requires.compared in
    record { told = c.in_ok-tell_moves.ensures.told ∙ ap (λ es. c.args.events.now.items ++ es) told; front = tt }

-- ---- where memory is refused, the first events stand there

pub returns-in_err-tell_moves-clause-told : goal.returns-in_err-tell_moves-clause-told
returns-in_err-tell_moves-clause-told g c =
    let w = c.args.effect.now.world.now.state in
    let changed = c.args.effect.now.changes.now in
    let h = held_by c.args.listener.now in
    let left = c.as_slice.ensures ∙ (c.in_ok-rows_after.ensures.moves c.if-not-branch.false).left in
    let entered = c.as_slice-2.ensures ∙ (c.in_ok-rows_after.ensures.moves c.if-not-branch.false).entered in
    let told = (λ i. told_of_moves w changed (c.as_bytes-name.ensures.value i) (left i) (entered i)) ∙ told_of_compared w changed h c.requires.listening.was c.requires.compared in
    record { told = search rules; front = on_err_anyway _ (subst (StopsWithin c.args.events.now.items c.tell_moves.new.events.items) told c.in_err-tell_moves.ensures.front) }

-- ---- whole rows are counted where they are taken

pub returns-then-not-branch-clause-taken : goal.returns-then-not-branch-clause-taken
returns-then-not-branch-clause-taken g c = λ whole.
    let changed = c.args.effect.now.changes.now in
    let h = held_by c.args.listener.now in
    let spared = sym c.in_ok-rows_after.ensures.concerned ∙ c.if-not-branch.true in
    absurd (spared_isnt_taken changed h (ap (λ b. b && is_concerned h.query changed) c.requires.compared ∙ spared) whole)

pub returns-clause-taken : goal.returns-clause-taken
returns-clause-taken g c = λ whole.
    let concerned = sym c.in_ok-rows_after.ensures.concerned ∙ c.if-not-branch.false in
    c.in_ok-rows_after.ensures.counted (taken_isnt_followed c.args.effect.now.changes.now (held_by c.args.listener.now) whole) concerned
