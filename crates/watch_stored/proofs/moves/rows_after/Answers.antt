use Rattle.std.specs.Prelude.{List, ℕ}
use Rattle.std.specs.List.Sorted.{IsStrictlyIncreasing}
use Rattle.std.proofs.Common.{ap, subst, sym, true≢false, ◌∙◌}
use Rattle.query_model.specs.Query.{Query}
use Rattle.query_meaning.specs.Sound.{IsSound}
use Rattle.watch_touched.specs.Concerned.{is_concerned}
use Rattle.watch_touched.specs.Moving.{AreAllMoved, finds_moving}
use Rattle.watch_stored.proofs.AnswerableQueries.{asked_is_sound}
use Rattle.watch_stored.proofs.MovedEntities.{is_somebody, rows_before_ascend}
use Rattle.watch_stored.proofs.moves.rows_after.Goals as goal

pub who_may_have_moved-requires-clause-sound : goal.who_may_have_moved-requires-clause-sound
who_may_have_moved-requires-clause-sound g c = subst IsSound (sym c.asked-asked.ensures) (asked_is_sound (c.args.query.now.plan).query c.requires.current.asked)

pub rows_by_asking-requires-clause-ascends : goal.rows_by_asking-requires-clause-ascends
rows_by_asking-requires-clause-ascends g c =
    subst IsStrictlyIncreasing (sym c.requires.was) (rows_before_ascend c.args.effect.now.world.now.state c.args.effect.now.changes.now (c.args.query.now.plan).query c.requires.after)

pub rows_by_asking-requires-clause-told : goal.rows_by_asking-requires-clause-told
rows_by_asking-requires-clause-told g c =
    let w = c.args.effect.now.world.now.state in
    let changed = c.args.effect.now.changes.now in
    let all = c.in_ok-who_may_have_moved.ensures.all c.in-Few.is in
    let asked = subst (λ (q : Query). AreAllMoved q w changed c.who_may_have_moved.new.moving.items) c.asked-asked.ensures all in
    let these = subst (λ (es : List ℕ). AreAllMoved (c.args.query.now.plan).query w changed es) (sym c.as_slice.ensures) asked in
    (changed, c.requires.was, these)

-- ---- nobody has moved exactly where the command doesn't concern the query

pub returns-in-Nobody-clause-concerned : goal.returns-in-Nobody-clause-concerned
returns-in-Nobody-clause-concerned g c =
    sym (ap (λ q. is_concerned q c.args.effect.now.changes.now) (sym c.asked-asked.ensures) ∙ c.in_ok-who_may_have_moved.ensures.concerned c.in-Nobody.is)

pub returns-in-Nobody-clause-counted : goal.returns-in-Nobody-clause-counted
returns-in-Nobody-clause-counted g c loose concerned =
    let spared = ap (λ q. is_concerned q c.args.effect.now.changes.now) (sym c.asked-asked.ensures) ∙ c.in_ok-who_may_have_moved.ensures.concerned c.in-Nobody.is in
    absurd (true≢false (sym concerned ∙ spared))

pub returns-in-Few-clause-concerned : goal.returns-in-Few-clause-concerned
returns-in-Few-clause-concerned g c =
    is_somebody _ _ (λ none. c.in_ok-who_may_have_moved.ensures.nobody (ap (λ q. is_concerned q c.args.effect.now.changes.now) c.asked-asked.ensures ∙ none)) (λ same. absurd cc)

pub returns-in-Few-clause-counted : goal.returns-in-Few-clause-counted
returns-in-Few-clause-counted g c loose concerned =
    let changed = c.args.effect.now.changes.now in
    let unknown = c.in_ok-who_may_have_moved.ensures.unknown (ap (λ q. finds_moving q changed) c.asked-asked.ensures ∙ loose) (ap (λ q. is_concerned q changed) c.asked-asked.ensures ∙ concerned) in
    absurd cc

pub returns-clause-concerned : goal.returns-clause-concerned
returns-clause-concerned g c =
    is_somebody _ _ (λ none. c.in_ok-who_may_have_moved.ensures.nobody (ap (λ q. is_concerned q c.args.effect.now.changes.now) c.asked-asked.ensures ∙ none)) (λ same. absurd cc)

pub returns-clause-compared : goal.returns-clause-compared
returns-clause-compared g c none =
    let nobody = c.in_ok-who_may_have_moved.ensures.nobody (ap (λ q. is_concerned q c.args.effect.now.changes.now) c.asked-asked.ensures ∙ none) in
    absurd cc

pub returns-in_err-rows_by_all-in-Unknown-clause-compared : goal.returns-in_err-rows_by_all-in-Unknown-clause-compared
returns-in_err-rows_by_all-in-Unknown-clause-compared g c none =
    let nobody = c.in_ok-who_may_have_moved.ensures.nobody (ap (λ q. is_concerned q c.args.effect.now.changes.now) c.asked-asked.ensures ∙ none) in
    absurd cc
