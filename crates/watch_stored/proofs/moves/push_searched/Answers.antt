use Rattle.std.specs.Prelude.{Contains, filter}
use Rattle.std.specs.List.Sorted.{IsStrictlyIncreasing}
use Rattle.std.proofs.Common.{◌++◌, List, ℕ, ap, get_or, subst, sym, ◌∙◌}
use Rattle.std.proofs.lemmas.List.Elements.{Contains-get_or}
use Rattle.std.proofs.lemmas.List.Kept.{IsStrictlyIncreasing-filter}
use Rattle.ecs_model.specs.rows.View.{view_of}
use Rattle.ecs_model.specs.stored.Watches.{matching}
use Rattle.ecs_model.proofs.Members.{filtered}
use Rattle.query_meaning.specs.Sound.{IsSound}
use Rattle.watch_touched.proofs.AskedEntities.{untold_lives}
use Rattle.watch_stored.specs.Moves.{is_among, is_untold}
use Rattle.watch_stored.proofs.AnswerableQueries.{asked_is_sound}
use Rattle.watch_stored.proofs.MovedEntities.{found_is, moves_more}
use Rattle.watch_stored.proofs.moves.push_searched.Goals as goal

pub push_untold-requires : goal.push_untold-requires
push_untold-requires g c = record { sound = subst IsSound (sym c.asked-asked.ensures) (asked_is_sound (c.args.question.now.query.now.plan).query c.requires.current.asked) }

pub found_among-requires-clause-live : goal.found_among-requires-clause-live
found_among-requires-clause-live g c =
    let w = c.args.question.now.world.now.state in
    let q = c.asked-asked.result in
    let are = c.as_slice.ensures ∙ c.in_ok-push_untold.ensures ∙ (λ i. c.new-untold.ensures i ++ filter (is_untold q w) c.args.moving.now) in
    λ k d low.
    untold_lives w q _ ((filtered (is_untold q w) c.args.moving.now _).0 (subst (λ (es : List ℕ). Contains es (get_or c.as_slice.result.now k d)) are (Contains-get_or _ k d low))).1

pub is_told_or_found-is-requires-clause-sound : goal.is_told_or_found-is-requires-clause-sound
is_told_or_found-is-requires-clause-sound g c = subst IsSound (sym c.asked-asked.ensures) (asked_is_sound (c.args.question.now.query.now.plan).query c.requires.current.asked)

pub is_told_or_found-is-requires-clause-ascend : goal.is_told_or_found-is-requires-clause-ascend
is_told_or_found-is-requires-clause-ascend g c =
    let w = c.args.question.now.world.now.state in
    let q = c.asked-asked.result in
    let now = matching (view_of w) (c.args.question.now.query.now.plan).query in
    let untold = c.as_slice.ensures ∙ c.in_ok-push_untold.ensures ∙ (λ i. c.new-untold.ensures i ++ filter (is_untold q w) c.args.moving.now) in
    let asked = subst IsStrictlyIncreasing (sym untold) (IsStrictlyIncreasing-filter (is_untold q w) c.args.moving.now c.requires.ascend) in
    subst IsStrictlyIncreasing (sym (c.as_slice-found.ensures ∙ c.in_ok-found.ensures)) (IsStrictlyIncreasing-filter (is_among now) c.as_slice.result.now asked)

pub is_told_or_found-is-requires-clause-found : goal.is_told_or_found-is-requires-clause-found
is_told_or_found-is-requires-clause-found g c asked =
    let w = c.args.question.now.world.now.state in
    let q = c.asked-asked.result in
    let moving = c.args.moving.now in
    let k = c.loop-entity.entity-index in
    let now = matching (view_of w) (c.args.question.now.query.now.plan).query in
    let untold = c.as_slice.ensures ∙ c.in_ok-push_untold.ensures ∙ (λ i. c.new-untold.ensures i ++ filter (is_untold q w) moving) in
    found_is (is_among now) (is_untold q w) moving c.as_slice.result.now c.as_slice-found.result.now untold (c.as_slice-found.ensures ∙ c.in_ok-found.ensures)
    (get_or moving k 0) (Contains-get_or moving k 0 c.loop-entity-test.true) asked
    ∙ ap (λ q. is_among (matching (view_of w) q) (get_or moving k 0)) (sym c.asked-asked.ensures)

pub loop-entity-preserved : goal.loop-entity-preserved
loop-entity-preserved g c =
    let is = c.is_told_or_found-is.ensures ∙ ap (λ q. is_among (matching (view_of c.args.question.now.world.now.state) q) (get_or c.args.moving.now c.loop-entity.entity-index 0)) c.asked-asked.ensures in
    let more = c.in_ok-push_move.ensures in
    moves_more c.args.question.now c.args.moving.now c.loop-entity.entity-index c.args.rows.now c.loop-entity.rows _ _ c.loop-entity-test.true c.loop-entity.invariant is more.left more.entered more.these
