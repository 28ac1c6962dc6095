use Rattle.std.proofs.Common.{ap, subst, sym, ◌∙◌}
use Rattle.ecs_model.specs.rows.View.{view_of}
use Rattle.ecs_model.specs.stored.Watches.{matching}
use Rattle.query_meaning.specs.Sound.{IsSound}
use Rattle.watch_stored.specs.Moves.{is_among}
use Rattle.watch_stored.proofs.AnswerableQueries.{asked_is_sound}
use Rattle.watch_stored.proofs.moves.is_in_rows.Goals as goal

pub told_by_ids-requires : goal.told_by_ids-requires
told_by_ids-requires g c = record { sound = subst IsSound (sym c.asked.ensures) (asked_is_sound (c.args.question.now.query.now.plan).query c.requires.current.asked) }

pub returns-in-Some : goal.returns-in-Some
returns-in-Some g c = c.in-Some.ensures.told ∙ ap (λ q. is_among (matching (view_of c.args.question.now.world.now.state) q) c.args.entity) c.asked.ensures

pub is_found-requires-clause-live : goal.is_found-requires-clause-live
is_found-requires-clause-live g c = c.in-None.ensures.untold
