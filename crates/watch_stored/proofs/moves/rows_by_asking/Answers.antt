use Rattle.std.specs.Prelude.{◌≡◌, ◌++◌, filter}
use Rattle.std.proofs.Common.{ap, refl, ◌∙◌}
use Rattle.ecs_model.specs.stored.Watches.{missing_from}
use Rattle.short_list.specs.Items.{Items}
use Rattle.watch_stored.specs.Moves.{enters, leaves, rows_now, rows_then}
use Rattle.watch_stored.specs.Parts.{kept_rows}
use Rattle.watch_stored.proofs.AnswerableQueries.{matching_ascends}
use Rattle.watch_stored.proofs.MovedEntities.{entered_are, left_are, moved_are}
use Rattle.watch_stored.proofs.moves.rows_by_asking.Goals as goal

pub returns : goal.returns
returns g c =
    let w = c.args.question.now.world.now.state in
    let q = (c.args.question.now.query.now.plan).query in
    let before = rows_then c.args.question.now in
    let now = rows_now c.args.question.now in
    let moving = c.args.moving.now in
    let up = matching_ascends w q c.keeps.ensures in
    let pushed = c.push_moves.new.rows in
    let left : pushed.left.items ≡ missing_from before now
    = c.in_ok-push_moves.ensures.left ∙ (λ i. c.requires.none.left i ++ filter (leaves before now) moving) ∙ left_are w q before moving c.requires.told c.requires.ascends now refl up in
    let entered : pushed.entered.items ≡ missing_from now before
    = c.in_ok-push_moves.ensures.entered ∙ (λ i. c.requires.none.entered i ++ filter (enters before now) moving) ∙ entered_are w q before moving c.requires.told c.requires.ascends now refl up in
    record {
      left = ap (λ (l : Items). l.items) c.in_ok-fill_set.ensures.left ∙ left;
      entered = ap (λ (l : Items). l.items) c.in_ok-fill_set.ensures.entered ∙ entered;
      these = moved_are before now pushed.left.items pushed.entered.items (kept_rows c.fill_set.new.rows c.args.question.now.query.now.these).items left entered
          c.in_ok-fill_set.ensures.ascends up c.in_ok-fill_set.ensures.members;
    }
