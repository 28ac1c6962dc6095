use Rattle.std.specs.Prelude.{Some, None, if◌then◌else◌}
use Rattle.std.proofs.Common.{◌≡◌, ap, sym, ◌∙◌}
use Rattle.ecs_observe.proofs.Tellings.{waits_after}
use Rattle.ecs_observe.proofs.commands.answer.Goals as goal
use Rattle.ecs_observe.specs.Stored.{entries_of}
use Rattle.ecs_observe.proofs.commands.answer.Goals.{then-has_watch, else-has_watch}

pub returns : goal.returns
returns g c =
    let after : c.if-has_watch.after ≡ (if c.has_watch.result then Some c.in_ok-changes.changes else None) = elim c.if-has_watch.branch [
      | then-has_watch w ↦ w.after-is ∙ ap (λ b. if b then Some c.in_ok-changes.changes else None) (sym w.if-has_watch.true)
      | else-has_watch w ↦ w.after-is ∙ ap (λ b. if b then Some c.in_ok-changes.changes else None) (sym w.if-has_watch.false)
    ] in
    waits_after (entries_of c.args.stored.now) c.args.waiting.now c.args.done c.in_ok-changes.changes c.born-born.result c.has_watch.result _ c.in_ok-changes.was c.born-born.ensures c.has_watch.ensures after
