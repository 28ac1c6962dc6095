use Rattle.std.proofs.Common.{refl, sym, ◌∙◌}
use Rattle.std.proofs.lemmas.Bool.{eqb-false}
use Rattle.std.proofs.lemmas.Result.{on_ok_weaker}
use Rattle.world_query.proofs.SentTexts.{calm_ok}
use Rattle.world_script.proofs.RunEnds.{HasEnded-line}
use Rattle.world_script.proofs.SentFronts.{HasEnded-sent}
use Rattle.world_script.proofs.runners.Runner.run_last.Goals as goal

pub returns-clause-ended : goal.returns-clause-ended
returns-clause-ended g c = λ told left old so.
    let some = eqb-false _ _ (sym c.is_empty.ensures ∙ c.if-is_empty.false) in
    let run = rw c.front-2.ensures at c.run_next.ensures.ran in
    on_ok_weaker _ (λ run. HasEnded-sent _ _ _ _ _ _ _ _ run.1 (HasEnded-line _ _ _ _ _ _ _ _ _ _ _ c.requires.taken (rw c.front.ensures at some) run.2 so)) run

pub returns-clause-kept : goal.returns-clause-kept
returns-clause-kept g c = c.run_next.ensures.kept refl

pub returns-then-is_empty-clause-writes : goal.returns-then-is_empty-clause-writes
returns-then-is_empty-clause-writes g c = calm_ok _ _ _ (λ calm. calm)
