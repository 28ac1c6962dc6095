-- The rows of a kept query are sent, or there is none of the name.
use Rattle.std.proofs.Common.{subst, sym}
use Rattle.std.specs.Prelude.{ℕ, Err, IfOk, Option}
use Rattle.ecs_model.specs.Script.{AskKept}
use Rattle.ecs_model.specs.stored.Session.{SessionState}
use Rattle.ecs_observe.specs.Answers.{SendsKept}
use Rattle.ecs_observe.specs.Standing.{session_of}
use Rattle.ecs_observe.specs.declared.errors.SendRowsError.TheVariants as rows
use Rattle.ecs_observe.specs.declared.errors.SessionError.TheVariants.{Refused}
use Rattle.world_query.proofs.SentTexts.{calm_ok}
use Rattle.world_script.specs.Run.{IsDone, form_effect}
use Rattle.world_script.proofs.Orders.{IsDone-kept, IfOk-unkept}
use Rattle.world_script.proofs.SentFronts.{does_nothing_as, refused_calm, rows_calm, rows_fail, rows_stop}
use Rattle.world_script.proofs.interpreters.Interpreter.run_rows.Goals as goal

pub returns-in-Ok : goal.returns-in-Ok
returns-in-Ok g c =
    let sends = c.in-Ok.ensures.rows in
    record {
      does = (
        sends.2.sent,
        sends.2.wrote,
        rw c.send_kept_rows.ensures.same (IsDone-kept c.args.self.now.session c.args.self.now.number c.args.self.now.output.items _ c.args.name.now sends.0 sends.1 sends.2.whole),
      );
      writes = calm_ok _ _ _ (rows_calm _ _ _ c.in-Ok.ensures.writes);
      kept = c.send_kept_rows.ensures.kept;
    }

pub returns-in-Err-Refused : goal.returns-in-Err-Refused
returns-in-Err-Refused g c =
    let i = c.args.self.now in
    let told = c.tell_error.result in
    let sends : SendsKept {T = Option ℕ} c.args.most (Err (rows.Refused c.in-Err-Refused.reason)) (session_of i.session) c.args.name.now (g.W.Sink.contents c.args.writer.now) (g.W.Sink.contents c.send_kept_rows.new.writer)
    i.output.items c.send_kept_rows.new.out.items = rw c.in-Err-Refused.field-0-is at c.in-Err-Refused.ensures.rows in
    let P : SessionState → Type 0 = λ s. IfOk told (IsDone (form_effect i (AskKept c.args.name.now)) s i.output.items c.tell_error.new.output.items) in
    does_nothing_as _ _ _ _ _ _ _ _ sends.2 (refused_calm _ _ _ _ (rw c.in-Err-Refused.field-0-is at c.in-Err-Refused.ensures.writes)) c.send_kept_rows.ensures.kept told _ c.unsent.ensures
    (subst P (sym c.send_kept_rows.ensures.same)
    (IfOk-unkept told i.session i.number i.output.items _ c.args.name.now _ (Refused c.in-Err-Refused.reason) (sends.0, sends.1) c.tell_error.ensures))

pub returns-in-Err-Unsent : goal.returns-in-Err-Unsent
returns-in-Err-Unsent g c = record {
  does = rows_stop c.in-Err-Unsent.error c.args.most c.args.self.now.session c.args.self.now.number (g.W.Sink.contents c.args.writer.now) (g.W.Sink.contents c.send_kept_rows.new.writer) c.args.self.now.output.items c.send_kept_rows.new.out.items c.args.name.now
      (rw c.in-Err-Unsent.field-0-is at c.in-Err-Unsent.ensures.rows);
  writes = rows_fail _ _ c.in-Err-Unsent.error _ _ (rw c.in-Err-Unsent.field-0-is at c.in-Err-Unsent.ensures.writes);
  kept = c.send_kept_rows.ensures.kept;
}
