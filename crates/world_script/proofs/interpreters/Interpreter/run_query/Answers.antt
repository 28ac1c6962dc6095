use Rattle.std.proofs.Common.{refl}
use Rattle.std.specs.Prelude.{Err}
use Rattle.world_query.specs.declared.sending.SendError.TheVariants.{Memory}
use Rattle.world_script.proofs.Orders.{IsDone-rows, IfOk-fault}
use Rattle.world_query.proofs.SentTexts.{calm_ok, calm_still, fails_same}
use Rattle.world_script.proofs.SentFronts.{asked_stops, does_as, does_err, does_memory}
use Rattle.world_script.proofs.interpreters.Interpreter.run_query.Goals as goal

pub returns-in-Err-Fault : goal.returns-in-Err-Fault
returns-in-Err-Fault g c =
    does_as c.refuse_query.result _ c.unsent.ensures
    (IfOk-fault c.refuse_query.result c.args.self.now.session c.args.self.now.number c.args.self.now.output.items c.refuse_query.new.output.items c.world-world.result.now c.args.text.now
    c.in-Err-Fault.fault c.world-world.ensures (rw c.in-Err-Fault.field-0-is at c.in-Err-Fault.ensures) (rw c.in-Err-Fault.fault-is at c.refuse_query.ensures))

pub send_rows-requires : goal.send_rows-requires
send_rows-requires g c = record { asked = record { text = c.args.text.now; asks = c.in-Ok.ensures } }

pub returns : goal.returns
returns g c =
    let sends = c.in_ok-send_rows.ensures.rows in
    record {
      does = (
        sends.sent,
        sends.wrote,
        IsDone-rows c.args.self.now.session c.args.self.now.number c.args.self.now.output.items _ c.world-world.result.now c.args.text.now c.in-Ok.query c.world-world.ensures c.in-Ok.ensures sends.whole,
      );
      writes = calm_ok _ _ _ (λ calm. calm_still _ _ _ c.in_ok-send_rows.ensures.writes calm);
      kept = c.in_ok-send_rows.ensures.kept;
    }

pub returns-in_err-send_rows : goal.returns-in_err-send_rows
returns-in_err-send_rows g c = record {
  does = does_err c.in_err-send_rows.field-0.0 _ _ _ _ _ _ _ c.from_residual-in_err-send_rows.ensures.1
      (asked_stops c.args.self.now.session c.args.self.now.number _ _ c.args.self.now.output.items _ c.world-world.result.now c.args.text.now c.in-Ok.query c.world-world.ensures c.in-Ok.ensures c.in_err-send_rows.ensures.front);
  writes = fails_same c.in_err-send_rows.field-0.0 _ _ _ c.send_rows.result _ (λ calm. calm) c.in_err-send_rows.was c.from_residual-in_err-send_rows.ensures.1 c.send_rows.ensures.writes;
  kept = c.send_rows.ensures.kept;
}

pub returns-in_err-room : goal.returns-in_err-room
returns-in_err-room g c = does_memory _ c.from_residual.ensures.1

pub returns-in-Err-Memory : goal.returns-in-Err-Memory
returns-in-Err-Memory g c = does_memory (Err Memory) refl
