-- What is left is no more than may wait, or nothing.
use Rattle.std.proofs.Common.{◌≤◌, arith, length, refl, subst, sym}
use Rattle.std.proofs.lemmas.Result.{on_ok_weaker}
use Rattle.world_query.proofs.sending.Outlet.send_beyond.Goals as goal

pub returns : goal.returns
returns g c = record {
  outlet = record { most = refl; writer = refl; kept = λ is. absurd (omega arith) };
  sent = c.send.ensures.sent;
  unsent = on_ok_weaker c.send.result (λ none. subst (λ s. length s ≤ c.args.self.now.most) (sym none) (omega arith)) c.send.ensures.none;
  front = c.send.ensures.front;
  same = c.send.ensures.same;
  writes = c.send.ensures.writes;
}
