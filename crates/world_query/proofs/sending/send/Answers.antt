-- What is written is what the writer is given.
use Rattle.std.proofs.Common.{refl, subst}
use Rattle.std.specs.Io.KnownBytes.{Appends}
use Rattle.ecs_print.proofs.Stops.{on_err_anyway}
use Rattle.script_streams.specs.Streams.{TakesFront}
use Rattle.world_query.proofs.SentTexts.{no_memory, sent_off, stops_off}
use Rattle.world_query.proofs.sending.send.Goals as goal

pub returns-clause-sent : goal.returns-clause-sent
returns-clause-sent g c = sent_off _ _ _ _ (subst (Appends _ _) c.as_slice.ensures c.in_ok-write_all.ensures.ok) c.clear.ensures

pub returns-in_err-write_all-clause-front : goal.returns-in_err-write_all-clause-front
returns-in_err-write_all-clause-front g c = λ text. on_err_anyway _ (stops_off _ _ _ _ text (no_memory _ c.from_residual.ensures.1) (subst (TakesFront _ _) c.as_slice.ensures c.in_err-write_all.ensures.front) refl)
