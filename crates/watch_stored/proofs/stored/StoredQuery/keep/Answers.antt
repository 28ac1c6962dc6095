use Rattle.std.proofs.Common.{sym, ◌∙◌}
use Rattle.watch_stored.proofs.KeptRows.{kept_in_place, kept_made}
use Rattle.watch_stored.proofs.stored.StoredQuery.keep.Goals as goal

pub returns-in_default : goal.returns-in_default
returns-in_default g c = kept_in_place c.args.rows.now c.args.self.now c.as_slice.result.now c.as_slice-in_default.result.now c.exchange.new.self (sym c.take.ensures.value ∙ c.in_default.is) c.exchange.ensures c.as_slice.ensures c.as_slice-in_default.ensures

pub returns : goal.returns
returns g c = kept_made c.args.rows.now c.args.self.now c.in-Some.these (sym c.take.ensures.value ∙ c.in-Some.is)
