-- As many as stand there.
use Rattle.std.proofs.Common.{◌≡◌, [], ap, arith, length, map}
use Rattle.query_model.specs.Query.{checked_entries, checked_entries_from}
use Rattle.query_check.specs.Seen.{seen_piece}
use Rattle.query_check.proofs.Entries.{as_many}
use Rattle.query_check.proofs.query.Query.items.Goals as goal

pub returns : goal.returns
returns g c =
    let inside = c.self.inside in
    let ps = map seen_piece inside.pieces.items in
    let there = as_many ps in
    let same : length (checked_entries_from 0 [] ps) ≡ length (checked_entries c.args.self.now) = ap (λ q. length (checked_entries q)) c.self.view_is in
    omega (arith, c.len.ensures, ap length c.self.invariant.0, there, same, inside.numbered.ok.0)
