-- The item stands where the table says.
use Rattle.std.proofs.Common.{◌≡◌, ◌∙◌, [], ap, arith, length, map}
use Rattle.query_model.specs.Query.{checked_entries, checked_entries_from}
use Rattle.query_check.specs.Numbered.{piece_or}
use Rattle.query_check.specs.Seen.{entry_at, seen_entry, seen_piece}
use Rattle.query_check.specs.declared.query.Piece.TheVariants.{Closing}
use Rattle.query_check.proofs.Entries.{as_many, entry_found, numbered_entries, piece_found}
use Rattle.query_check.proofs.query.Query.entry.Goals as goal

pub index-at-requires : goal.index-at-requires
index-at-requires g c =
    let inside = c.self.inside in
    let ps = map seen_piece inside.pieces.items in
    let there = as_many ps in
    let same : length (checked_entries_from 0 [] ps) ≡ length (checked_entries c.args.self.now) = ap (λ q. length (checked_entries q)) c.self.view_is in
    omega (arith, c.requires, ap length c.self.invariant.0, there, same, inside.numbered.ok.0)

pub returns : goal.returns
returns g c =
    let inside = c.self.inside in
    let ps = map seen_piece inside.pieces.items in
    let at = c.index-at.result.now in
    let found = c.get.ensures.lookup in
    entry_found ps inside.numbered.items (checked_entries c.args.self.now) c.args.number at (piece_or c.get.result) (seen_entry c.entry_in.result)
    (ap (map (entry_at ps)) c.self.invariant.0 ∙ numbered_entries ps ∙ ap checked_entries c.self.view_is) c.requires c.index-at.ensures
    (piece_found inside.pieces.items c.deref.result.now at.piece c.get.result (found.4 (omega arith) Closing) c.deref.ensures.value)
    c.entry_in.ensures
