use Rattle.std.proofs.Common.{◌≡◌, ◌*◌, length, [], map, ap, sym, subst, ◌∙◌, arith}
use Rattle.std.specs.List.{sum}
use Rattle.raw_column.specs.Buffer.{IsPlaced, bytes_of}
use Rattle.raw_column.specs.Places.{columns_in, gap_filled}
use Rattle.raw_column.proofs.PlaceLemmas.{lent_whole, no_columns, read_whole}
use Rattle.raw_column.proofs.buffer.Buffer.remove_row.Goals.{in-Some, in_default}
use Rattle.raw_column.proofs.buffer.Buffer.remove_row.Goals as goal

pub returns-clause-columns : goal.returns-clause-columns
returns-clause-columns g c = elim c.match-self.branch [
  | in-Some w ↦
      let held = w.in-Some.held in let old = held.bytes.items in let new = w.remove_each.new.bytes in let ss = c.args.sizes.now in let at = c.args.capacity in
      let shown : old ≡ c.args.self.now = ap bytes_of (sym w.in-Some.is) ∙ c.self.view_is in
      let long : length old ≡ held.len = (subst (λ o. IsPlaced o c.self.inside.alloc) w.in-Some.is c.self.invariant).1 in
      let lent : w.slice_mut-bytes.result.now ≡ old = w.slice_mut-bytes.ensures.value ∙ read_whole held.len old long in
      let same : length new ≡ held.len = w.remove_each.auto.bytes ∙ ap length lent ∙ long in
      rw w.self-inside-is (ap (columns_in at ss) (lent_whole held.len old new long same) ∙ w.remove_each.ensures ∙ ap (λ l. map (gap_filled c.args.row c.args.last) (columns_in at ss l)) (lent ∙ shown))
  | in_default w ↦
      let none : [] ≡ c.args.self.now = ap bytes_of (sym w.in_default.is) ∙ c.self.view_is in let ss = c.args.sizes.now in let at = c.args.capacity in
      let empty : at * sum ss ≡ 0 = sym c.requires.all.0 ∙ sym (ap length none) in
      let gone : ss ≡ [] = no_columns at ss (omega (arith, c.requires.row)) c.requires.sized empty in
      rw w.self-inside-is (ap (λ l. columns_in at l (bytes_of c.self.inside.allocation)) gone ∙ sym (ap (λ l. map (gap_filled c.args.row c.args.last) (columns_in at l c.args.self.now)) gone))
]
