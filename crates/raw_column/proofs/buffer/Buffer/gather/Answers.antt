use Rattle.std.proofs.Common.{◌≡◌, ◌*◌, ◌++◌, drop, length, [], ap, sym, subst, ◌∙◌}
use Rattle.std.specs.List.{sum}
use Rattle.raw_column.specs.Buffer.{IsPlaced, bytes_of}
use Rattle.raw_column.specs.Places.{resized}
use Rattle.raw_column.proofs.PlaceLemmas.{lent_whole, read_whole}
use Rattle.raw_column.proofs.ShiftLemmas.{gathered_none}
use Rattle.raw_column.proofs.buffer.Buffer.gather.Goals.{in-Some, in_default}
use Rattle.raw_column.proofs.buffer.Buffer.gather.Goals as goal

pub returns : goal.returns
returns g c = elim c.match-self.branch [
  | in-Some w ↦
      let held = w.in-Some.held in let old = held.bytes.items in let new = w.gather.new.bytes in let ss = c.args.sizes.now in
      let shown : old ≡ c.args.self.now = ap bytes_of (sym w.in-Some.is) ∙ c.self.view_is in
      let long : length old ≡ held.len = (subst (λ o. IsPlaced o c.self.inside.alloc) w.in-Some.is c.self.invariant).1 in
      let lent : w.slice_mut.result.now ≡ old = w.slice_mut.ensures.value ∙ read_whole held.len old long in
      let same : length new ≡ held.len = w.gather.auto.bytes ∙ ap length lent ∙ long in
      rw w.self-inside-is (lent_whole held.len old new long same ∙ w.gather.ensures ∙ ap (λ l. resized c.args.len c.args.from c.args.to ss l ++ drop (c.args.to * sum ss) l) (lent ∙ shown))
  | in_default w ↦
      let none : [] ≡ c.args.self.now = ap bytes_of (sym w.in_default.is) ∙ c.self.view_is in let ss = c.args.sizes.now in
      rw w.self-inside-is (ap bytes_of w.in_default.is ∙ sym (gathered_none c.args.len c.args.from c.args.to ss c.args.self.now c.requires.rows.0 c.requires.rows.1 (sym none) c.requires.all.0))
]
