use Rattle.std.proofs.Common.{◌≡◌, ◌*◌, ap, ◌∙◌}
use Rattle.std.specs.List.{sum}
use Rattle.raw_column.specs.Places.{padded, resized}
use Rattle.raw_column.proofs.ShiftLemmas.{resized_padded}
use Rattle.raw_column.proofs.buffer.Buffer.grow.Goals as goal

pub returns-clause-ok : goal.returns-clause-ok
returns-clause-ok g c =
    let ss = c.args.sizes.now in let bs = c.args.self.now in let n = c.args.len in let from = c.args.from in let to = c.args.to in
    let size : to * c.width.result ≡ to * sum ss = ap (λ j. to * j) c.width.ensures.sum in
    c.spread.ensures ∙ ap (resized n from to ss) (c.in_ok-set_len.ensures.ok ∙ ap (λ j. padded j j bs) size) ∙ resized_padded n from to ss bs c.requires.rows.0 c.requires.rows.1 c.requires.old
