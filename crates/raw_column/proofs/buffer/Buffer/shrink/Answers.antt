use Rattle.std.proofs.Common.{◌*◌, length, ap, ◌∙◌}
use Rattle.std.specs.List.{sum}
use Rattle.raw_column.specs.Places.{padded, resized}
use Rattle.raw_column.proofs.ShiftLemmas.{gathered_back, gathered_cut, length_gathered, length_padded}
use Rattle.raw_column.proofs.buffer.Buffer.shrink.Goals as goal

pub spread-requires-clause-all : goal.spread-requires-clause-all
spread-requires-clause-all g c =
    let ss = c.args.sizes.now in let bs = c.args.self.now in let b = c.gather.new.self in (
      ap length c.in-Err.ensures.err ∙ length_padded (c.args.to * c.width.result) b ∙ ap length c.gather.ensures
          ∙ length_gathered c.args.len c.args.from c.args.to ss bs c.requires.rows.0 c.requires.rows.1 c.requires.all.0,
      c.requires.all.1,
    )

pub returns-in-Ok-clause-ok : goal.returns-in-Ok-clause-ok
returns-in-Ok-clause-ok g c =
    let ss = c.args.sizes.now in let bs = c.args.self.now in let n = c.args.len in let from = c.args.from in let to = c.args.to in let m = to * sum ss in
    c.in-Ok.ensures.ok ∙ ap (λ j. padded (to * j) (to * j) c.gather.new.self) c.width.ensures.sum ∙ ap (padded m m) c.gather.ensures
    ∙ gathered_cut n from to ss bs c.requires.rows.0 c.requires.rows.1 c.requires.all.0

pub returns-in-Err-clause-err : goal.returns-in-Err-clause-err
returns-in-Err-clause-err g c =
    let ss = c.args.sizes.now in let bs = c.args.self.now in let n = c.args.len in let from = c.args.from in let to = c.args.to in let m = to * sum ss in
    c.spread.ensures ∙ ap (resized n to from ss) (c.in-Err.ensures.err ∙ ap (λ j. padded (to * j) (length c.gather.new.self) c.gather.new.self) c.width.ensures.sum ∙ ap (λ b. padded m (length b) b) c.gather.ensures)
    ∙ gathered_back n from to ss bs c.requires.rows.0 c.requires.rows.1 c.requires.all.0
