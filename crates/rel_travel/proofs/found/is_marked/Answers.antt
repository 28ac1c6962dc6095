use Rattle.rel_travel.proofs.Marks.{mark_read}
use Rattle.rel_travel.proofs.found.is_marked.Goals as goal

pub returns : goal.returns
returns c = rw (c.word_of.ensures, c.bit_of.ensures) (mark_read c.args.words.now c.args.index)
