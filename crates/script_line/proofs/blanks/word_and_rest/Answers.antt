use Rattle.std.proofs.Common.{rules}
use Rattle.script_line.proofs.Cuts.{cut_at_blank}
use Rattle.script_line.proofs.blanks.word_and_rest.Goals as goal

pub split_at-requires : goal.split_at-requires
split_at-requires c = search (rules, cut_at_blank)
