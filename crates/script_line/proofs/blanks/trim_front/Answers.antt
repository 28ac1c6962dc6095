use Rattle.std.proofs.Common.{rules}
use Rattle.script_line.proofs.Cuts.{cut_behind_blanks}
use Rattle.script_line.proofs.blanks.trim_front.Goals as goal

pub range_from-requires : goal.range_from-requires
range_from-requires c = search (rules, cut_behind_blanks)
