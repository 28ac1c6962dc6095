use Rattle.std.proofs.Common.{arith, rules}
use Rattle.std.proofs.lemmas.Grind.{common_steps}
use Rattle.script_line.proofs.Cuts.{cut_before_blanks, without_blanks_at_end}
use Rattle.script_line.proofs.blanks.trimmed.Goals as goal

pub range-requires-clause-end_boundary : goal.range-requires-clause-end_boundary
range-requires-clause-end_boundary c = search (rules, cut_before_blanks)

pub returns : goal.returns
returns c =
    let left = without_blanks_at_end c.trim_front-text.result.now in
    grind (arith, common_steps, left)
