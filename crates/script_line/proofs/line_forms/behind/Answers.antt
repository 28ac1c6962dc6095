use Rattle.std.proofs.Common.{◌<◌, get_or, arith, rules}
use Rattle.std.proofs.lemmas.Str.{IsCharBoundary-before_ascii}
use Rattle.script_line.proofs.line_forms.behind.Goals as goal

pub split_at-requires : goal.split_at-requires
split_at-requires c = let ascii : get_or c.args.text.now c.args.count 0 < 128 = omega (arith, c.requires.space) in
    search (rules, IsCharBoundary-before_ascii c.args.text.now c.args.count c.requires.within ascii)
