use Rattle.std.proofs.Common.{arith, None}
use Rattle.std.proofs.lemmas.Str.Pattern.{split_once_first}
use Rattle.script_line.proofs.NamedReferences.{no_bracket}
use Rattle.script_line.proofs.references.any_pair_and_rest.Goals as goal

pub returns-in_err-inside : goal.returns-in_err-inside
returns-in_err-inside c =
    rw c.from_residual.ensures (no_bracket c.args.text.now (split_once_first 41 c.args.text.now None c.in_err-inside.ensures.cases (omega arith)))
