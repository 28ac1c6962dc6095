use Rattle.std.proofs.Common.{arith, None}
use Rattle.std.proofs.lemmas.Str.Pattern.{split_once_first}
use Rattle.script_line.proofs.NamedReferences.{no_comma}
use Rattle.script_line.proofs.references.pair_in.Goals as goal

pub returns-in_err-relationship : goal.returns-in_err-relationship
returns-in_err-relationship c =
    rw c.from_residual.ensures (no_comma c.args.text.now (split_once_first 44 c.args.text.now None c.in_err-relationship.ensures.cases (omega arith)))
