use Rattle.std.proofs.Common.{ap, arith, ◌∙◌}
use Rattle.name_index.specs.Short.{padded}
use Rattle.name_index.proofs.ShortLemmas.{key_of}
use Rattle.name_index.proofs.short.ShortName.new.Goals as goal

pub invariant_of-result : goal.invariant_of-result
invariant_of-result c = key_of c.args.text.now (omega arith) c.utf8.text _ (c.key_bytes.ensures ∙ ap padded c.as_bytes.ensures.value)
