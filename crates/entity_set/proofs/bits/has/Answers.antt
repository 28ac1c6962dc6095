use Rattle.std.proofs.Common.{sym}
use Rattle.std.proofs.lemmas.List.{get_or_past}
use Rattle.ecs_model.proofs.Bits.{has_tests}
use Rattle.entity_set.proofs.Words.{has_none}
use Rattle.entity_set.proofs.bits.has.Goals as goal

pub returns-then-place-words : goal.returns-then-place-words
returns-then-place-words c = sym (has_none c.args.words.now c.args.number (get_or_past c.args.words.now _ 0 c.if-place-words.true))

pub returns : goal.returns
returns c = has_tests c.args.words.now c.args.number
