use Rattle.std.proofs.Common.{ap, ◌∙◌}
use Rattle.ecs_model.specs.BitWords.{has_bit}
use Rattle.ecs_model.proofs.Bits.{has_tests}
use Rattle.watch_index.proofs.marks.Marks.has.Goals as goal

pub returns : goal.returns
returns c = has_tests c.args.self.now.words c.mark_of-mark.result ∙ ap (has_bit c.args.self.now.words) c.mark_of-mark.ensures.mark
