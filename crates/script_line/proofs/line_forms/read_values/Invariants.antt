-- what is read so far, before what the rest gives, is what the whole text gives
use Rattle.std.proofs.Common.{length}
use denote.Text.{Utf8}
use denote.Shadow.{shadow}
use Rattle.ecs_model.specs.Text.{words}
use Rattle.ecs_model.specs.Script.{value_of_word}
use Rattle.script_line.proofs.Readings.{IsReadSoFar}
use Rattle.script_line.proofs.line_forms.read_values.Given as goal

abbrev pub invariant-loop-word : goal.invariant-loop-word
invariant-loop-word g l = shadow (Utf8 l.rest) × IsReadSoFar value_of_word (words l.fn.text) l.values.items (words l.rest)

abbrev pub decreases-loop-word : goal.decreases-loop-word
decreases-loop-word g l = length l.rest
