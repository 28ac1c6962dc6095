use Rattle.std.proofs.Common.{◌≡◌, ◌≤◌, drop, length}
use Rattle.script_explain.specs.Places.{text_behind}
use Rattle.script_explain.proofs.parts.text_start.Given as goal

abbrev pub invariant-loop-left : goal.invariant-loop-left
invariant-loop-left l = (l.at ≤ length l.fn.line) × (text_behind l.left (drop l.at l.fn.line) ≡ text_behind l.fn.words l.fn.line)

abbrev pub decreases-loop-left : goal.decreases-loop-left
decreases-loop-left l = l.left
